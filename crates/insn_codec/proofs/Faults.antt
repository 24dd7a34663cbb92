-- Sixteen bytes are those of a bundle, or have one first fault.
use Rattle.std.proofs.Common.{◌≡◌, inl, inr, ℕ, List, [], ◌∷◌, length, refl, subst, arith}
use Rattle.std.specs.Prelude.{◌≢◌}
use Rattle.first_fault.specs.Stages.{IsFirstFault, ArePassed}
use Rattle.first_fault.proofs.Laws as stages
use Rattle.bundle_bits.specs.declared.bundle.RawBundle.{RawBundle}
use Rattle.bundle_bits.specs.Laws.{OneRaw, SomeRaw}
use Rattle.ia_insn.specs.declared.choices.Unit.{Unit as ExecutionUnit}
use Rattle.ia_insn.specs.declared.choices.Unit.TheVariants.{L}
use Rattle.ia_program.specs.declared.bundle.Slots.{Slots}
use Rattle.ia_program.specs.declared.bundle.Slots.TheVariants.{Three, Long}
use Rattle.ia_program.specs.Templates.{IsTemplate, units_of}
use Rattle.insn_codec.specs.declared.bundle.SlotFault.{SlotFault}
use Rattle.insn_codec.specs.declared.bundle.SlotFault.TheVariants.{ReservedTemplate, Unlisted}
use Rattle.insn_codec.specs.Spelling.{StandIn, IsRawOf}
use Rattle.insn_codec.specs.SlotFaults.{HasInsn, HasLongInsn, slot_stages, bundle_stages, HasSlotFault}
use Rattle.insn_codec.specs.Laws.{OneFault, NoFaultWhereSpelled, FaultWhereNoneSpelled}
use Rattle.insn_codec.proofs.Slots.{template_units, parts_of}
use Rattle.insn_codec.proofs.Spellings.{same_raw}

-- Where the long instruction isn't a listed one, slot 1 is the first without an instruction.
pub long_unlisted : (u v w : ExecutionUnit) (words : List ℕ) (f : SlotFault) → v ≡ L → HasInsn u 0 words → f ≡ Unlisted 1
    → ¬ HasLongInsn words → IsFirstFault (slot_stages (u ∷ v ∷ w ∷ []) words) f
long_unlisted u L w words f long first e fails = inr (first, inl (tt, e, fails))
long_unlisted u v w words f long first e fails = absurd (cc)

-- Where the second of three instructions isn't a listed one, slot 1 is the first without an instruction.
pub second_unlisted : (u v w : ExecutionUnit) (words : List ℕ) (f : SlotFault) → v ≢ L → HasInsn u 0 words → f ≡ Unlisted 1
    → ¬ HasInsn v 1 words → IsFirstFault (slot_stages (u ∷ v ∷ w ∷ []) words) f
second_unlisted u L w words f short first e fails = absurd (short refl)
second_unlisted u v w words f short first e fails = inr (first, inl (tt, e, fails))

-- slot 2 is the first without an instruction.
pub third_unlisted : (u v w : ExecutionUnit) (words : List ℕ) (f : SlotFault) → v ≢ L → HasInsn u 0 words → HasInsn v 1 words
    → f ≡ Unlisted 2 → ¬ HasInsn w 2 words → IsFirstFault (slot_stages (u ∷ v ∷ w ∷ []) words) f
third_unlisted u L w words f short first second e fails = absurd (short refl)
third_unlisted u v w words f short first second e fails = inr (first, inr (second, inl (tt, e, fails)))

-- A template has a fault of its slots.
pub slot_fault : (bytes : List ℕ) (raw : RawBundle) (f : SlotFault) (units : List ExecutionUnit) → IsRawOf bytes raw
    → IsTemplate raw.template → units ≡ units_of raw.template → IsFirstFault (slot_stages units raw.slots) f → HasSlotFault bytes f
slot_fault bytes raw f units parts is same later =
    (raw, parts, inr (is, subst (λ (l : List ExecutionUnit). IsFirstFault (slot_stages l raw.slots) f) same later))

-- Where instructions have the words of the slots, each stage is passed, and the other way round.
slots_passed : (units : List ExecutionUnit) (slots : Slots) (words : List ℕ) → StandIn units slots words
    → ArePassed (slot_stages units words)
slots_passed (u ∷ L ∷ w ∷ []) (Three a b c) words s = absurd s.1.code
slots_passed (u ∷ L ∷ w ∷ []) (Long first long) words s = ((first, s.0), ((long, s.1), tt))
slots_passed (u ∷ v ∷ w ∷ []) (Three a b c) words s = ((a, s.0), ((b, s.1), ((c, s.2), tt)))
slots_passed (u ∷ v ∷ w ∷ []) (Long first long) words s = let e = s.2 in absurd cc
slots_passed units slots words s = absurd s

slots_stand : (units : List ExecutionUnit) (words : List ℕ) → length units ≡ 3 → ArePassed (slot_stages units words)
    → (slots : Slots) × StandIn units slots words
slots_stand (u ∷ L ∷ w ∷ []) words three p = (Long p.0.0 p.1.0.0, (p.0.1, p.1.0.1, refl))
slots_stand (u ∷ v ∷ w ∷ []) words three p = (Three p.0.0 p.1.0.0 p.1.1.0.0, (p.0.1, p.1.0.1, p.1.1.0.1))
slots_stand units words three p = absurd (omega arith)

-- A stage of one fault finds it once, and not where it is passed.
slots_sound : (units : List ExecutionUnit) (words : List ℕ) → stages.AreSound (slot_stages units words)
slots_sound (u ∷ L ∷ w ∷ []) words = (
  stages.unless_sound (HasInsn u 0 words) (Unlisted 0),
  (stages.unless_sound (HasLongInsn words) (Unlisted 1), tt),
)
slots_sound (u ∷ v ∷ w ∷ []) words = (
  stages.unless_sound (HasInsn u 0 words) (Unlisted 0),
  (stages.unless_sound (HasInsn v 1 words) (Unlisted 1), (stages.unless_sound (HasInsn w 2 words) (Unlisted 2), tt)),
)
slots_sound units words = tt

bundle_sound : (raw : RawBundle) → stages.AreSound (bundle_stages raw)
bundle_sound raw = (stages.unless_sound (IsTemplate raw.template) ReservedTemplate, slots_sound (units_of raw.template) raw.slots)

-- No stage of a slot is without its fault unless it is passed.
slots_not_open : (units : List ExecutionUnit) (words : List ℕ) → stages.AreNotOpen (slot_stages units words)
slots_not_open (u ∷ L ∷ w ∷ []) words = (
  stages.unless_not_open (HasInsn u 0 words) (Unlisted 0),
  λ _. (stages.unless_not_open (HasLongInsn words) (Unlisted 1), λ _. tt),
)
slots_not_open (u ∷ v ∷ w ∷ []) words = (
  stages.unless_not_open (HasInsn u 0 words) (Unlisted 0),
  λ _. (stages.unless_not_open (HasInsn v 1 words) (Unlisted 1), λ _. (stages.unless_not_open (HasInsn w 2 words) (Unlisted 2), λ _. tt)),
)
slots_not_open units words = tt

-- Bytes have one first fault.
pub one_fault : OneRaw → OneFault
one_fault raws bytes f g a b =
    let same = same_raw raws bytes a.0 b.0 a.1 b.1 in
    stages.one_fault (bundle_stages b.0) (bundle_sound b.0) f g (subst (λ (r : RawBundle). IsFirstFault (bundle_stages r) f) same a.2) b.2

-- The bytes of a bundle have no fault.
pub no_fault_where_spelled : OneRaw → NoFaultWhereSpelled
no_fault_where_spelled raws b bytes f s a =
    let p = parts_of b bytes a.0 s (same_raw raws bytes s.raw a.0 s.parts a.1) in
    stages.no_fault (bundle_stages a.0) (bundle_sound a.0) (p.template, slots_passed (units_of a.0.template) b.slots a.0.slots p.slots) f
    a.2

-- Bytes that are those of no bundle have a fault.
pub fault_where_none_spelled : SomeRaw → FaultWhereNoneSpelled
fault_where_none_spelled some bytes are none faultless =
    let raw = some bytes are in
    let parts : IsRawOf bytes raw.0 = record { widths = raw.1; number = raw.2 } in
    stages.not_without (bundle_stages raw.0)
    (stages.unless_not_open (IsTemplate raw.0.template) ReservedTemplate, λ _. slots_not_open (units_of raw.0.template) raw.0.slots)
    (λ f is. faultless f (raw.0, parts, is))
    (λ passed. let s = slots_stand (units_of raw.0.template) raw.0.slots (template_units raw.0.template passed.0) passed.1 in
    none (record { template = raw.0.template; slots = s.0 }) (record {
      raw = raw.0;
      parts = parts;
      are = are;
      code = refl;
      template = passed.0;
      slots = s.1;
    }))
