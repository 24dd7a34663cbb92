-- The window goes over the sequence of a text while its stops are set.
use Rattle.std.proofs.Common.{◌≡◌, ◌+◌, ◌<◌, ◌≤◌, ℕ, zero, suc, Bool, true, false, cond, List, [], ◌∷◌, ◌++◌, length, get_or, refl, sym, ap, ◌∙◌, subst, arith}
use Rattle.std.specs.Prelude.{Option, Some, None, is_some, slice_index_or}
use Rattle.std.proofs.Math.Seq.{get_or-append_seam}
use Rattle.std.proofs.lemmas.Option.{slice_get_read}
use Rattle.ia_insn.specs.declared.insn.Insn.{Insn}
use Rattle.ia_program.specs.declared.place.Place.{Place}
use Rattle.ia_meaning.specs.Sequence.{first_of}
use Rattle.resource_sets.specs.declared.access.Access.{Access}
use Rattle.resource_sets.specs.Accesses.{accesses_of}
use Rattle.slot_table.specs.declared.slot.Slot.{Slot}
use Rattle.flow_facts.specs.Graphs.{Graph, InsnSequence, over_sequence, insn_in, sequence_insn}
use Rattle.group_checker.specs.declared.window.EarlierSlot.{EarlierSlot}
use Rattle.group_checker.specs.Windows.{IsWindow, Describes, HasWindow}
use Rattle.group_checker.proofs.Slots.{slot_accesses}
use Rattle.group_checker.proofs.Windowing.{parted_window}
use Rattle.order_laws.proofs.Falling.{sequence_place}
use Rattle.sequence_laws.proofs.Rows.{sequence_next_is}
use Rattle.stop_placer.specs.declared.packing.Cause.{Cause}
use Rattle.stop_placer.specs.Packs.{stopped_by}

-- A slot that is described is under way with its accesses.
pub described_under_way : (g : Graph) (has_stop : Place → Bool) (es : List EarlierSlot) (j : Place) (s : Slot) (seconds : List Access)
    → Describes g has_stop j s → seconds ≡ accesses_of s.qp s.action
    → IsWindow g has_stop es j → HasWindow g has_stop es j s seconds
described_under_way g has_stop es j s seconds slot accesses win =
    record { slot = slot; accesses = accesses ∙ sym (slot_accesses g has_stop j s slot); window = win }

-- The n-th instruction of a sequence stands there.
pub sequence_here : (insns : List Insn) (n : ℕ) (i : Insn) → n < length insns → i ≡ get_or insns n i
    → sequence_insn insns (first_of n) ≡ Some i
unfolding sequence_insn
sequence_here insns n i inside is = slice_get_read insns (length insns) n i refl inside is

pub sequence_under_way : (sequence : InsnSequence) (insns : List Insn) (has_stop : Place → Bool) (es : List EarlierSlot) (n : ℕ) (i : Insn)
    (s : Slot) (seconds : List Access) → insns ≡ sequence.insns → n < length insns → i ≡ get_or insns n i
    → has_stop (first_of n) ≡ false → ((g : Graph) (stops : Place → Bool) (place : Place) → insn_in g place ≡ Some i → stops place ≡ false
    → Describes g stops place s) → seconds ≡ accesses_of s.qp s.action
    → IsWindow (over_sequence sequence) has_stop es (first_of n) → HasWindow (over_sequence sequence) has_stop es (first_of n) s seconds
sequence_under_way sequence insns has_stop es n i s seconds e inside is unstopped describes accesses win =
    let here = subst (λ (l : List Insn). sequence_insn l (first_of n) ≡ Some i) e (sequence_here insns n i inside is) in
    described_under_way (over_sequence sequence) has_stop es (first_of n) s seconds
    (describes (over_sequence sequence) has_stop (first_of n) here unstopped) accesses win

-- What is behind the end is read from nothing.
default_last : {A : Type 0} (xs : List A) (n : ℕ) (d : A) → get_or (xs ++ d ∷ []) n d ≡ get_or xs n d
default_last [] zero d = refl
default_last [] (suc n) d = refl
default_last (x ∷ xs) zero d = refl
default_last (x ∷ xs) (suc n) d = default_last xs n d

-- A gap without a reason changes no stop.
same_stops : (causes : List (Option Cause)) → stopped_by causes ≡ stopped_by (causes ++ None ∷ [])
same_stops causes = λ i place. is_some (sym (default_last causes place.bundle None) i)

-- No stop follows an instruction whose gap isn't there yet.
pub open_gap : (causes : List (Option Cause)) (n : ℕ) → length causes ≤ n → stopped_by causes (first_of n) ≡ false
open_gap causes n few = ap (λ (c : Option Cause). is_some c) (past causes n few)
  where
    past : (l : List (Option Cause)) (m : ℕ) → length l ≤ m → slice_index_or l m None ≡ None
    past [] m h = refl
    past (x ∷ l) zero h = absurd (omega (arith, h))
    past (x ∷ l) (suc m) h = past l m (omega (arith, h))

-- The window at the next instruction, with the gap before it.
pub window_with_gap : (sequence : InsnSequence) (causes : List (Option Cause)) (cause : Option Cause) (n : ℕ) (es : List EarlierSlot)
    (r : Bool) → length causes ≡ n → n + 1 < length sequence.insns
    → IsWindow (over_sequence sequence) (stopped_by causes) es (first_of (n + 1)) → r ≡ stopped_by (causes ++ cause ∷ []) (first_of n)
    → IsWindow (over_sequence sequence) (stopped_by (causes ++ cause ∷ [])) (cond r [] es) (first_of (n + 1))
window_with_gap sequence causes cause n es r e inside win is = of cause refl
  where
    seam : (c : Option Cause) → stopped_by (causes ++ c ∷ []) (first_of n) ≡ is_some c
    seam c =
        ap (λ (m : ℕ). is_some (get_or (causes ++ c ∷ []) m None)) (sym e)
        ∙ ap (λ (o : Option Cause). is_some o) (get_or-append_seam causes c [] None)

    of : (c : Option Cause) → cause ≡ c → IsWindow (over_sequence sequence) (stopped_by (causes ++ cause ∷ [])) (cond r [] es)
        (first_of (n + 1))
    of None c =
        let low : r ≡ false = is ∙ seam cause ∙ ap (λ (o : Option Cause). is_some o) c in
        subst (λ (b : Bool). IsWindow (over_sequence sequence) (stopped_by (causes ++ cause ∷ [])) (cond b [] es) (first_of (n + 1)))
        (sym low)
        (subst (λ (o : Option Cause). IsWindow (over_sequence sequence) (stopped_by (causes ++ o ∷ [])) es (first_of (n + 1))) (sym c)
        (subst (λ (f : Place → Bool). IsWindow (over_sequence sequence) f es (first_of (n + 1))) (same_stops causes) win))
    of (Some x) c =
        let high : r ≡ true = is ∙ seam cause ∙ ap (λ (o : Option Cause). is_some o) c in
        subst (λ (b : Bool). IsWindow (over_sequence sequence) (stopped_by (causes ++ cause ∷ [])) (cond b [] es) (first_of (n + 1)))
        (sym high)
        (parted_window (over_sequence sequence) (stopped_by (causes ++ cause ∷ [])) (first_of n) (first_of (n + 1))
        (sequence_place sequence.insns n (omega (arith, inside))) (sequence_next_is sequence.insns n inside) (λ edge. sym is ∙ high))

-- The same by the number of the next instruction.
pub window_at_next : (sequence : InsnSequence) (causes : List (Option Cause)) (cause : Option Cause) (m n : ℕ) (es : List EarlierSlot)
    (r : Bool) → m + 1 ≡ n → length causes ≡ m → n < length sequence.insns
    → IsWindow (over_sequence sequence) (stopped_by causes) es (first_of n) → r ≡ stopped_by (causes ++ cause ∷ []) (first_of m)
    → IsWindow (over_sequence sequence) (stopped_by (causes ++ cause ∷ [])) (cond r [] es) (first_of n)
window_at_next sequence causes cause m n es r e gaps inside win is =
    subst (λ (k : ℕ). IsWindow (over_sequence sequence) (stopped_by (causes ++ cause ∷ [])) (cond r [] es) (first_of k)) e
    (window_with_gap sequence causes cause m es r gaps (omega (arith, e, inside))
    (subst (λ (k : ℕ). IsWindow (over_sequence sequence) (stopped_by causes) es (first_of k)) (sym e) win) is)
