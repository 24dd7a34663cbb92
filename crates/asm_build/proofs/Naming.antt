-- Bundles with the addresses of their names: they fit their templates, and their targets are bundles.
use Rattle.std.proofs.Common.{◌≡◌, refl, sym, ap, ℕ, zero, suc, ◌<◌, ◌++◌, Bool, true, false, not, ◌&&◌, if◌then◌else◌, List, [], ◌∷◌, Option, Some, None}
use Rattle.std.specs.Prelude.{IfSome, is_some, unwrap_or}
use Rattle.std.specs.List.{AllByRecursion}
use Rattle.std.specs.Map.{values_of}
use Rattle.ia_insn.specs.declared.insn.Insn.{Insn}
use Rattle.ia_insn.specs.declared.insn.Op.{Op}
use Rattle.ia_insn.specs.declared.choices.Unit.{Unit as ExecutionUnit}
use Rattle.ia_insn.specs.Displacements.{displacement}
use Rattle.ia_program.specs.declared.bundle.Slots.{Slots}
use Rattle.ia_program.specs.declared.bundle.Slots.TheVariants.{Three, Long}
use Rattle.ia_program.specs.Bundles.{Bundle, FitUnits, IsBundle, AreBundles}
use Rattle.ia_program.specs.Fits.{Fits}
use Rattle.ia_program.proofs.Tests.{left, right}
use Rattle.asm_build.specs.declared.address.Address.{Address}
use Rattle.asm_build.specs.declared.draft.BundleLines.{BundleLines}
use Rattle.asm_build.specs.declared.draft.SlotName.{SlotName}
use Rattle.asm_build.specs.Addresses.{IsReachable, reach}
use Rattle.asm_build.specs.Names.{addressed_by, named, is_named, put_in, stays, all_stay, slot_names, unnamed_among, unnamed_slot, slots_named, bundle_named}
use Rattle.asm_build.specs.TextParts.{Labels, address_of}
use Rattle.asm_build.proofs.AddressedTargets.{fit_stays}
use Rattle.asm_build.proofs.LabelValues.{label_within}

-- The addresses of the labels are those of a program.
abbrev pub AreFoundReachable : Labels → Type 0
AreFoundReachable labels = AllByRecursion IsReachable (values_of labels)

or_same : (i : Insn) (u : ExecutionUnit) (slot : ℕ) (o : Option Op) → Fits i u slot
    → IfSome o (λ y. Fits (record { qp = i.qp; op = y }) u slot) → Fits (record { qp = i.qp; op = unwrap_or o i.op }) u slot
or_same i u slot None f h = f
or_same i u slot (Some y) f h = h

fits_addressed : (i : Insn) (o : Option Address) (n : ℕ) (u : ExecutionUnit) (slot : ℕ) → IfSome o IsReachable → n < reach → Fits i u slot
    → IfSome (addressed_by o i.op n) (λ y. Fits (record { qp = i.qp; op = y }) u slot)
fits_addressed i None n u slot h k f = tt
fits_addressed i (Some a) n u slot h k f = fit_stays i a n u slot h k f

plain : (P : Op → Type 0) (branches : Bool) (x : Op) → P x → IfSome (if branches then None else Some x) P
plain P true x p = tt
plain P false x p = p

fits_target : (labels : Labels) (n : ℕ) (i : Insn) (target : Option (List ℕ)) (u : ExecutionUnit) (slot : ℕ) → AreFoundReachable labels
    → n < reach
    → Fits i u slot → IfSome (named labels n i.op target) (λ y. Fits (record { qp = i.qp; op = y }) u slot)
fits_target labels n i None u slot within k f = plain _ (is_some (displacement i.op)) i.op f
fits_target labels n i (Some name) u slot within k f =
    fits_addressed i (address_of labels name) n u slot (label_within IsReachable labels name within) k f

fits_put_in : (labels : Labels) (n : ℕ) (i : Insn) (name : SlotName) (u : ExecutionUnit) (slot : ℕ) → AreFoundReachable labels → n < reach
    → Fits i u slot → Fits (put_in labels n i name) u slot
fits_put_in labels n i name u slot within k f =
    or_same i u slot (named labels n i.op name.target) f (fits_target labels n i name.target u slot within k f)

-- The slots of a bundle fit its units as before.
pub fit_named : (labels : Labels) (n : ℕ) (units : List ExecutionUnit) (slots : Slots) (b : BundleLines) → AreFoundReachable labels
    → n < reach
    → FitUnits units slots → FitUnits units (slots_named labels n slots b)
fit_named labels n (u ∷ v ∷ w ∷ []) (Three i j k) b within few f = (
  fits_put_in labels n i b.first u 0 within few f.0,
  fits_put_in labels n j b.second v 1 within few f.1,
  fits_put_in labels n k b.third w 2 within few f.2,
  f.3,
)
fit_named labels n (u ∷ v ∷ w ∷ []) (Long i j) b within few f =
    (fits_put_in labels n i b.first u 0 within few f.0, fits_put_in labels n j b.second v 1 within few f.1, f.2)
fit_named labels n _ slots b within few f = absurd f

-- Bundles and one more.
pub one_more_fits : (bs : List Bundle) (b : Bundle) → AreBundles bs → IsBundle b → AreBundles (bs ++ b ∷ [])
one_more_fits [] b all is zero = is
one_more_fits [] b all is (suc n) = tt
one_more_fits (x ∷ xs) b all is zero = all 0
one_more_fits (x ∷ xs) b all is (suc n) = one_more_fits xs b (λ k. all (suc k)) is n

not_true : (b : Bool) → not b ≡ true → b ≡ false
not_true true h = sym h
not_true false h = refl

-- An instruction without a name that needs none.
named_same : (labels : Labels) (n : ℕ) (x : Op) (target : Option (List ℕ)) → (not (is_some target) && not (is_some (displacement x))) ≡ true
    → named labels n x target ≡ Some x
named_same labels n x None h = let none : is_some (displacement x) ≡ false = not_true _ h in rw none refl
named_same labels n x (Some name) h = cc

put_same : (labels : Labels) (n : ℕ) (i : Insn) (name : SlotName) → stays i name ≡ true → put_in labels n i name ≡ i
put_same labels n i name h = rw (named_same labels n i.op name.target h) refl

is_same : (labels : Labels) (n : ℕ) (i : Insn) (name : SlotName) → stays i name ≡ true → is_named labels n (i, name) ≡ true
is_same labels n i name h = rw (named_same labels n i.op name.target h) refl

slots_same : (labels : Labels) (n : ℕ) (slots : Slots) (b : BundleLines) → all_stay slots b ≡ true → slots_named labels n slots b ≡ slots
slots_same labels n (Three i j k) b h =
    let more = right (stays i b.first) _ h in
    rw (
      put_same labels n i b.first (left _ _ h),
      put_same labels n j b.second (left _ _ more),
      put_same labels n k b.third (right (stays j b.second) _ more),
    ) refl
slots_same labels n (Long i j) b h =
    rw (put_same labels n i b.first (left _ _ h), put_same labels n j b.second (right (stays i b.first) _ h)) refl

all_named : (labels : Labels) (n : ℕ) (slots : Slots) (b : BundleLines) → all_stay slots b ≡ true
    → unnamed_among labels n (slot_names slots b) ≡ None
all_named labels n (Three i j k) b h =
    let more = right (stays i b.first) _ h in
    rw (
      is_same labels n i b.first (left _ _ h),
      is_same labels n j b.second (left _ _ more),
      is_same labels n k b.third (right (stays j b.second) _ more),
    ) refl
all_named labels n (Long i j) b h =
    rw (is_same labels n i b.first (left _ _ h), is_same labels n j b.second (right (stays i b.first) _ h)) refl

-- A bundle whose instructions have no names and need none stays as it is.
pub bundle_same : (labels : Labels) (n : ℕ) (b : BundleLines) → all_stay b.bundle.slots b ≡ true
    → (b.bundle ≡ bundle_named labels n b) × (unnamed_slot labels n b ≡ None)
bundle_same labels n b h =
    let with_slots : Slots → Bundle = λ slots. record { template = b.bundle.template; slots = slots } in
    (ap with_slots (sym (slots_same labels n b.bundle.slots b h)), all_named labels n b.bundle.slots b h)
