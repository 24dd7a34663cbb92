-- The instructions of a program are listed, and their targets are bundles of it.
use Rattle.std.proofs.Common.{ℤ, pos, ◌+ℤ◌, ◌≤ℤ◌, ℕ, List, [], ◌∷◌, length, Option, Some, None, refl}
use Rattle.std.specs.Prelude.{IfSome, IsSome, slice_get}
use Rattle.ia_insn.specs.declared.insn.Insn.{Insn}
use Rattle.ia_insn.specs.declared.choices.Unit.{Unit as ExecutionUnit}
use Rattle.ia_insn.specs.Displacements.{displacement}
use Rattle.ia_program.specs.declared.bundle.Slots.{Slots}
use Rattle.ia_program.specs.declared.bundle.Slots.TheVariants.{Three, Long}
use Rattle.ia_program.specs.Bundles.{Bundle, FitUnits, IsBundle}
use Rattle.ia_program.specs.Places.{bundle_insn, insn_at, EachPlace}
use Rattle.ia_program.specs.Programs.{Program, IsProgram}
use Rattle.ia_program.specs.Targets.{IsBundleAt, IsTargetInside}
use Rattle.ia_program.specs.Templates.{units_of}
use Rattle.ia_program.proofs.ListedSlots.{unit_listed}
use Rattle.asm_printing.specs.SlotTexts.{HasTarget}
use Rattle.asm_build.specs.Marks.{IsSound, AreSound, AreAllSound}

-- The target of an instruction, where it has one, is one of `count` bundles.
abbrev pub IsInside : ℕ → ℕ → Option Insn → Type 0
IsInside count n o = IfSome o (λ i. IfSome (displacement i.op) (IsBundleAt count n))

-- Each instruction of a bundle fits it, and its target is inside.
slots_sound : (units : List ExecutionUnit) (template count n : ℕ) (slots : Slots) → FitUnits units slots
    → ((slot : ℕ) → IsSome (bundle_insn (Some (record { template = template; slots = slots })) slot)
    → IsInside count n (bundle_insn (Some (record { template = template; slots = slots })) slot))
    → AreSound count n slots
slots_sound (u ∷ v ∷ w ∷ []) template count n (Three a b c) fit inside =
    let third : IsSound count n c = record { listed = unit_listed c w 2 fit.2.kind; target = inside 2 refl } in
    let second : IsSound count n b = record { listed = unit_listed b v 1 fit.1.kind; target = inside 1 refl } in
    (record { listed = unit_listed a u 0 fit.0.kind; target = inside 0 refl }, (second, third))
slots_sound (u ∷ v ∷ w ∷ []) template count n (Long first long) fit inside = (
  record { listed = unit_listed first u 0 fit.0.kind; target = inside 0 refl },
  record { listed = unit_listed long v 1 fit.1.kind; target = inside 1 refl },
)
slots_sound _ template count n slots fit inside = absurd fit

bundle_sound : (count n : ℕ) (o : Option Bundle) → IfSome o IsBundle
    → ((slot : ℕ) → IsSome (bundle_insn o slot) → IsInside count n (bundle_insn o slot)) → IfSome o (λ b. AreSound count n b.slots)
bundle_sound count n None fit inside = tt
bundle_sound count n (Some b) fit inside = slots_sound (units_of b.template) b.template count n b.slots fit inside

program_inside : (p : Program) → EachPlace p.bundles (IsTargetInside p.bundles) → (n slot : ℕ)
    → IsSome (bundle_insn (slice_get p.bundles n) slot) → IsInside (length p.bundles) n (bundle_insn (slice_get p.bundles n) slot)
unfolding insn_at
program_inside p h n slot is = h (record { bundle = n; slot = slot }) is

-- The instructions of a program are sound.
pub all_sound : (p : Program) → IsProgram p → AreAllSound (length p.bundles) p.bundles
all_sound p h n = bundle_sound (length p.bundles) n (slice_get p.bundles n) (h.fit n) (program_inside p h.targets n)

target_of_some : (count n : ℕ) (o : Option ℤ) → IfSome o (IsBundleAt count n) → IfSome o (λ disp. pos 0 ≤ℤ (pos n +ℤ disp))
target_of_some count n None h = tt
target_of_some count n (Some disp) h = h.0

-- The target of a sound instruction is no bundle before the first.
pub target_here : (count n : ℕ) (i : Insn) → IsSound count n i → HasTarget n i.op
target_here count n i h = target_of_some count n (displacement i.op) h.target
