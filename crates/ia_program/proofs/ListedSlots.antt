-- The instructions of bundles and of programs are listed.
use Rattle.std.proofs.Common.{◌≡◌, ℕ, List, [], ◌∷◌, Bool, true, false, subst, arith}
use Rattle.std.specs.Prelude.{Option, Some, None, ◌==◌, if◌then◌else◌, IfSome, slice_get}
use Rattle.ia_insn.specs.declared.insn.Insn.{Insn}
use Rattle.ia_insn.specs.declared.choices.Unit.{Unit as ExecutionUnit}
use Rattle.ia_program.specs.declared.place.Place.{Place}
use Rattle.ia_program.specs.declared.bundle.Slots.{Slots}
use Rattle.ia_program.specs.declared.bundle.Slots.TheVariants.{Three, Long}
use Rattle.ia_program.specs.Templates.{units_of}
use Rattle.ia_program.specs.Bundles.{Bundle, IsBundle, FitUnits, slot_insn}
use Rattle.ia_program.specs.Places.{bundle_insn, insn_at}
use Rattle.ia_program.specs.Programs.{Program, IsProgram}
use Rattle.ia_program.specs.Fits.{FitsUnit}
use Rattle.ia_program.specs.Listed.{IsListed}

-- Each instruction of the slots has P.
abbrev EachSlot : (Insn → Type 0) → Slots → Type 0
EachSlot P (Three a b c) = P a × P b × P c
EachSlot P (Long first long) = P first × P long

chosen : (P : Insn → Type 0) (here : Bool) (a : Insn) (other : Option Insn) (i : Insn) → P a → (other ≡ Some i → P i)
    → (if here then Some a else other) ≡ Some i → P i
chosen P true a other i p q e = let same : a ≡ i = cc in subst P same p
chosen P false a other i p q e = q e

-- What each instruction of the slots has, the instruction of one slot has.
at_slot : (P : Insn → Type 0) (slots : Slots) (n : ℕ) (i : Insn) → EachSlot P slots → slot_insn slots n ≡ Some i → P i
at_slot P (Three a b c) n i h e =
    chosen P (n == 0) a _ i h.0 (λ e. chosen P (n == 1) b _ i h.1 (λ e. chosen P (n == 2) c None i h.2 (λ e. absurd (cc)) e) e) e
at_slot P (Long first long) n i h e =
    chosen P (n == 0) first _ i h.0 (λ e. chosen P (n == 1) long None i h.1 (λ e. absurd (cc)) e) e

-- An instruction that fits a unit is listed.
pub unit_listed : (i : Insn) (u : ExecutionUnit) (slot : ℕ) → FitsUnit i u slot → IsListed i
unit_listed i u slot h = grind arith

-- Each instruction that fits its slot is listed.
slots_listed : (units : List ExecutionUnit) (slots : Slots) → FitUnits units slots → EachSlot IsListed slots
slots_listed (u ∷ v ∷ w ∷ []) (Three a b c) h =
    (unit_listed a u 0 h.0.kind, unit_listed b v 1 h.1.kind, unit_listed c w 2 h.2.kind)
slots_listed (u ∷ v ∷ w ∷ []) (Long first long) h = (unit_listed first u 0 h.0.kind, unit_listed long v 1 h.1.kind)
slots_listed [] slots h = absurd h
slots_listed (u ∷ []) slots h = absurd h
slots_listed (u ∷ v ∷ []) slots h = absurd h
slots_listed (u ∷ v ∷ w ∷ x ∷ more) slots h = absurd h

-- An instruction of a bundle is listed.
listed_in : (b : Bundle) (slot : ℕ) (i : Insn) → IsBundle b → slot_insn b.slots slot ≡ Some i → IsListed i
listed_in b slot i fit e = at_slot IsListed b.slots slot i (slots_listed (units_of b.template) b.slots fit) e

in_bundle : (o : Option Bundle) (slot : ℕ) (i : Insn) → IfSome o IsBundle → bundle_insn o slot ≡ Some i → IsListed i
in_bundle None slot i h e = absurd (cc)
in_bundle (Some b) slot i h e = listed_in b slot i h e

-- The instruction at a place of a program is listed.
pub listed_at : (p : Program) (place : Place) (i : Insn) → IsProgram p → insn_at p.bundles place ≡ Some i → IsListed i
unfolding insn_at
listed_at p place i program e = in_bundle (slice_get p.bundles place.bundle) place.slot i (program.fit place.bundle) e
