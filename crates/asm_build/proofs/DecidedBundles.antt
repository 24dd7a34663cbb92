-- It is decided which slots an instruction fits, and whether instructions make a bundle.
use Rattle.std.proofs.Common.{◌≡◌, refl, ℕ, List, [], ◌∷◌}
use Rattle.std.proofs.Math.Decide.{ℕ_discrete, dec_lt}
use Rattle.ia_insn.specs.declared.insn.Insn.{Insn}
use Rattle.ia_insn.specs.declared.insn.Op.{Op}
use Rattle.ia_insn.specs.declared.insn.Op.TheVariants.{Br}
use Rattle.ia_insn.specs.declared.choices.BranchKind.TheVariants.{Cond}
use Rattle.ia_insn.specs.declared.choices.Unit.{Unit as ExecutionUnit}
use Rattle.ia_insn.specs.declared.choices.Unit.TheVariants.{M, I, F, B, L, X}
use Rattle.ia_program.specs.declared.bundle.Slots.{Slots}
use Rattle.ia_program.specs.declared.bundle.Slots.TheVariants.{Three, Long}
use Rattle.ia_program.specs.Bundles.{Bundle, FitUnits, IsBundle}
use Rattle.ia_program.specs.Fits.{Fits, FitsUnit, IsBranchSlot}
use Rattle.ia_program.specs.Templates.{units_of}
use Rattle.insn_rows.proofs.Decided.{alike, opposite, either, both, three, four}
use Rattle.asm_instructions.proofs.DecidedFormats.{listed_a, listed_i, listed_m, listed_b, listed_f, listed_x}

branch_slot : (x : Op) (slot : ℕ) → Dec (IsBranchSlot x slot)
branch_slot (Br Cond wh many clr disp) slot = yes tt
branch_slot (Br kind wh many clr disp) slot = ℕ_discrete slot 2
branch_slot x slot = yes tt

fits_unit : (insn : Insn) (u : ExecutionUnit) (slot : ℕ) → Dec (FitsUnit insn u slot)
fits_unit insn M slot = either (listed_a insn) (listed_m insn)
fits_unit insn I slot = either (listed_a insn) (listed_i insn)
fits_unit insn F slot = listed_f insn
fits_unit insn B slot = both (listed_b insn) (branch_slot insn.op slot)
fits_unit insn L slot = both (listed_x insn) (ℕ_discrete slot 1)
fits_unit insn X slot = both (listed_x insn) (ℕ_discrete slot 1)

pub fits : (i : Insn) (u : ExecutionUnit) (slot : ℕ) → Dec (Fits i u slot)
fits i u slot = alike (both (dec_lt slot 3) (fits_unit i u slot)) (λ h. record { place = h.0; kind = h.1 }) (λ h. (h.place, h.kind))

is_long : (u : ExecutionUnit) → Dec (u ≡ L)
is_long L = yes refl
is_long u = no (λ e. cc)

fit_units : (units : List ExecutionUnit) (slots : Slots) → Dec (FitUnits units slots)
fit_units (u ∷ v ∷ w ∷ []) (Three a b c) = four (fits a u 0) (three (fits b v 1) (both (fits c w 2) (opposite (is_long v))))
fit_units (u ∷ v ∷ w ∷ []) (Long a b) = three (fits a u 0) (both (fits b v 1) (is_long v))
fit_units units slots = no (λ h. h)

pub is_bundle : (b : Bundle) → Dec (IsBundle b)
is_bundle b = fit_units (units_of b.template) b.slots
