-- Which slot an instruction fits (volume 1, chapter 3, instruction encoding, and volume 3, chapter
-- 2, `br`, which keeps loop branches to slot 2).
use Rattle.std.specs.Prelude.{◌≡◌, ℕ, ◌<◌, ◌⊎◌}
use Rattle.formats_a.specs.Listed.{IsListedA}
use Rattle.formats_i.specs.Listed.{IsListedI}
use Rattle.formats_m.specs.Listed.{IsListedM}
use Rattle.formats_b.specs.ListedB.{IsListedB}
use Rattle.formats_b.specs.ListedF.{IsListedF}
use Rattle.formats_b.specs.ListedX.{IsListedX}
use Rattle.ia_insn.specs.declared.insn.Insn.{Insn}
use Rattle.ia_insn.specs.declared.insn.Op.{Op}
use Rattle.ia_insn.specs.declared.insn.Op.TheVariants.{Br}
use Rattle.ia_insn.specs.declared.choices.BranchKind.TheVariants.{Cond}
use Rattle.ia_insn.specs.declared.choices.Unit.{Unit as ExecutionUnit}
use Rattle.ia_insn.specs.declared.choices.Unit.TheVariants.{M, I, F, B, L, X}

-- A loop branch stands in slot 2.
abbrev pub IsBranchSlot : Op → ℕ → Type 0
IsBranchSlot (Br Cond wh many clr disp) slot = Unit {0}
IsBranchSlot (Br kind wh many clr disp) slot = slot ≡ 2
IsBranchSlot op slot = Unit {0}

-- The instruction is one of those of the unit: A instructions go into M and I slots, and a long
-- instruction stands over the L and the X slot, at slot 1.
abbrev pub FitsUnit : Insn → ExecutionUnit → ℕ → Type 0
FitsUnit i M slot = IsListedA i ⊎ IsListedM i
FitsUnit i I slot = IsListedA i ⊎ IsListedI i
FitsUnit i F slot = IsListedF i
FitsUnit i B slot = IsListedB i × IsBranchSlot i.op slot
FitsUnit i L slot = IsListedX i × (slot ≡ 1)
FitsUnit i X slot = IsListedX i × (slot ≡ 1)

-- The instruction is listed, and fits a slot of this unit at this place in its bundle, 0 to 2.
pub record Fits (i : Insn) (unit : ExecutionUnit) (slot : ℕ) : Type 0 where
  pub place : slot < 3
  pub kind : FitsUnit i unit slot
