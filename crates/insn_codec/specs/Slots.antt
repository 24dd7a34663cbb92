-- The words of the slots of a bundle (volume 1, chapter 3, instruction encoding).
use Rattle.std.specs.Prelude.{ℕ, ◌⊎◌}
use Rattle.ia_insn.specs.declared.insn.Insn.{Insn}
use Rattle.ia_insn.specs.declared.choices.Unit.{Unit as ExecutionUnit}
use Rattle.ia_insn.specs.declared.choices.Unit.TheVariants.{M, I, F, B, L}
use Rattle.formats_a.specs.Listed.{IsListedA, CodeA}
use Rattle.formats_i.specs.Listed.{IsListedI, CodeI}
use Rattle.formats_m.specs.Listed.{IsListedM, CodeM}
use Rattle.formats_b.specs.ListedB.{IsListedB, CodeB}
use Rattle.formats_b.specs.ListedF.{IsListedF, CodeF}
use Rattle.formats_b.specs.ListedX.{CodeX}
use Rattle.ia_program.specs.Fits.{Fits}

-- An instruction of the unit has this word. A instructions are those of M and of I. In an L and an X
-- slot no instruction has a word of its own.
abbrev pub UnitCode : ExecutionUnit → Insn → ℕ → Type 0
UnitCode M i w = CodeA i w ⊎ CodeM i w
UnitCode I i w = CodeA i w ⊎ CodeI i w
UnitCode F i w = CodeF i w
UnitCode B i w = CodeB i w
UnitCode unit i w = ⊥

-- The instruction is one of those of the unit.
abbrev pub IsOfUnit : ExecutionUnit → Insn → Type 0
IsOfUnit M i = IsListedA i ⊎ IsListedM i
IsOfUnit I i = IsListedA i ⊎ IsListedI i
IsOfUnit F i = IsListedF i
IsOfUnit B i = IsListedB i
IsOfUnit unit i = ⊥

-- The instruction fits a slot of the unit, and has the slot's word.
pub record IsInSlot (unit : ExecutionUnit) (slot : ℕ) (i : Insn) (w : ℕ) : Type 0 where
  pub fits : Fits i unit slot
  pub code : UnitCode unit i w

-- The long instruction has the words of the L and the X slot.
pub record IsInSlots (i : Insn) (l w : ℕ) : Type 0 where
  pub fits : Fits i L 1
  pub code : CodeX i l w
