-- The units of instructions without their unit letters.
use Rattle.ia_insn.specs.declared.choices.Unit.{Unit as ExecutionUnit}
use Rattle.ia_insn.specs.declared.choices.Unit.TheVariants as unit
use Rattle.ia_insn.specs.declared.insn.Op.{Op}
use Rattle.ia_insn.specs.declared.insn.Op.TheVariants as op

-- The unit of an instruction without its unit letter.
abbrev pub bare_unit : Op → ExecutionUnit
bare_unit (op.ChkS u r2 disp) = unit.M
bare_unit x = unit.I
