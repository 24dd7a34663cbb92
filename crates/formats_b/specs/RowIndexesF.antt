-- Where the row of an opcode stands.
use Rattle.std.specs.Prelude.{ℕ, Option, Some, None}
use Rattle.ia_insn.specs.declared.choices.Unit.TheVariants as unit
use Rattle.insn_rows.specs.declared.opcode.Opcode.{Opcode}
use Rattle.insn_rows.specs.declared.opcode.Opcode.TheVariants as o

abbrev pub row_index_of : Opcode → Option ℕ
row_index_of (o.Break unit.F) = Some 0
row_index_of (o.Nop unit.F) = Some 1
row_index_of c = None
