-- Where the row of an opcode stands.
use Rattle.std.specs.Prelude.{ℕ, Option, Some, None}
use Rattle.ia_insn.specs.declared.choices.Unit.TheVariants as unit
use Rattle.insn_rows.specs.declared.opcode.Opcode.{Opcode}
use Rattle.insn_rows.specs.declared.opcode.Opcode.TheVariants as o

abbrev pub row_index_of : Opcode → Option ℕ
row_index_of (o.Break unit.X) = Some 0
row_index_of o.Movl = Some 1
row_index_of (o.Nop unit.X) = Some 2
row_index_of c = None
