-- Where the row of an opcode stands.
use Rattle.std.specs.Prelude.{ℕ, Option, Some, None}
use Rattle.ia_insn.specs.declared.choices.BranchKind.TheVariants as branch
use Rattle.ia_insn.specs.declared.choices.Unit.TheVariants as unit
use Rattle.insn_rows.specs.declared.opcode.Opcode.{Opcode}
use Rattle.insn_rows.specs.declared.opcode.Opcode.TheVariants as o

abbrev pub row_index_of : Opcode → Option ℕ
row_index_of (o.Br branch.Cond) = Some 0
row_index_of (o.Br branch.Wexit) = Some 1
row_index_of (o.Br branch.Wtop) = Some 2
row_index_of (o.Br branch.Cloop) = Some 3
row_index_of (o.Br branch.Cexit) = Some 4
row_index_of (o.Br branch.Ctop) = Some 5
row_index_of o.BrCall = Some 6
row_index_of o.BrInd = Some 7
row_index_of o.BrRet = Some 8
row_index_of o.BrCallInd = Some 9
row_index_of o.Clrrrb = Some 10
row_index_of (o.Break unit.B) = Some 11
row_index_of (o.Nop unit.B) = Some 12
row_index_of (o.Hint unit.B) = Some 13
row_index_of c = None
