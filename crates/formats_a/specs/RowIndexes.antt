-- Where the row of an opcode stands.
use Rattle.std.specs.Prelude.{ℕ, ◌+◌, Option, Some, None}
use Rattle.ia_insn.specs.declared.choices.AluFn.TheVariants as alu
use Rattle.ia_insn.specs.declared.choices.LaneFn.TheVariants as lane
use Rattle.ia_insn.specs.declared.choices.Rel.{Rel}
use Rattle.ia_insn.specs.declared.choices.Rel.TheVariants as rels
use Rattle.ia_insn.specs.declared.choices.CmpKind.{CmpKind}
use Rattle.ia_insn.specs.declared.choices.CmpKind.TheVariants as kinds
use Rattle.insn_rows.specs.declared.opcode.Opcode.{Opcode}
use Rattle.insn_rows.specs.declared.opcode.Opcode.TheVariants as o

abbrev pub row_index_of_compare : Rel → CmpKind → ℕ → Option ℕ
row_index_of_compare rels.Lt kinds.Normal first = Some (first + 0)
row_index_of_compare rels.Ltu kinds.Normal first = Some (first + 1)
row_index_of_compare rels.Eq kinds.Normal first = Some (first + 2)
row_index_of_compare rels.Lt kinds.Unc first = Some (first + 3)
row_index_of_compare rels.Ltu kinds.Unc first = Some (first + 4)
row_index_of_compare rels.Eq kinds.Unc first = Some (first + 5)
row_index_of_compare rels.Eq kinds.And first = Some (first + 6)
row_index_of_compare rels.Ne kinds.And first = Some (first + 7)
row_index_of_compare rels.Eq kinds.Or first = Some (first + 8)
row_index_of_compare rels.Ne kinds.Or first = Some (first + 9)
row_index_of_compare rels.Eq kinds.OrAndcm first = Some (first + 10)
row_index_of_compare rels.Ne kinds.OrAndcm first = Some (first + 11)
row_index_of_compare rel kind first = None

abbrev pub row_index_of_zero : Rel → CmpKind → Option ℕ
row_index_of_zero rels.Gt kinds.And = Some 29
row_index_of_zero rels.Le kinds.And = Some 30
row_index_of_zero rels.Ge kinds.And = Some 31
row_index_of_zero rels.Lt kinds.And = Some 32
row_index_of_zero rels.Gt kinds.Or = Some 33
row_index_of_zero rels.Le kinds.Or = Some 34
row_index_of_zero rels.Ge kinds.Or = Some 35
row_index_of_zero rels.Lt kinds.Or = Some 36
row_index_of_zero rels.Gt kinds.OrAndcm = Some 37
row_index_of_zero rels.Le kinds.OrAndcm = Some 38
row_index_of_zero rels.Ge kinds.OrAndcm = Some 39
row_index_of_zero rels.Lt kinds.OrAndcm = Some 40
row_index_of_zero rel kind = None

abbrev pub row_index_of : Opcode → Option ℕ
row_index_of (o.Alu alu.Add) = Some 0
row_index_of (o.Alu alu.Add1) = Some 1
row_index_of (o.Alu alu.Sub) = Some 2
row_index_of (o.Alu alu.Sub1) = Some 3
row_index_of (o.Alu alu.Addp4) = Some 4
row_index_of (o.Alu alu.And) = Some 5
row_index_of (o.Alu alu.Andcm) = Some 6
row_index_of (o.Alu alu.Or) = Some 7
row_index_of (o.Alu alu.Xor) = Some 8
row_index_of o.ShlAdd = Some 9
row_index_of (o.AluImm8 alu.Sub) = Some 10
row_index_of (o.AluImm8 alu.And) = Some 11
row_index_of (o.AluImm8 alu.Andcm) = Some 12
row_index_of (o.AluImm8 alu.Or) = Some 13
row_index_of (o.AluImm8 alu.Xor) = Some 14
row_index_of o.AddImm14 = Some 15
row_index_of o.AddImm22 = Some 16
row_index_of (o.Cmp rel kind) = row_index_of_compare rel kind 17
row_index_of (o.CmpZero rel kind) = row_index_of_zero rel kind
row_index_of (o.CmpImm rel kind) = row_index_of_compare rel kind 41
row_index_of (o.Lane lane.Padd) = Some 53
row_index_of (o.Lane lane.Psub) = Some 54
row_index_of (o.Lane lane.PcmpEq) = Some 55
row_index_of (o.Lane lane.PcmpGt) = Some 56
row_index_of c = None
