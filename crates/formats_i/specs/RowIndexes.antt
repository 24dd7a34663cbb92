-- Where the row of an opcode stands.
use Rattle.std.specs.Prelude.{ℕ, Option, Some, None}
use Rattle.ia_insn.specs.declared.registers.Ar.TheVariants as ar
use Rattle.ia_insn.specs.declared.choices.ShiftFn.TheVariants as shift
use Rattle.ia_insn.specs.declared.choices.Unit.TheVariants as unit
use Rattle.insn_rows.specs.declared.opcode.Opcode.{Opcode}
use Rattle.insn_rows.specs.declared.opcode.Opcode.TheVariants as o

abbrev pub row_index_of : Opcode → Option ℕ
row_index_of (o.ShiftVar shift.Shr) = Some 0
row_index_of (o.ShiftVar shift.ShrU) = Some 1
row_index_of (o.ShiftVar shift.Shl) = Some 2
row_index_of o.Popcnt = Some 3
row_index_of o.Shrp = Some 4
row_index_of o.Extr = Some 5
row_index_of o.DepZ = Some 6
row_index_of o.DepZImm = Some 7
row_index_of o.DepImm = Some 8
row_index_of o.Dep = Some 9
row_index_of o.Tbit = Some 10
row_index_of o.Tnat = Some 11
row_index_of (o.Nop unit.I) = Some 12
row_index_of (o.Hint unit.I) = Some 13
row_index_of (o.Break unit.I) = Some 14
row_index_of (o.ChkS unit.I) = Some 15
row_index_of o.MovToBr = Some 16
row_index_of o.MovFromBr = Some 17
row_index_of o.MovToPr = Some 18
row_index_of o.MovToPrRot = Some 19
row_index_of o.MovFromIp = Some 20
row_index_of o.MovFromPr = Some 21
row_index_of (o.MovToAr ar.Pfs) = Some 22
row_index_of (o.MovToAr ar.Lc) = Some 23
row_index_of (o.MovToAr ar.Ec) = Some 24
row_index_of (o.MovToArImm ar.Pfs) = Some 25
row_index_of (o.MovToArImm ar.Lc) = Some 26
row_index_of (o.MovToArImm ar.Ec) = Some 27
row_index_of (o.MovFromAr ar.Pfs) = Some 28
row_index_of (o.MovFromAr ar.Lc) = Some 29
row_index_of (o.MovFromAr ar.Ec) = Some 30
row_index_of o.Ext = Some 31
row_index_of c = None
