-- Where the row of an opcode stands.
use Rattle.std.specs.Prelude.{ℕ, Option, Some, None}
use Rattle.ia_insn.specs.declared.registers.Ar.TheVariants as ar
use Rattle.ia_insn.specs.declared.choices.LoadKind.TheVariants as load
use Rattle.ia_insn.specs.declared.choices.StoreKind.TheVariants as store
use Rattle.ia_insn.specs.declared.choices.Unit.TheVariants as unit
use Rattle.insn_rows.specs.declared.opcode.UpdateKind.TheVariants as update
use Rattle.insn_rows.specs.declared.opcode.Opcode.{Opcode}
use Rattle.insn_rows.specs.declared.opcode.Opcode.TheVariants as o

abbrev pub row_index_of : Opcode → Option ℕ
row_index_of (o.Load load.Plain update.None) = Some 0
row_index_of (o.Load load.S update.None) = Some 1
row_index_of (o.Load load.A update.None) = Some 2
row_index_of (o.Load load.Sa update.None) = Some 3
row_index_of (o.Load load.Bias update.None) = Some 4
row_index_of (o.Load load.Acq update.None) = Some 5
row_index_of (o.Load load.Fill update.None) = Some 6
row_index_of (o.Load load.CClr update.None) = Some 7
row_index_of (o.Load load.CNc update.None) = Some 8
row_index_of (o.Load load.CClrAcq update.None) = Some 9
row_index_of (o.Load load.Plain update.Reg) = Some 10
row_index_of (o.Load load.S update.Reg) = Some 11
row_index_of (o.Load load.A update.Reg) = Some 12
row_index_of (o.Load load.Sa update.Reg) = Some 13
row_index_of (o.Load load.Bias update.Reg) = Some 14
row_index_of (o.Load load.Acq update.Reg) = Some 15
row_index_of (o.Load load.Fill update.Reg) = Some 16
row_index_of (o.Load load.CClr update.Reg) = Some 17
row_index_of (o.Load load.CNc update.Reg) = Some 18
row_index_of (o.Load load.CClrAcq update.Reg) = Some 19
row_index_of (o.Load load.Plain update.Imm) = Some 20
row_index_of (o.Load load.S update.Imm) = Some 21
row_index_of (o.Load load.A update.Imm) = Some 22
row_index_of (o.Load load.Sa update.Imm) = Some 23
row_index_of (o.Load load.Bias update.Imm) = Some 24
row_index_of (o.Load load.Acq update.Imm) = Some 25
row_index_of (o.Load load.Fill update.Imm) = Some 26
row_index_of (o.Load load.CClr update.Imm) = Some 27
row_index_of (o.Load load.CNc update.Imm) = Some 28
row_index_of (o.Load load.CClrAcq update.Imm) = Some 29
row_index_of (o.Store store.Plain update.None) = Some 30
row_index_of (o.Store store.Rel update.None) = Some 31
row_index_of (o.Store store.Spill update.None) = Some 32
row_index_of (o.Store store.Plain update.Imm) = Some 33
row_index_of (o.Store store.Rel update.Imm) = Some 34
row_index_of (o.Store store.Spill update.Imm) = Some 35
row_index_of o.Xchg = Some 36
row_index_of o.FetchAdd = Some 37
row_index_of (o.ChkS unit.M) = Some 38
row_index_of o.ChkA = Some 39
row_index_of o.Invala = Some 40
row_index_of o.Mf = Some 41
row_index_of o.InvalaE = Some 42
row_index_of (o.MovToAr ar.Unat) = Some 43
row_index_of (o.MovToArImm ar.Unat) = Some 44
row_index_of (o.MovFromAr ar.Unat) = Some 45
row_index_of o.Alloc = Some 46
row_index_of (o.Break unit.M) = Some 47
row_index_of (o.Nop unit.M) = Some 48
row_index_of (o.Hint unit.M) = Some 49
row_index_of c = None
