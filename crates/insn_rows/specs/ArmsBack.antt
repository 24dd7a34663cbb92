-- The instruction with an opcode and values: an arm each.
use Rattle.std.specs.Prelude.{ℕ, ℤ, pos, Bool, false}
use Rattle.ia_insn.specs.declared.insn.Insn.{Insn}
use Rattle.ia_insn.specs.declared.insn.Op.{Op}
use Rattle.ia_insn.specs.declared.insn.Op.TheVariants as op
use Rattle.ia_insn.specs.declared.choices.Update.{Update}
use Rattle.ia_insn.specs.declared.choices.Update.TheVariants as updates
use Rattle.insn_rows.specs.declared.opcode.UpdateKind.{UpdateKind}
use Rattle.insn_rows.specs.declared.opcode.UpdateKind.TheVariants as kinds
use Rattle.insn_rows.specs.declared.opcode.Opcode.{Opcode}
use Rattle.insn_rows.specs.declared.opcode.Opcode.TheVariants as o
use Rattle.insn_rows.specs.declared.value.Value.{Value}
use Rattle.insn_rows.specs.declared.value.Value.TheVariants as v

-- What a value is, where it is one of this kind.

abbrev pub gr_of : Value → ℕ
gr_of (v.Gr n) = n
gr_of x = 0

abbrev pub pr_of : Value → ℕ
pr_of (v.Pr n) = n
pr_of x = 0

abbrev pub br_of : Value → ℕ
br_of (v.Br n) = n
br_of x = 0

abbrev pub flag_of : Value → Bool
flag_of (v.Flag n) = n
flag_of x = false

abbrev pub small_of : Value → ℕ
small_of (v.Small n) = n
small_of x = 0

abbrev pub wide_of : Value → ℕ
wide_of (v.Wide n) = n
wide_of x = 0

abbrev pub mask_of : Value → ℕ
mask_of (v.Mask n) = n
mask_of x = 0

abbrev pub signed_value : Value → ℤ
signed_value (v.Signed n) = n
signed_value x = pos 0

abbrev pub short_of : Value → ℤ
short_of (v.Short n) = n
short_of x = pos 0

abbrev pub displacement_of : Value → ℤ
displacement_of (v.Displacement n) = n
displacement_of x = pos 0

abbrev pub update_of : UpdateKind → Value → Update
update_of kinds.None x = updates.None
update_of kinds.Reg x = updates.Reg (gr_of x)
update_of kinds.Imm x = updates.Imm (short_of x)

abbrev pub op_of : Opcode → (ℕ → Value) → Op
op_of (o.Alu f) x = op.Alu f (gr_of (x 1)) (gr_of (x 2)) (gr_of (x 3))
op_of o.ShlAdd x = op.ShlAdd (flag_of (x 1)) (gr_of (x 2)) (gr_of (x 3)) (small_of (x 4)) (gr_of (x 5))
op_of (o.AluImm8 f) x = op.AluImm8 f (gr_of (x 1)) (signed_value (x 2)) (gr_of (x 3))
op_of o.AddImm14 x = op.AddImm14 (flag_of (x 1)) (gr_of (x 2)) (signed_value (x 3)) (gr_of (x 4))
op_of o.AddImm22 x = op.AddImm22 (gr_of (x 1)) (signed_value (x 2)) (gr_of (x 3))
op_of (o.Cmp rel kind) x = op.Cmp (flag_of (x 1)) rel kind (pr_of (x 2)) (pr_of (x 3)) (gr_of (x 4)) (gr_of (x 5))
op_of (o.CmpZero rel kind) x = op.CmpZero (flag_of (x 1)) rel kind (pr_of (x 2)) (pr_of (x 3)) (gr_of (x 4))
op_of (o.CmpImm rel kind) x = op.CmpImm (flag_of (x 1)) rel kind (pr_of (x 2)) (pr_of (x 3)) (signed_value (x 4)) (gr_of (x 5))
op_of (o.Lane f) x = op.Lane f (small_of (x 1)) (gr_of (x 2)) (gr_of (x 3)) (gr_of (x 4))
op_of (o.ShiftVar f) x = op.ShiftVar f (gr_of (x 1)) (gr_of (x 2)) (gr_of (x 3))
op_of o.Popcnt x = op.Popcnt (gr_of (x 1)) (gr_of (x 2))
op_of o.Shrp x = op.Shrp (gr_of (x 1)) (gr_of (x 2)) (gr_of (x 3)) (small_of (x 4))
op_of o.Extr x = op.Extr (flag_of (x 1)) (gr_of (x 2)) (gr_of (x 3)) (small_of (x 4)) (small_of (x 5))
op_of o.DepZ x = op.DepZ (gr_of (x 1)) (gr_of (x 2)) (small_of (x 3)) (small_of (x 4))
op_of o.DepZImm x = op.DepZImm (gr_of (x 1)) (signed_value (x 2)) (small_of (x 3)) (small_of (x 4))
op_of o.DepImm x = op.DepImm (gr_of (x 1)) (flag_of (x 2)) (gr_of (x 3)) (small_of (x 4)) (small_of (x 5))
op_of o.Dep x = op.Dep (gr_of (x 1)) (gr_of (x 2)) (gr_of (x 3)) (small_of (x 4)) (small_of (x 5))
op_of o.Tbit x = op.Tbit (flag_of (x 1)) (pr_of (x 2)) (pr_of (x 3)) (gr_of (x 4)) (small_of (x 5))
op_of o.Tnat x = op.Tnat (flag_of (x 1)) (pr_of (x 2)) (pr_of (x 3)) (gr_of (x 4))
op_of (o.ChkS unit) x = op.ChkS unit (gr_of (x 1)) (displacement_of (x 2))
op_of o.MovToBr x = op.MovToBr (br_of (x 1)) (gr_of (x 2)) (flag_of (x 3)) (flag_of (x 4)) (small_of (x 5)) (short_of (x 6))
op_of o.MovFromBr x = op.MovFromBr (gr_of (x 1)) (br_of (x 2))
op_of o.MovToPr x = op.MovToPr (gr_of (x 1)) (mask_of (x 2))
op_of o.MovToPrRot x = op.MovToPrRot (signed_value (x 1))
op_of o.MovFromIp x = op.MovFromIp (gr_of (x 1))
op_of o.MovFromPr x = op.MovFromPr (gr_of (x 1))
op_of (o.MovToAr ar) x = op.MovToAr ar (gr_of (x 1))
op_of (o.MovToArImm ar) x = op.MovToArImm ar (signed_value (x 1))
op_of (o.MovFromAr ar) x = op.MovFromAr (gr_of (x 1)) ar
op_of o.Ext x = op.Ext (flag_of (x 1)) (small_of (x 2)) (gr_of (x 3)) (gr_of (x 4))
op_of (o.Load kind u) x = op.Load (small_of (x 1)) kind (small_of (x 2)) (gr_of (x 3)) (gr_of (x 4)) (update_of u (x 5))
op_of (o.Store kind u) x = op.Store (small_of (x 1)) kind (small_of (x 2)) (gr_of (x 3)) (gr_of (x 4)) (update_of u (x 5))
op_of o.Xchg x = op.Xchg (small_of (x 1)) (small_of (x 2)) (gr_of (x 3)) (gr_of (x 4)) (gr_of (x 5))
op_of o.FetchAdd x = op.FetchAdd (small_of (x 1)) (flag_of (x 2)) (small_of (x 3)) (gr_of (x 4)) (gr_of (x 5)) (short_of (x 6))
op_of o.ChkA x = op.ChkA (flag_of (x 1)) (gr_of (x 2)) (displacement_of (x 3))
op_of o.Invala x = op.Invala
op_of o.Mf x = op.Mf
op_of o.InvalaE x = op.InvalaE (gr_of (x 1))
op_of o.Alloc x = op.Alloc (gr_of (x 1)) (small_of (x 2)) (small_of (x 3)) (small_of (x 4))
op_of (o.Br kind) x = op.Br kind (small_of (x 1)) (flag_of (x 2)) (flag_of (x 3)) (displacement_of (x 4))
op_of o.BrCall x = op.BrCall (br_of (x 1)) (small_of (x 2)) (flag_of (x 3)) (flag_of (x 4)) (displacement_of (x 5))
op_of o.BrInd x = op.BrInd (br_of (x 1)) (small_of (x 2)) (flag_of (x 3)) (flag_of (x 4))
op_of o.BrRet x = op.BrRet (br_of (x 1)) (small_of (x 2)) (flag_of (x 3)) (flag_of (x 4))
op_of o.BrCallInd x = op.BrCallInd (br_of (x 1)) (br_of (x 2)) (small_of (x 3)) (flag_of (x 4)) (flag_of (x 5))
op_of o.Clrrrb x = op.Clrrrb (flag_of (x 1))
op_of o.Movl x = op.Movl (gr_of (x 1)) (wide_of (x 2))
op_of (o.Break unit) x = op.Break unit (wide_of (x 1))
op_of (o.Nop unit) x = op.Nop unit (wide_of (x 1))
op_of (o.Hint unit) x = op.Hint unit (wide_of (x 1))

abbrev pub insn_of : Opcode → (ℕ → Value) → Insn
insn_of opcode x = record { qp = pr_of (x 0); op = op_of opcode x }
