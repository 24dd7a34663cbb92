-- An instruction as its opcode and the values of its operands: an arm each.
use Rattle.std.specs.Prelude.{ℕ, List, [], ◌∷◌}
use Rattle.ia_insn.specs.declared.insn.Insn.{Insn}
use Rattle.ia_insn.specs.declared.insn.Op.{Op}
use Rattle.ia_insn.specs.declared.insn.Op.TheVariants as op
use Rattle.ia_insn.specs.declared.choices.Update.{Update}
use Rattle.ia_insn.specs.declared.choices.Update.TheVariants as updates
use Rattle.insn_rows.specs.declared.opcode.UpdateKind.{UpdateKind}
use Rattle.insn_rows.specs.declared.opcode.UpdateKind.TheVariants as kinds
use Rattle.insn_rows.specs.declared.opcode.Opcode.{Opcode}
use Rattle.insn_rows.specs.declared.opcode.Opcode.TheVariants as o
use Rattle.insn_rows.specs.declared.value.Value.{Value}
use Rattle.insn_rows.specs.declared.value.Value.TheVariants as v

abbrev pub update_kind : Update → UpdateKind
update_kind updates.None = kinds.None
update_kind (updates.Reg r2) = kinds.Reg
update_kind (updates.Imm imm) = kinds.Imm

abbrev pub added : Update → Value
added updates.None = v.Absent
added (updates.Reg r2) = v.Gr r2
added (updates.Imm imm) = v.Short imm

abbrev pub opcode_of : Op → Opcode
opcode_of (op.Alu f r1 r2 r3) = o.Alu f
opcode_of (op.ShlAdd p4 r1 r2 count r3) = o.ShlAdd
opcode_of (op.AluImm8 f r1 imm r3) = o.AluImm8 f
opcode_of (op.AddImm14 p4 r1 imm r3) = o.AddImm14
opcode_of (op.AddImm22 r1 imm r3) = o.AddImm22
opcode_of (op.Cmp four_bytes rel kind p1 p2 r2 r3) = o.Cmp rel kind
opcode_of (op.CmpZero four_bytes rel kind p1 p2 r3) = o.CmpZero rel kind
opcode_of (op.CmpImm four_bytes rel kind p1 p2 imm r3) = o.CmpImm rel kind
opcode_of (op.Lane f size r1 r2 r3) = o.Lane f
opcode_of (op.ShiftVar f r1 value count) = o.ShiftVar f
opcode_of (op.Popcnt r1 r3) = o.Popcnt
opcode_of (op.Shrp r1 r2 r3 count) = o.Shrp
opcode_of (op.Extr signed r1 r3 lowest len) = o.Extr
opcode_of (op.DepZ r1 r2 lowest len) = o.DepZ
opcode_of (op.DepZImm r1 imm lowest len) = o.DepZImm
opcode_of (op.DepImm r1 ones r3 lowest len) = o.DepImm
opcode_of (op.Dep r1 r2 r3 lowest len) = o.Dep
opcode_of (op.Tbit unc p1 p2 r3 lowest) = o.Tbit
opcode_of (op.Tnat unc p1 p2 r3) = o.Tnat
opcode_of (op.ChkS unit r2 disp) = o.ChkS unit
opcode_of (op.MovToBr b1 r2 ret imp wh tag) = o.MovToBr
opcode_of (op.MovFromBr r1 b2) = o.MovFromBr
opcode_of (op.MovToPr r2 mask) = o.MovToPr
opcode_of (op.MovToPrRot imm) = o.MovToPrRot
opcode_of (op.MovFromIp r1) = o.MovFromIp
opcode_of (op.MovFromPr r1) = o.MovFromPr
opcode_of (op.MovToAr ar r2) = o.MovToAr ar
opcode_of (op.MovToArImm ar imm) = o.MovToArImm ar
opcode_of (op.MovFromAr r1 ar) = o.MovFromAr ar
opcode_of (op.Ext signed size r1 r3) = o.Ext
opcode_of (op.Load size kind hint r1 r3 u) = o.Load kind (update_kind u)
opcode_of (op.Store size kind hint r3 r2 u) = o.Store kind (update_kind u)
opcode_of (op.Xchg size hint r1 r3 r2) = o.Xchg
opcode_of (op.FetchAdd size release hint r1 r3 inc) = o.FetchAdd
opcode_of (op.ChkA clear r1 disp) = o.ChkA
opcode_of op.Invala = o.Invala
opcode_of op.Mf = o.Mf
opcode_of (op.InvalaE r1) = o.InvalaE
opcode_of (op.Alloc r1 sof sol sor) = o.Alloc
opcode_of (op.Br kind wh many clr disp) = o.Br kind
opcode_of (op.BrCall b1 wh many clr disp) = o.BrCall
opcode_of (op.BrInd b2 wh many clr) = o.BrInd
opcode_of (op.BrRet b2 wh many clr) = o.BrRet
opcode_of (op.BrCallInd b1 b2 wh many clr) = o.BrCallInd
opcode_of (op.Clrrrb pred_only) = o.Clrrrb
opcode_of (op.Movl r1 imm) = o.Movl
opcode_of (op.Break unit imm) = o.Break unit
opcode_of (op.Nop unit imm) = o.Nop unit
opcode_of (op.Hint unit imm) = o.Hint unit

abbrev pub operands_of : ℕ → Op → List Value
operands_of qp (op.Alu f r1 r2 r3) = v.Pr qp ∷ v.Gr r1 ∷ v.Gr r2 ∷ v.Gr r3 ∷ v.Absent ∷ v.Absent ∷ v.Absent ∷ []
operands_of qp (op.ShlAdd p4 r1 r2 count r3) = v.Pr qp ∷ v.Flag p4 ∷ v.Gr r1 ∷ v.Gr r2 ∷ v.Small count ∷ v.Gr r3 ∷ v.Absent ∷ []
operands_of qp (op.AluImm8 f r1 imm r3) = v.Pr qp ∷ v.Gr r1 ∷ v.Signed imm ∷ v.Gr r3 ∷ v.Absent ∷ v.Absent ∷ v.Absent ∷ []
operands_of qp (op.AddImm14 p4 r1 imm r3) = v.Pr qp ∷ v.Flag p4 ∷ v.Gr r1 ∷ v.Signed imm ∷ v.Gr r3 ∷ v.Absent ∷ v.Absent ∷ []
operands_of qp (op.AddImm22 r1 imm r3) = v.Pr qp ∷ v.Gr r1 ∷ v.Signed imm ∷ v.Gr r3 ∷ v.Absent ∷ v.Absent ∷ v.Absent ∷ []
operands_of qp (op.Cmp four_bytes rel kind p1 p2 r2 r3) =
    v.Pr qp ∷ v.Flag four_bytes ∷ v.Pr p1 ∷ v.Pr p2 ∷ v.Gr r2 ∷ v.Gr r3 ∷ v.Absent ∷ []
operands_of qp (op.CmpZero four_bytes rel kind p1 p2 r3) =
    v.Pr qp ∷ v.Flag four_bytes ∷ v.Pr p1 ∷ v.Pr p2 ∷ v.Gr r3 ∷ v.Absent ∷ v.Absent ∷ []
operands_of qp (op.CmpImm four_bytes rel kind p1 p2 imm r3) =
    v.Pr qp ∷ v.Flag four_bytes ∷ v.Pr p1 ∷ v.Pr p2 ∷ v.Signed imm ∷ v.Gr r3 ∷ v.Absent ∷ []
operands_of qp (op.Lane f size r1 r2 r3) = v.Pr qp ∷ v.Small size ∷ v.Gr r1 ∷ v.Gr r2 ∷ v.Gr r3 ∷ v.Absent ∷ v.Absent ∷ []
operands_of qp (op.ShiftVar f r1 value count) = v.Pr qp ∷ v.Gr r1 ∷ v.Gr value ∷ v.Gr count ∷ v.Absent ∷ v.Absent ∷ v.Absent ∷ []
operands_of qp (op.Popcnt r1 r3) = v.Pr qp ∷ v.Gr r1 ∷ v.Gr r3 ∷ v.Absent ∷ v.Absent ∷ v.Absent ∷ v.Absent ∷ []
operands_of qp (op.Shrp r1 r2 r3 count) = v.Pr qp ∷ v.Gr r1 ∷ v.Gr r2 ∷ v.Gr r3 ∷ v.Small count ∷ v.Absent ∷ v.Absent ∷ []
operands_of qp (op.Extr signed r1 r3 lowest len) =
    v.Pr qp ∷ v.Flag signed ∷ v.Gr r1 ∷ v.Gr r3 ∷ v.Small lowest ∷ v.Small len ∷ v.Absent ∷ []
operands_of qp (op.DepZ r1 r2 lowest len) = v.Pr qp ∷ v.Gr r1 ∷ v.Gr r2 ∷ v.Small lowest ∷ v.Small len ∷ v.Absent ∷ v.Absent ∷ []
operands_of qp (op.DepZImm r1 imm lowest len) = v.Pr qp ∷ v.Gr r1 ∷ v.Signed imm ∷ v.Small lowest ∷ v.Small len ∷ v.Absent ∷ v.Absent ∷ []
operands_of qp (op.DepImm r1 ones r3 lowest len) = v.Pr qp ∷ v.Gr r1 ∷ v.Flag ones ∷ v.Gr r3 ∷ v.Small lowest ∷ v.Small len ∷ v.Absent ∷ []
operands_of qp (op.Dep r1 r2 r3 lowest len) = v.Pr qp ∷ v.Gr r1 ∷ v.Gr r2 ∷ v.Gr r3 ∷ v.Small lowest ∷ v.Small len ∷ v.Absent ∷ []
operands_of qp (op.Tbit unc p1 p2 r3 lowest) = v.Pr qp ∷ v.Flag unc ∷ v.Pr p1 ∷ v.Pr p2 ∷ v.Gr r3 ∷ v.Small lowest ∷ v.Absent ∷ []
operands_of qp (op.Tnat unc p1 p2 r3) = v.Pr qp ∷ v.Flag unc ∷ v.Pr p1 ∷ v.Pr p2 ∷ v.Gr r3 ∷ v.Absent ∷ v.Absent ∷ []
operands_of qp (op.ChkS unit r2 disp) = v.Pr qp ∷ v.Gr r2 ∷ v.Displacement disp ∷ v.Absent ∷ v.Absent ∷ v.Absent ∷ v.Absent ∷ []
operands_of qp (op.MovToBr b1 r2 ret imp wh tag) = v.Pr qp ∷ v.Br b1 ∷ v.Gr r2 ∷ v.Flag ret ∷ v.Flag imp ∷ v.Small wh ∷ v.Short tag ∷ []
operands_of qp (op.MovFromBr r1 b2) = v.Pr qp ∷ v.Gr r1 ∷ v.Br b2 ∷ v.Absent ∷ v.Absent ∷ v.Absent ∷ v.Absent ∷ []
operands_of qp (op.MovToPr r2 mask) = v.Pr qp ∷ v.Gr r2 ∷ v.Mask mask ∷ v.Absent ∷ v.Absent ∷ v.Absent ∷ v.Absent ∷ []
operands_of qp (op.MovToPrRot imm) = v.Pr qp ∷ v.Signed imm ∷ v.Absent ∷ v.Absent ∷ v.Absent ∷ v.Absent ∷ v.Absent ∷ []
operands_of qp (op.MovFromIp r1) = v.Pr qp ∷ v.Gr r1 ∷ v.Absent ∷ v.Absent ∷ v.Absent ∷ v.Absent ∷ v.Absent ∷ []
operands_of qp (op.MovFromPr r1) = v.Pr qp ∷ v.Gr r1 ∷ v.Absent ∷ v.Absent ∷ v.Absent ∷ v.Absent ∷ v.Absent ∷ []
operands_of qp (op.MovToAr ar r2) = v.Pr qp ∷ v.Gr r2 ∷ v.Absent ∷ v.Absent ∷ v.Absent ∷ v.Absent ∷ v.Absent ∷ []
operands_of qp (op.MovToArImm ar imm) = v.Pr qp ∷ v.Signed imm ∷ v.Absent ∷ v.Absent ∷ v.Absent ∷ v.Absent ∷ v.Absent ∷ []
operands_of qp (op.MovFromAr r1 ar) = v.Pr qp ∷ v.Gr r1 ∷ v.Absent ∷ v.Absent ∷ v.Absent ∷ v.Absent ∷ v.Absent ∷ []
operands_of qp (op.Ext signed size r1 r3) = v.Pr qp ∷ v.Flag signed ∷ v.Small size ∷ v.Gr r1 ∷ v.Gr r3 ∷ v.Absent ∷ v.Absent ∷ []
operands_of qp (op.Load size kind hint r1 r3 u) = v.Pr qp ∷ v.Small size ∷ v.Small hint ∷ v.Gr r1 ∷ v.Gr r3 ∷ added u ∷ v.Absent ∷ []
operands_of qp (op.Store size kind hint r3 r2 u) = v.Pr qp ∷ v.Small size ∷ v.Small hint ∷ v.Gr r3 ∷ v.Gr r2 ∷ added u ∷ v.Absent ∷ []
operands_of qp (op.Xchg size hint r1 r3 r2) = v.Pr qp ∷ v.Small size ∷ v.Small hint ∷ v.Gr r1 ∷ v.Gr r3 ∷ v.Gr r2 ∷ v.Absent ∷ []
operands_of qp (op.FetchAdd size release hint r1 r3 inc) =
    v.Pr qp ∷ v.Small size ∷ v.Flag release ∷ v.Small hint ∷ v.Gr r1 ∷ v.Gr r3 ∷ v.Short inc ∷ []
operands_of qp (op.ChkA clear r1 disp) = v.Pr qp ∷ v.Flag clear ∷ v.Gr r1 ∷ v.Displacement disp ∷ v.Absent ∷ v.Absent ∷ v.Absent ∷ []
operands_of qp op.Invala = v.Pr qp ∷ v.Absent ∷ v.Absent ∷ v.Absent ∷ v.Absent ∷ v.Absent ∷ v.Absent ∷ []
operands_of qp op.Mf = v.Pr qp ∷ v.Absent ∷ v.Absent ∷ v.Absent ∷ v.Absent ∷ v.Absent ∷ v.Absent ∷ []
operands_of qp (op.InvalaE r1) = v.Pr qp ∷ v.Gr r1 ∷ v.Absent ∷ v.Absent ∷ v.Absent ∷ v.Absent ∷ v.Absent ∷ []
operands_of qp (op.Alloc r1 sof sol sor) = v.Pr qp ∷ v.Gr r1 ∷ v.Small sof ∷ v.Small sol ∷ v.Small sor ∷ v.Absent ∷ v.Absent ∷ []
operands_of qp (op.Br kind wh many clr disp) =
    v.Pr qp ∷ v.Small wh ∷ v.Flag many ∷ v.Flag clr ∷ v.Displacement disp ∷ v.Absent ∷ v.Absent ∷ []
operands_of qp (op.BrCall b1 wh many clr disp) =
    v.Pr qp ∷ v.Br b1 ∷ v.Small wh ∷ v.Flag many ∷ v.Flag clr ∷ v.Displacement disp ∷ v.Absent ∷ []
operands_of qp (op.BrInd b2 wh many clr) = v.Pr qp ∷ v.Br b2 ∷ v.Small wh ∷ v.Flag many ∷ v.Flag clr ∷ v.Absent ∷ v.Absent ∷ []
operands_of qp (op.BrRet b2 wh many clr) = v.Pr qp ∷ v.Br b2 ∷ v.Small wh ∷ v.Flag many ∷ v.Flag clr ∷ v.Absent ∷ v.Absent ∷ []
operands_of qp (op.BrCallInd b1 b2 wh many clr) = v.Pr qp ∷ v.Br b1 ∷ v.Br b2 ∷ v.Small wh ∷ v.Flag many ∷ v.Flag clr ∷ v.Absent ∷ []
operands_of qp (op.Clrrrb pred_only) = v.Pr qp ∷ v.Flag pred_only ∷ v.Absent ∷ v.Absent ∷ v.Absent ∷ v.Absent ∷ v.Absent ∷ []
operands_of qp (op.Movl r1 imm) = v.Pr qp ∷ v.Gr r1 ∷ v.Wide imm ∷ v.Absent ∷ v.Absent ∷ v.Absent ∷ v.Absent ∷ []
operands_of qp (op.Break unit imm) = v.Pr qp ∷ v.Wide imm ∷ v.Absent ∷ v.Absent ∷ v.Absent ∷ v.Absent ∷ v.Absent ∷ []
operands_of qp (op.Nop unit imm) = v.Pr qp ∷ v.Wide imm ∷ v.Absent ∷ v.Absent ∷ v.Absent ∷ v.Absent ∷ v.Absent ∷ []
operands_of qp (op.Hint unit imm) = v.Pr qp ∷ v.Wide imm ∷ v.Absent ∷ v.Absent ∷ v.Absent ∷ v.Absent ∷ v.Absent ∷ []

abbrev pub values_of : Insn → List Value
values_of i = operands_of i.qp i.op
