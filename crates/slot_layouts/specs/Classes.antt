-- The class of an operation: which slots a listed instruction with it fits (volume 1, chapter 3, instruction encoding,
-- and volume 3, chapter 2, `br`, which keeps loop branches to slot 2).
use Rattle.std.specs.Prelude.{ℕ, ◌==◌, Bool, true, false}
use Rattle.ia_insn.specs.declared.insn.Op.{Op}
use Rattle.ia_insn.specs.declared.insn.Op.TheVariants as ops
use Rattle.ia_insn.specs.declared.choices.BranchKind.{BranchKind}
use Rattle.ia_insn.specs.declared.choices.BranchKind.TheVariants.{Cond}
use Rattle.ia_insn.specs.declared.registers.Ar.TheVariants.{Unat}
use Rattle.ia_insn.specs.declared.choices.Unit.{Unit as ExecutionUnit}
use Rattle.ia_insn.specs.declared.choices.Unit.TheVariants as units
use Rattle.slot_layouts.specs.declared.classes.SlotClass.{SlotClass}
use Rattle.slot_layouts.specs.declared.classes.SlotClass.TheVariants.{A, I, M, F, B, Loop, X}

-- The class of what is of this unit alone.
abbrev pub class_of_unit : ExecutionUnit → SlotClass
class_of_unit units.M = M
class_of_unit units.I = I
class_of_unit units.F = F
class_of_unit units.B = B
class_of_unit units.L = X
class_of_unit units.X = X

-- The class of a direct branch other than a call.
abbrev pub class_of_branch : BranchKind → SlotClass
class_of_branch Cond = B
class_of_branch kind = Loop

abbrev pub class_of : Op → SlotClass
class_of (ops.Alu f r1 r2 r3) = A
class_of (ops.ShlAdd p4 r1 r2 count r3) = A
class_of (ops.AluImm8 f r1 imm r3) = A
class_of (ops.AddImm14 p4 r1 imm r3) = A
class_of (ops.AddImm22 r1 imm r3) = A
class_of (ops.Cmp four_bytes rel kind p1 p2 r2 r3) = A
class_of (ops.CmpZero four_bytes rel kind p1 p2 r3) = A
class_of (ops.CmpImm four_bytes rel kind p1 p2 imm r3) = A
class_of (ops.Lane f size r1 r2 r3) = A
class_of (ops.ChkS unit r2 disp) = class_of_unit unit
class_of (ops.MovToAr Unat r2) = M
class_of (ops.MovToArImm Unat imm) = M
class_of (ops.MovFromAr r1 Unat) = M
class_of (ops.Load size kind hint r1 r3 update) = M
class_of (ops.Store size kind hint r3 r2 update) = M
class_of (ops.Xchg size hint r1 r3 r2) = M
class_of (ops.FetchAdd size release hint r1 r3 inc) = M
class_of (ops.ChkA clear r1 disp) = M
class_of ops.Invala = M
class_of ops.Mf = M
class_of (ops.InvalaE r1) = M
class_of (ops.Alloc r1 sof sol sor) = M
class_of (ops.Br kind wh many clr disp) = class_of_branch kind
class_of (ops.BrCall b1 wh many clr disp) = B
class_of (ops.BrInd b2 wh many clr) = B
class_of (ops.BrRet b2 wh many clr) = B
class_of (ops.BrCallInd b1 b2 wh many clr) = B
class_of (ops.Clrrrb pred_only) = B
class_of (ops.Movl r1 imm) = X
class_of (ops.Break unit imm) = class_of_unit unit
class_of (ops.Nop unit imm) = class_of_unit unit
class_of (ops.Hint unit imm) = class_of_unit unit
class_of op = I

-- An instruction of the class may stand in this slot of its bundle, where the template has this unit.
abbrev pub has_place : SlotClass → ExecutionUnit → ℕ → Bool
has_place A units.M slot = true
has_place A units.I slot = true
has_place I units.I slot = true
has_place M units.M slot = true
has_place F units.F slot = true
has_place B units.B slot = true
has_place Loop units.B slot = slot == 2
has_place X units.L slot = slot == 1
has_place X units.X slot = slot == 1
has_place class unit slot = false
