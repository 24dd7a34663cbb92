-- Instructions with other displacements fit their slots, too: so they do until the names of their targets are put in.
use Rattle.std.proofs.Common.{ℕ, ℤ, pos, inl, inr, subst, lit<}
use Rattle.ia_insn.specs.declared.insn.Insn.{Insn}
use Rattle.ia_insn.specs.declared.insn.Op.{Op}
use Rattle.ia_insn.specs.declared.insn.Op.TheVariants as op
use Rattle.ia_insn.specs.declared.choices.Unit.{Unit as ExecutionUnit}
use Rattle.ia_insn.specs.declared.choices.Unit.TheVariants.{M, I, F, B, L, X}
use Rattle.ia_insn.specs.declared.choices.BranchKind.TheVariants.{Cond}
use Rattle.ia_insn.specs.Signed.{FitsSigned}
use Rattle.ia_program.specs.Fits.{Fits, FitsUnit, IsBranchSlot}
use Rattle.asm_text.specs.ReadBack.{untargeted}
use Rattle.asm_text.proofs.Untargeted.{aimed, aimed_a, aimed_i, aimed_m, aimed_b, aimed_f, aimed_x, aimed_nowhere}

-- The instruction as it is until the name of its target is put in.
abbrev pub until_named : Insn → Insn
until_named i = record { qp = i.qp; op = untargeted i.op }

branch_aimed : (x : Op) (z : ℤ) (slot : ℕ) → IsBranchSlot x slot → IsBranchSlot (aimed z x) slot
branch_aimed (op.ChkS unit r2 disp) z slot h = h
branch_aimed (op.ChkA clear r1 disp) z slot h = h
branch_aimed (op.Br Cond wh many clr disp) z slot h = h
branch_aimed (op.Br kind wh many clr disp) z slot h = h
branch_aimed (op.BrCall b1 wh many clr disp) z slot h = h
branch_aimed x z slot h = h

unit_aimed : (qp : ℕ) (x : Op) (z : ℤ) (u : ExecutionUnit) (slot : ℕ) → FitsSigned 21 z → FitsUnit (record { qp = qp; op = x }) u slot
    → FitsUnit (record { qp = qp; op = aimed z x }) u slot
unit_aimed qp x z M slot near (inl l) = inl (aimed_a qp x z near l)
unit_aimed qp x z M slot near (inr l) = inr (aimed_m qp x z near l)
unit_aimed qp x z I slot near (inl l) = inl (aimed_a qp x z near l)
unit_aimed qp x z I slot near (inr l) = inr (aimed_i qp x z near l)
unit_aimed qp x z F slot near l = aimed_f qp x z near l
unit_aimed qp x z B slot near l = (aimed_b qp x z near l.0, branch_aimed x z slot l.1)
unit_aimed qp x z L slot near l = (aimed_x qp x z l.0, l.1)
unit_aimed qp x z X slot near l = (aimed_x qp x z l.0, l.1)

pub fits_aimed : (qp : ℕ) (x : Op) (z : ℤ) (u : ExecutionUnit) (slot : ℕ) → FitsSigned 21 z → Fits (record { qp = qp; op = x }) u slot
    → Fits (record { qp = qp; op = aimed z x }) u slot
fits_aimed qp x z u slot near h = record { place = h.place; kind = unit_aimed qp x z u slot near h.kind }

-- It fits the same slots.
pub fits_until : (i : Insn) (u : ExecutionUnit) (slot : ℕ) → Fits i u slot → Fits (until_named i) u slot
fits_until i u slot h =
    let P : Op → Type 0 = λ x. Fits (record { qp = i.qp; op = x }) u slot in
    subst P (aimed_nowhere i.op) (fits_aimed i.qp i.op (pos 0) u slot (lit< tt) h)
