-- An instruction with an address put in fits its slot as before, and its target is the bundle of the label.
use Rattle.std.proofs.Common.{◌≡◌, ◌∙◌, subst, sym, inl, inr, ℕ, zero, suc, ◌-◌, ◌<◌, ◌^◌, true, false, cond, ltb, pos, negsuc, ◌+ℤ◌, ◌-ℤ◌, ◌≤ℤ◌, ◌<ℤ◌, Option, Some, None, arith}
use Rattle.std.specs.Prelude.{IfSome}
use lib.Dec.{le→leb, lt→ltb}
use Rattle.std.proofs.Math.IntN.{+ℤ_comm, -ℤ-+ℤ_cancel}
use Rattle.ia_insn.specs.declared.insn.Insn.{Insn}
use Rattle.ia_insn.specs.declared.insn.Op.{Op}
use Rattle.ia_insn.specs.declared.insn.Op.TheVariants as op
use Rattle.ia_insn.specs.declared.choices.Unit.{Unit as ExecutionUnit}
use Rattle.ia_insn.specs.declared.choices.Unit.TheVariants as unit
use Rattle.ia_insn.specs.Signed.{FitsSigned}
use Rattle.ia_insn.specs.Displacements.{displacement}
use Rattle.insn_rows.specs.Rows.{listed}
use Rattle.insn_rows.specs.Arms.{opcode_of}
use Rattle.insn_rows.proofs.Laws.{AsRow}
use Rattle.formats_a.proofs.Words.{row_a}
use Rattle.formats_i.proofs.Words.{row_i}
use Rattle.formats_m.proofs.Words.{row_m}
use Rattle.formats_b.proofs.WordsB.{row_b}
use Rattle.formats_b.proofs.WordsF.{row_f}
use Rattle.formats_b.specs.ListedX.{rows, IsListedX}
use Rattle.formats_b.specs.RowIndexesX.{row_index_of}
use Rattle.formats_b.specs.PartsX.{slot_op}
use Rattle.formats_b.proofs.WordsX.{row_of_x, of_row_x}
use Rattle.ia_program.specs.Fits.{Fits, FitsUnit}
use Rattle.ia_program.specs.Addresses.{bundle_address, data_address}
use Rattle.ia_program.specs.Targets.{IsBundleAt}
use Rattle.asm_build.specs.declared.address.Address.{Address}
use Rattle.asm_build.specs.declared.address.Address.TheVariants.{Bundle, Byte}
use Rattle.asm_build.specs.Addresses.{IsInside, IsReachable, addressed, reach}
use Rattle.asm_build.proofs.UntargetedSlots.{fits_aimed}

-- A distance between bundles fits the field of a displacement.
near : (m n : ℕ) → m < reach → n < reach → FitsSigned 21 (pos m -ℤ pos n)
near m zero a b = omega (arith, a)
near m (suc n) a b =
    elim (ltb m (suc n)) as (λ less. FitsSigned 21 (cond less (negsuc (suc n - suc m)) (pos (m - suc n))))
    [ true ↦ omega (arith, a, b) | false ↦ omega (arith, a, b) ]

back : (m n : ℕ) → pos n +ℤ (pos m -ℤ pos n) ≡ pos m
back m n = +ℤ_comm (pos n) (pos m -ℤ pos n) ∙ -ℤ-+ℤ_cancel (pos m) (pos n)

at_bundle : (count m n : ℕ) → m < count → IsBundleAt count n (pos m -ℤ pos n)
at_bundle count m n h = (
  subst (λ z. pos 0 ≤ℤ z) (sym (back m n)) (record { le = le→leb 0 m (omega arith) }),
  subst (λ z. z <ℤ pos count) (sym (back m n)) (record { lt = lt→ltb m count h }),
)

-- A long move of another number.
row_moved : (qp r1 imm other : ℕ) → AsRow rows (row_index_of (opcode_of (slot_op (op.Movl r1 imm))))
    (record { qp = qp; op = slot_op (op.Movl r1 imm) })
    → AsRow rows (row_index_of (opcode_of (slot_op (op.Movl r1 other)))) (record { qp = qp; op = slot_op (op.Movl r1 other) })
unfolding rows listed
row_moved qp r1 imm other h = grind arith

moved : (qp r1 imm other : ℕ) → other < 2 ^ 64 → IsListedX (record { qp = qp; op = op.Movl r1 imm })
    → IsListedX (record { qp = qp; op = op.Movl r1 other })
moved qp r1 imm other h l = of_row_x _ (row_moved qp r1 imm other (row_of_x _ l).0) h

unit_moved : (qp r1 imm other : ℕ) (u : ExecutionUnit) (slot : ℕ) → other < 2 ^ 64
    → FitsUnit (record { qp = qp; op = op.Movl r1 imm }) u slot → FitsUnit (record { qp = qp; op = op.Movl r1 other }) u slot
unit_moved qp r1 imm other unit.M slot h (inl l) = absurd (row_a _ l)
unit_moved qp r1 imm other unit.M slot h (inr l) = absurd (row_m _ l)
unit_moved qp r1 imm other unit.I slot h (inl l) = absurd (row_a _ l)
unit_moved qp r1 imm other unit.I slot h (inr l) = absurd (row_i _ l)
unit_moved qp r1 imm other unit.F slot h l = absurd (row_f _ l)
unit_moved qp r1 imm other unit.B slot h l = absurd (row_b _ l.0)
unit_moved qp r1 imm other unit.L slot h l = (moved qp r1 imm other h l.0, l.1)
unit_moved qp r1 imm other unit.X slot h l = (moved qp r1 imm other h l.0, l.1)

fits_moved : (qp r1 imm other : ℕ) (u : ExecutionUnit) (slot : ℕ) → other < 2 ^ 64
    → Fits (record { qp = qp; op = op.Movl r1 imm }) u slot → Fits (record { qp = qp; op = op.Movl r1 other }) u slot
fits_moved qp r1 imm other u slot h f = record { place = f.place; kind = unit_moved qp r1 imm other u slot h f.kind }

fits_addressed : (qp : ℕ) (x : Op) (a : Address) (n : ℕ) (u : ExecutionUnit) (slot : ℕ) → IsReachable a → n < reach
    → Fits (record { qp = qp; op = x }) u slot → IfSome (addressed x a n) (λ y. Fits (record { qp = qp; op = y }) u slot)
fits_addressed qp (op.ChkS v r2 disp) (Bundle m) n u slot h k f = fits_aimed qp (op.ChkS v r2 disp) _ u slot (near m n h k) f
fits_addressed qp (op.ChkA clear r1 disp) (Bundle m) n u slot h k f = fits_aimed qp (op.ChkA clear r1 disp) _ u slot (near m n h k) f
fits_addressed qp (op.Br kind wh many clr disp) (Bundle m) n u slot h k f =
    fits_aimed qp (op.Br kind wh many clr disp) _ u slot (near m n h k) f
fits_addressed qp (op.BrCall b1 wh many clr disp) (Bundle m) n u slot h k f =
    fits_aimed qp (op.BrCall b1 wh many clr disp) _ u slot (near m n h k) f
fits_addressed qp (op.Movl r1 imm) (Bundle m) n u slot h k f = fits_moved qp r1 imm (bundle_address m) u slot (omega (arith, h)) f
fits_addressed qp (op.Movl r1 imm) (Byte at) n u slot h k f = fits_moved qp r1 imm (data_address at) u slot (omega (arith, h)) f
fits_addressed qp x a n u slot h k f = tt

-- An instruction with an address put in fits the slots that it fits without.
pub fit_stays : (i : Insn) (a : Address) (n : ℕ) (u : ExecutionUnit) (slot : ℕ) → IsReachable a → n < reach
    → Fits i u slot → IfSome (addressed i.op a n) (λ y. Fits (record { qp = i.qp; op = y }) u slot)
fit_stays i a n u slot h k f = fits_addressed i.qp i.op a n u slot h k f

-- What holds of an operation that there may be.
pub IfSome-weaken : {A : Type 0} (P Q : A → Type 0) (o : Option A) → ((y : A) → P y → Q y) → IfSome o P → IfSome o Q
IfSome-weaken P Q None f p = tt
IfSome-weaken P Q (Some y) f p = f y p

-- Its target, where it has one, is the bundle of the label.
pub target_inside : (count : ℕ) (x : Op) (a : Address) (n : ℕ) → IsInside count a
    → IfSome (addressed x a n) (λ y. IfSome (displacement y) (IsBundleAt count n))
target_inside count (op.ChkS u r2 disp) (Bundle m) n h = at_bundle count m n h
target_inside count (op.ChkA clear r1 disp) (Bundle m) n h = at_bundle count m n h
target_inside count (op.Br kind wh many clr disp) (Bundle m) n h = at_bundle count m n h
target_inside count (op.BrCall b1 wh many clr disp) (Bundle m) n h = at_bundle count m n h
target_inside count (op.Movl r1 imm) (Bundle m) n h = tt
target_inside count (op.Movl r1 imm) (Byte at) n h = tt
target_inside count x a n h = tt
