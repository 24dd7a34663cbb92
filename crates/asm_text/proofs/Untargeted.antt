-- An instruction with another displacement is listed, too: so it is until the name of its target is put in, with 0.
use Rattle.std.proofs.Common.{◌≡◌, subst, refl, inl, inr, ℕ, ℤ, pos, lit<, arith}
use Rattle.ia_insn.specs.declared.insn.Insn.{Insn}
use Rattle.ia_insn.specs.declared.insn.Op.{Op}
use Rattle.ia_insn.specs.declared.insn.Op.TheVariants as op
use Rattle.ia_insn.specs.Signed.{FitsSigned}
use Rattle.insn_rows.specs.Arms.{opcode_of}
use Rattle.insn_rows.specs.Rows.{listed}
use Rattle.insn_rows.proofs.Laws.{AsRow}
use Rattle.formats_a.specs.Listed.{rows as rows_a, IsListedA}
use Rattle.formats_a.specs.RowIndexes.{row_index_of as row_index_a}
use Rattle.formats_a.proofs.Words.{row_a, of_row_a}
use Rattle.formats_i.specs.Listed.{rows as rows_i, IsListedI}
use Rattle.formats_i.specs.RowIndexes.{row_index_of as row_index_i}
use Rattle.formats_i.proofs.Words.{row_i, of_row_i}
use Rattle.formats_m.specs.Listed.{rows as rows_m, IsListedM}
use Rattle.formats_m.specs.RowIndexes.{row_index_of as row_index_m}
use Rattle.formats_m.proofs.Words.{row_m, of_row_m}
use Rattle.formats_b.specs.ListedB.{rows as rows_b, IsListedB}
use Rattle.formats_b.specs.RowIndexesB.{row_index_of as row_index_b}
use Rattle.formats_b.proofs.WordsB.{row_b, of_row_b}
use Rattle.formats_b.specs.ListedF.{rows as rows_f, IsListedF}
use Rattle.formats_b.specs.RowIndexesF.{row_index_of as row_index_f}
use Rattle.formats_b.proofs.WordsF.{row_f, of_row_f}
use Rattle.formats_b.specs.ListedX.{rows as rows_x, IsListedX}
use Rattle.formats_b.specs.RowIndexesX.{row_index_of as row_index_x}
use Rattle.formats_b.specs.PartsX.{slot_op, HasNumberInRange}
use Rattle.formats_b.proofs.WordsX.{row_of_x, of_row_x}
use Rattle.ia_program.specs.Listed.{IsListed}
use Rattle.asm_text.specs.ReadBack.{untargeted}

-- The operation with this displacement.
abbrev pub aimed : ℤ → Op → Op
aimed z (op.ChkS unit r2 disp) = op.ChkS unit r2 z
aimed z (op.ChkA clear r1 disp) = op.ChkA clear r1 z
aimed z (op.Br kind wh many clr disp) = op.Br kind wh many clr z
aimed z (op.BrCall b1 wh many clr disp) = op.BrCall b1 wh many clr z
aimed z x = x

row_aimed_a : (qp : ℕ) (x : Op) (z : ℤ) → FitsSigned 21 z → AsRow rows_a (row_index_a (opcode_of x)) (record { qp = qp; op = x })
    → AsRow rows_a (row_index_a (opcode_of (aimed z x))) (record { qp = qp; op = aimed z x })
unfolding rows_a listed
row_aimed_a qp x z near h = grind arith

pub aimed_a : (qp : ℕ) (x : Op) (z : ℤ) → FitsSigned 21 z → IsListedA (record { qp = qp; op = x })
    → IsListedA (record { qp = qp; op = aimed z x })
aimed_a qp x z near l = of_row_a _ (row_aimed_a qp x z near (row_a _ l))

row_aimed_i : (qp : ℕ) (x : Op) (z : ℤ) → FitsSigned 21 z → AsRow rows_i (row_index_i (opcode_of x)) (record { qp = qp; op = x })
    → AsRow rows_i (row_index_i (opcode_of (aimed z x))) (record { qp = qp; op = aimed z x })
unfolding rows_i listed
row_aimed_i qp x z near h = grind arith

pub aimed_i : (qp : ℕ) (x : Op) (z : ℤ) → FitsSigned 21 z → IsListedI (record { qp = qp; op = x })
    → IsListedI (record { qp = qp; op = aimed z x })
aimed_i qp x z near l = of_row_i _ (row_aimed_i qp x z near (row_i _ l))

row_aimed_m : (qp : ℕ) (x : Op) (z : ℤ) → FitsSigned 21 z → AsRow rows_m (row_index_m (opcode_of x)) (record { qp = qp; op = x })
    → AsRow rows_m (row_index_m (opcode_of (aimed z x))) (record { qp = qp; op = aimed z x })
unfolding rows_m listed
row_aimed_m qp x z near h = grind arith

pub aimed_m : (qp : ℕ) (x : Op) (z : ℤ) → FitsSigned 21 z → IsListedM (record { qp = qp; op = x })
    → IsListedM (record { qp = qp; op = aimed z x })
aimed_m qp x z near l = of_row_m _ (row_aimed_m qp x z near (row_m _ l))

row_aimed_b : (qp : ℕ) (x : Op) (z : ℤ) → FitsSigned 21 z → AsRow rows_b (row_index_b (opcode_of x)) (record { qp = qp; op = x })
    → AsRow rows_b (row_index_b (opcode_of (aimed z x))) (record { qp = qp; op = aimed z x })
unfolding rows_b listed
row_aimed_b qp x z near h = grind arith

pub aimed_b : (qp : ℕ) (x : Op) (z : ℤ) → FitsSigned 21 z → IsListedB (record { qp = qp; op = x })
    → IsListedB (record { qp = qp; op = aimed z x })
aimed_b qp x z near l = of_row_b _ (row_aimed_b qp x z near (row_b _ l))

row_aimed_f : (qp : ℕ) (x : Op) (z : ℤ) → FitsSigned 21 z → AsRow rows_f (row_index_f (opcode_of x)) (record { qp = qp; op = x })
    → AsRow rows_f (row_index_f (opcode_of (aimed z x))) (record { qp = qp; op = aimed z x })
unfolding rows_f listed
row_aimed_f qp x z near h = grind arith

pub aimed_f : (qp : ℕ) (x : Op) (z : ℤ) → FitsSigned 21 z → IsListedF (record { qp = qp; op = x })
    → IsListedF (record { qp = qp; op = aimed z x })
aimed_f qp x z near l = of_row_f _ (row_aimed_f qp x z near (row_f _ l))

row_aimed_x : (qp : ℕ) (x : Op) (z : ℤ) → AsRow rows_x (row_index_x (opcode_of (slot_op x))) (record { qp = qp; op = slot_op x })
    → HasNumberInRange x
    → AsRow rows_x (row_index_x (opcode_of (slot_op (aimed z x)))) (record { qp = qp; op = slot_op (aimed z x) }) × HasNumberInRange (aimed z x)
unfolding rows_x listed
row_aimed_x qp x z h within = grind arith

pub aimed_x : (qp : ℕ) (x : Op) (z : ℤ) → IsListedX (record { qp = qp; op = x }) → IsListedX (record { qp = qp; op = aimed z x })
aimed_x qp x z l = let r = row_of_x _ l in let s = row_aimed_x qp x z r.0 r.1 in of_row_x _ s.0 s.1

pub aimed_listed : (qp : ℕ) (x : Op) (z : ℤ) → FitsSigned 21 z → IsListed (record { qp = qp; op = x })
    → IsListed (record { qp = qp; op = aimed z x })
aimed_listed qp x z near (inl l) = inl (aimed_a qp x z near l)
aimed_listed qp x z near (inr (inl l)) = inr (inl (aimed_i qp x z near l))
aimed_listed qp x z near (inr (inr (inl l))) = inr (inr (inl (aimed_m qp x z near l)))
aimed_listed qp x z near (inr (inr (inr (inl l)))) = inr (inr (inr (inl (aimed_b qp x z near l))))
aimed_listed qp x z near (inr (inr (inr (inr (inl l))))) = inr (inr (inr (inr (inl (aimed_f qp x z near l)))))
aimed_listed qp x z near (inr (inr (inr (inr (inr l))))) = inr (inr (inr (inr (inr (aimed_x qp x z l)))))

pub aimed_nowhere : (x : Op) → aimed (pos 0) x ≡ untargeted x
aimed_nowhere (op.ChkS unit r2 disp) = refl
aimed_nowhere (op.ChkA clear r1 disp) = refl
aimed_nowhere (op.Br kind wh many clr disp) = refl
aimed_nowhere (op.BrCall b1 wh many clr disp) = refl
aimed_nowhere x = refl

pub still_listed : (i : Insn) → IsListed i → IsListed (record { qp = i.qp; op = untargeted i.op })
still_listed i l =
    let P : Op → Type 0 = λ x. IsListed (record { qp = i.qp; op = x }) in
    subst P (aimed_nowhere i.op) (aimed_listed i.qp i.op (pos 0) (lit< tt) l)
