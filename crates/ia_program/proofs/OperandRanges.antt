-- The operands of a listed instruction have their ranges, and it has no qualifying predicate where it may have none: what its
-- row says.
use Rattle.std.proofs.Common.{ℕ, ◌⊎◌, inl, inr, arith}
use Rattle.ia_insn.specs.declared.insn.Insn.{Insn}
use Rattle.ia_insn.specs.declared.insn.Op.{Op}
use Rattle.ia_insn.specs.Ranges.{HasRanges, MayQualify}
use Rattle.insn_rows.specs.Arms.{opcode_of}
use Rattle.insn_rows.specs.Rows.{listed}
use Rattle.insn_rows.proofs.Laws.{AsRow}
use Rattle.formats_a.specs.Listed.{rows as rows_a}
use Rattle.formats_a.specs.RowIndexes.{row_index_of as row_index_a}
use Rattle.formats_a.proofs.Words.{row_a}
use Rattle.formats_i.specs.Listed.{rows as rows_i}
use Rattle.formats_i.specs.RowIndexes.{row_index_of as row_index_i}
use Rattle.formats_i.proofs.Words.{row_i}
use Rattle.formats_m.specs.Listed.{rows as rows_m}
use Rattle.formats_m.specs.RowIndexes.{row_index_of as row_index_m}
use Rattle.formats_m.proofs.Words.{row_m}
use Rattle.formats_b.specs.ListedB.{rows as rows_b}
use Rattle.formats_b.specs.RowIndexesB.{row_index_of as row_index_b}
use Rattle.formats_b.proofs.WordsB.{row_b}
use Rattle.formats_b.specs.ListedF.{rows as rows_f}
use Rattle.formats_b.specs.RowIndexesF.{row_index_of as row_index_f}
use Rattle.formats_b.proofs.WordsF.{row_f}
use Rattle.formats_b.specs.ListedX.{rows as rows_x}
use Rattle.formats_b.specs.RowIndexesX.{row_index_of as row_index_x}
use Rattle.formats_b.specs.PartsX.{slot_op, HasNumberInRange}
use Rattle.formats_b.proofs.WordsX.{row_of_x}
use Rattle.ia_program.specs.Listed.{IsListed}

ranges_a : (qp : ℕ) (x : Op) → AsRow rows_a (row_index_a (opcode_of x)) (record { qp = qp; op = x }) → HasRanges x × MayQualify qp x
unfolding rows_a listed
ranges_a qp x h = grind arith

ranges_i : (qp : ℕ) (x : Op) → AsRow rows_i (row_index_i (opcode_of x)) (record { qp = qp; op = x }) → HasRanges x × MayQualify qp x
unfolding rows_i listed
ranges_i qp x h = grind arith

ranges_m : (qp : ℕ) (x : Op) → AsRow rows_m (row_index_m (opcode_of x)) (record { qp = qp; op = x }) → HasRanges x × MayQualify qp x
unfolding rows_m listed
ranges_m qp x h = grind arith

ranges_b : (qp : ℕ) (x : Op) → AsRow rows_b (row_index_b (opcode_of x)) (record { qp = qp; op = x }) → HasRanges x × MayQualify qp x
unfolding rows_b listed
ranges_b qp x h = grind arith

ranges_f : (qp : ℕ) (x : Op) → AsRow rows_f (row_index_f (opcode_of x)) (record { qp = qp; op = x }) → HasRanges x × MayQualify qp x
unfolding rows_f listed
ranges_f qp x h = grind arith

ranges_x : (qp : ℕ) (x : Op) → AsRow rows_x (row_index_x (opcode_of (slot_op x))) (record { qp = qp; op = slot_op x }) → HasNumberInRange x
    → HasRanges x × MayQualify qp x
unfolding rows_x listed
ranges_x qp x h within = grind arith

pub all_ranges : (i : Insn) → IsListed i → HasRanges i.op × MayQualify i.qp i.op
all_ranges i (inl l) = ranges_a i.qp i.op (row_a i l)
all_ranges i (inr (inl l)) = ranges_i i.qp i.op (row_i i l)
all_ranges i (inr (inr (inl l))) = ranges_m i.qp i.op (row_m i l)
all_ranges i (inr (inr (inr (inl l)))) = ranges_b i.qp i.op (row_b i l)
all_ranges i (inr (inr (inr (inr (inl l))))) = ranges_f i.qp i.op (row_f i l)
all_ranges i (inr (inr (inr (inr (inr l))))) = let r = row_of_x i l in ranges_x i.qp i.op r.0 r.1

pub ranges_of_listed : (i : Insn) → IsListed i → HasRanges i.op
ranges_of_listed i l = (all_ranges i l).0
