-- What is in range has a row.
use Rattle.std.proofs.Common.{ℕ, ◌⊎◌, inl, inr, arith}
use Rattle.ia_insn.specs.declared.insn.Insn.{Insn}
use Rattle.ia_insn.specs.declared.insn.Op.{Op}
use Rattle.ia_insn.specs.Ranges.{HasRanges, MayQualify}
use Rattle.insn_rows.specs.Arms.{opcode_of, operands_of}
use Rattle.insn_rows.specs.Rows.{listed}
use Rattle.insn_rows.proofs.Laws.{AsRow}
use Rattle.formats_a.specs.Listed.{rows as rows_a}
use Rattle.formats_a.specs.RowIndexes.{row_index_of as row_index_a}
use Rattle.formats_a.proofs.Words.{of_row_a}
use Rattle.formats_i.specs.Listed.{rows as rows_i}
use Rattle.formats_i.specs.RowIndexes.{row_index_of as row_index_i}
use Rattle.formats_i.proofs.Words.{of_row_i}
use Rattle.formats_m.specs.Listed.{rows as rows_m}
use Rattle.formats_m.specs.RowIndexes.{row_index_of as row_index_m}
use Rattle.formats_m.proofs.Words.{of_row_m}
use Rattle.formats_b.specs.ListedB.{rows as rows_b}
use Rattle.formats_b.specs.RowIndexesB.{row_index_of as row_index_b}
use Rattle.formats_b.proofs.WordsB.{of_row_b}
use Rattle.formats_b.specs.ListedF.{rows as rows_f}
use Rattle.formats_b.specs.RowIndexesF.{row_index_of as row_index_f}
use Rattle.formats_b.proofs.WordsF.{of_row_f}
use Rattle.formats_b.specs.ListedX.{rows as rows_x, slot_part}
use Rattle.formats_b.specs.RowIndexesX.{row_index_of as row_index_x}
use Rattle.formats_b.specs.PartsX.{slot_op, HasNumberInRange}
use Rattle.formats_b.proofs.WordsX.{of_row_x}
use Rattle.ia_program.specs.Listed.{IsListed}
use Rattle.ia_program.proofs.OperandRanges.{all_ranges}
use Rattle.range_laws.specs.Laws.{AreRegisters, ListedIsInRange}

row_of_ranges : (qp : ℕ) (x : Op) → AreRegisters (operands_of qp x) → HasRanges x → MayQualify qp x
    → AsRow rows_a (row_index_a (opcode_of x)) (record { qp = qp; op = x })
    ⊎ (AsRow rows_i (row_index_i (opcode_of x)) (record { qp = qp; op = x })
    ⊎ (AsRow rows_m (row_index_m (opcode_of x)) (record { qp = qp; op = x })
    ⊎ (AsRow rows_b (row_index_b (opcode_of x)) (record { qp = qp; op = x })
    ⊎ (AsRow rows_f (row_index_f (opcode_of x)) (record { qp = qp; op = x })
    ⊎ (AsRow rows_x (row_index_x (opcode_of (slot_op x))) (record { qp = qp; op = slot_op x }) × HasNumberInRange x)))))
unfolding rows_a rows_i rows_m rows_b rows_f rows_x listed
row_of_ranges qp x r h q = grind arith

listed_of : (i : Insn) → AreRegisters (operands_of i.qp i.op) → HasRanges i.op → MayQualify i.qp i.op → IsListed i
listed_of i r h q = elim (row_of_ranges i.qp i.op r h q) [
  | inl a ↦ inl (of_row_a i a)
  | inr (inl a) ↦ inr (inl (of_row_i i a))
  | inr (inr (inl a)) ↦ inr (inr (inl (of_row_m i a)))
  | inr (inr (inr (inl a))) ↦ inr (inr (inr (inl (of_row_b i a))))
  | inr (inr (inr (inr (inl a)))) ↦ inr (inr (inr (inr (inl (of_row_f i a)))))
  | inr (inr (inr (inr (inr a)))) ↦ inr (inr (inr (inr (inr (of_row_x i a.0 a.1)))))
]

pub in_range : ListedIsInRange
in_range i r = (λ l. all_ranges i l, λ h. listed_of i r h.0 h.1)
