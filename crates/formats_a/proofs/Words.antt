-- The row of an A instruction, by its opcode: it has a word for its values.
use Rattle.ia_insn.specs.declared.insn.Insn.{Insn}
use Rattle.insn_rows.specs.Arms.{opcode_of}
use Rattle.insn_rows.proofs.Laws.{AsRow}
use Rattle.insn_rows.proofs.Families.{row, of_row}
use Rattle.formats_a.specs.Listed.{rows, IsListedA}
use Rattle.formats_a.specs.RowIndexes.{row_index_of}
use Rattle.formats_a.proofs.Table.{is_family}

pub row_a : (i : Insn) → IsListedA i → AsRow rows (row_index_of (opcode_of i.op)) i
row_a i l = row is_family i l

pub of_row_a : (i : Insn) → AsRow rows (row_index_of (opcode_of i.op)) i → IsListedA i
of_row_a i h = of_row is_family i h
