-- The row of an I instruction, by its opcode: it has a word for its values.
use Rattle.ia_insn.specs.declared.insn.Insn.{Insn}
use Rattle.insn_rows.specs.Arms.{opcode_of}
use Rattle.insn_rows.proofs.Laws.{AsRow}
use Rattle.insn_rows.proofs.Families.{row, of_row}
use Rattle.formats_i.specs.Listed.{rows, IsListedI}
use Rattle.formats_i.specs.RowIndexes.{row_index_of}
use Rattle.formats_i.proofs.Table.{is_family}

pub row_i : (i : Insn) → IsListedI i → AsRow rows (row_index_of (opcode_of i.op)) i
row_i i l = row is_family i l

pub of_row_i : (i : Insn) → AsRow rows (row_index_of (opcode_of i.op)) i → IsListedI i
of_row_i i h = of_row is_family i h
