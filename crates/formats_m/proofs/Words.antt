-- The row of an M instruction, by its opcode: it has a word for its values.
use Rattle.ia_insn.specs.declared.insn.Insn.{Insn}
use Rattle.insn_rows.specs.Arms.{opcode_of}
use Rattle.insn_rows.proofs.Laws.{AsRow}
use Rattle.insn_rows.proofs.Families.{row, of_row}
use Rattle.formats_m.specs.Listed.{rows, IsListedM}
use Rattle.formats_m.specs.RowIndexes.{row_index_of}
use Rattle.formats_m.proofs.Table.{is_family}

pub row_m : (i : Insn) → IsListedM i → AsRow rows (row_index_of (opcode_of i.op)) i
row_m i l = row is_family i l

pub of_row_m : (i : Insn) → AsRow rows (row_index_of (opcode_of i.op)) i → IsListedM i
of_row_m i h = of_row is_family i h
