-- The row of an F instruction, by its opcode: it has a word for its values.
use Rattle.ia_insn.specs.declared.insn.Insn.{Insn}
use Rattle.insn_rows.specs.Arms.{opcode_of}
use Rattle.insn_rows.proofs.Laws.{AsRow}
use Rattle.insn_rows.proofs.Families.{row, of_row}
use Rattle.formats_b.specs.ListedF.{rows, IsListedF}
use Rattle.formats_b.specs.RowIndexesF.{row_index_of}
use Rattle.formats_b.proofs.TableF.{is_family}

pub row_f : (i : Insn) → IsListedF i → AsRow rows (row_index_of (opcode_of i.op)) i
row_f i l = row is_family i l

pub of_row_f : (i : Insn) → AsRow rows (row_index_of (opcode_of i.op)) i → IsListedF i
of_row_f i h = of_row is_family i h
