-- The row of a B instruction, by its opcode: it has a word for its values.
use Rattle.ia_insn.specs.declared.insn.Insn.{Insn}
use Rattle.insn_rows.specs.Arms.{opcode_of}
use Rattle.insn_rows.proofs.Laws.{AsRow}
use Rattle.insn_rows.proofs.Families.{row, of_row}
use Rattle.formats_b.specs.ListedB.{rows, IsListedB}
use Rattle.formats_b.specs.RowIndexesB.{row_index_of}
use Rattle.formats_b.proofs.TableB.{is_family}

pub row_b : (i : Insn) → IsListedB i → AsRow rows (row_index_of (opcode_of i.op)) i
row_b i l = row is_family i l

pub of_row_b : (i : Insn) → AsRow rows (row_index_of (opcode_of i.op)) i → IsListedB i
of_row_b i h = of_row is_family i h
