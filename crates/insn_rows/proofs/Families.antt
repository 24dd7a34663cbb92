-- What the rows of a family say of its words.
use Rattle.std.proofs.Common.{ℕ, ◌^◌, List, refl}
use Rattle.std.specs.Prelude.{Option, Some, None, IfSome, IsNone}
use Rattle.insn_rows.specs.declared.opcode.Opcode.{Opcode}
use Rattle.insn_rows.specs.declared.row.Row.{Row}
use Rattle.ia_insn.specs.declared.insn.Insn.{Insn}
use Rattle.insn_rows.specs.Arms.{opcode_of}
use Rattle.insn_rows.specs.Codes.{HasRow, IsListedBy}
use Rattle.insn_rows.specs.Families.{IsFamily}
use Rattle.insn_rows.specs.Laws.{OneInstruction, OneWord, IsFrom, IsBelow}
use Rattle.insn_rows.proofs.RowBack.{no_row, only_insn}
use Rattle.insn_rows.proofs.Laws.{only_word, word_above, word_under, AsRow, as_row, from_row}

pub one_insn : {rows : List Row} {row_index : Opcode → Option ℕ} {least width : ℕ} → IsFamily rows row_index least width
    → OneInstruction (HasRow rows)
one_insn {rows} {row_index} {least} {width} h w i j of-i of-j = only_insn rows i j w no_row h.table of-i of-j

pub one_word : {rows : List Row} {row_index : Opcode → Option ℕ} {least width : ℕ} → IsFamily rows row_index least width
    → OneWord (HasRow rows)
one_word {rows} {row_index} {least} {width} h i v w of-v of-w =
    only_word rows (row_index (opcode_of i.op)) i v w (h.row_indexes (opcode_of i.op)) of-v of-w

pub is_from : {rows : List Row} {row_index : Opcode → Option ℕ} {least width : ℕ} → IsFamily rows row_index least width
    → IsFrom (HasRow rows) least
is_from {rows} {row_index} {least} {width} h w i code = word_above rows least i w h.reach code

pub is_below : {rows : List Row} {row_index : Opcode → Option ℕ} {least width : ℕ} → IsFamily rows row_index least width
    → IsBelow (HasRow rows) (2 ^ width)
is_below {rows} {row_index} {least} {width} h w i code = word_under rows width i w h.table h.stay code

-- The row of an instruction, by its opcode: it has a word for its values.
pub row : {rows : List Row} {row_index : Opcode → Option ℕ} {least width : ℕ} → IsFamily rows row_index least width → (i : Insn)
    → IsListedBy rows i → AsRow rows (row_index (opcode_of i.op)) i
row {rows} {row_index} {least} {width} h i l = as_row rows (row_index (opcode_of i.op)) i l.0 (h.row_indexes (opcode_of i.op)) l.1

pub of_row : {rows : List Row} {row_index : Opcode → Option ℕ} {least width : ℕ} → IsFamily rows row_index least width → (i : Insn)
    → AsRow rows (row_index (opcode_of i.op)) i → IsListedBy rows i
of_row {rows} {row_index} {least} {width} h i a = from_row rows (row_index (opcode_of i.op)) i (h.row_indexes (opcode_of i.op)) a

-- What has the word of no instruction is none's.
pub none_found : {rows : List Row} (answer : Option Insn) (w : ℕ) → IfSome answer (λ i. HasRow rows i w)
    → ((i : Insn) → HasRow rows i w → ⊥) → IsNone answer
none_found None w found never = refl
none_found (Some i) w found never = absurd (never i found)
