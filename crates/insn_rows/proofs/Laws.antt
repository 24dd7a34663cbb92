-- What a table says of its words.
use Rattle.std.proofs.Common.{◌≡◌, ℕ, ◌+◌, ◌^◌, ◌<◌, ◌≤◌, List, [], ◌∷◌, map, get_or, Bool, true, sym, ◌∙◌, refl, arith, subst}
use Rattle.std.specs.Prelude.{◌↔◌, Option, Some, None, IsTrue}
use Rattle.std.specs.List.{list_all}
use Rattle.std.proofs.lemmas.Bool.{leb-true, ltb-true}
use Rattle.bundle_bits.specs.Words.{Part, word_of, AllFit}
use Rattle.bundle_bits.proofs.Words.{both-left, both-right}
use Rattle.bundle_bits.proofs.Fields.{with-fits}
use Rattle.ia_insn.specs.declared.insn.Insn.{Insn}
use Rattle.insn_rows.specs.declared.bits.BitField.{BitField}
use Rattle.insn_rows.specs.declared.row.Row.{Row}
use Rattle.insn_rows.specs.declared.value.Value.{Value}
use Rattle.insn_rows.specs.Rows.{operands, parts, row_word, HasWord}
use Rattle.insn_rows.specs.WellMade.{are_apart_fields, is_clear, is_table}
use Rattle.insn_rows.specs.Arms.{opcode_of, values_of}
use Rattle.insn_rows.specs.Families.{reaches, is_below, stays_below}
use Rattle.insn_rows.specs.Codes.{HasRow, IsListedBy, IsRowIndexOf}
use Rattle.insn_rows.proofs.Spread.{field_of, put}
use Rattle.insn_rows.proofs.Parts.{parts_fit, parts_fields}
use Rattle.insn_rows.proofs.RowWords.{well_made, all_get}
use Rattle.insn_rows.proofs.RowBack.{no_row, table_made, at_row_index, no_row_index, row_of}

-- An instruction has at most one word.
word_at : (rows : List Row) (p : Option ℕ) (i : Insn) (v w : ℕ) → IsRowIndexOf rows p (opcode_of i.op) → HasRow rows i v → HasRow rows i w
    → v ≡ w
word_at rows None i v w here of-v of-w = absurd (no_row_index rows i v no_row here of-v)
word_at rows (Some n) i v w here of-v of-w =
    (at_row_index rows i v n no_row here of-v).sum ∙ sym (at_row_index rows i w n no_row here of-w).sum

pub only_word : (rows : List Row) (p : Option ℕ) (i : Insn) (v w : ℕ) → IsRowIndexOf rows p (opcode_of i.op) → HasRow rows i v
    → HasRow rows i w → v ≡ w
only_word rows p i v w here of-v of-w = word_at rows p i v w here of-v of-w

-- Its word is at least a number that the fixed bits of each row come to.
pub word_above : (rows : List Row) (least : ℕ) (i : Insn) (w : ℕ) → list_all (reaches least) rows ≡ true → HasRow rows i w → least ≤ w
word_above rows least i w h code =
    let a : least ≤ (get_or rows code.row_index no_row).fixed =
    leb-true _ _ (all_get (reaches least) rows code.row_index no_row code.inside h) in
    omega (arith, a, (code.row no_row).sum)

-- And it has only the bits below the highest that a row has.
sum_below : (k b : ℕ) (ps : List Part) → b < 2 ^ k → AllFit ps → are_apart_fields (map field_of ps) ≡ true
    → list_all (is_clear b) (map field_of ps) ≡ true → list_all (is_below k) (map field_of ps) ≡ true → b + word_of ps < 2 ^ k
sum_below k b [] h fit s cl below = omega arith
sum_below k b (p ∷ ps) h fit s cl below =
    let P : ℕ → Type 0 = λ n. n < 2 ^ k in
    subst P (sym (put b p ps fit.1 s cl)) (with-fits (b + word_of ps) p.low p.width p.value k (leb-true _ _ (both-left _ _ below))
    (sum_below k b ps h fit.1 (both-right _ _ s) (both-right _ _ cl) (both-right _ _ below)) fit.0)

pub word_under : (rows : List Row) (k : ℕ) (i : Insn) (w : ℕ) → is_table rows ≡ true → list_all (stays_below k) rows ≡ true
    → HasRow rows i w → w < 2 ^ k
unfolding is_table
word_under rows k i w h below code =
    let r : Row = get_or rows code.row_index no_row in
    let m = well_made r (table_made rows code.row_index no_row h code.inside) in
    let b : stays_below k r ≡ true = all_get (stays_below k) rows code.row_index no_row code.inside below in
    let same = sym (parts_fields (operands r) (values_of i) (code.row no_row).listed.takes) in
    let A : List BitField → Type 0 = λ fs. are_apart_fields fs ≡ true in
    let C : List BitField → Type 0 = λ fs. list_all (is_clear r.fixed) fs ≡ true in
    let B : List BitField → Type 0 = λ fs. list_all (is_below k) fs ≡ true in
    let a : r.fixed + word_of (parts (operands r) (values_of i)) < 2 ^ k =
    sum_below k r.fixed (parts (operands r) (values_of i)) (ltb-true _ _ (both-left _ _ b)) (parts_fit (operands r) (values_of i))
    (subst A same m.apart) (subst C same m.clear) (subst B same (both-right _ _ b)) in
    omega (arith, a, (code.row no_row).sum)

-- What the row at the index of its opcode says of an instruction: it has a word for its values.
abbrev pub AsRow : List Row → Option ℕ → Insn → Type 0
AsRow rows None i = ⊥
AsRow rows (Some n) i = HasWord (get_or rows n no_row) (values_of i)

pub as_row : (rows : List Row) (p : Option ℕ) (i : Insn) (w : ℕ) → IsRowIndexOf rows p (opcode_of i.op) → HasRow rows i w → AsRow rows p i
as_row rows None i w here code = no_row_index rows i w no_row here code
as_row rows (Some n) i w here code = (at_row_index rows i w n no_row here code).listed

pub from_row : (rows : List Row) (p : Option ℕ) (i : Insn) → IsRowIndexOf rows p (opcode_of i.op) → AsRow rows p i → IsListedBy rows i
from_row rows None i here h = absurd h
from_row rows (Some n) i here h = (
  row_word (get_or rows n no_row) (values_of i),
  row_of rows i _ n no_row here.0 (record { opcode = here.1 no_row; listed = h; sum = refl }),
)

-- The row at the index of its opcode lists an instruction exactly where it has a word for its values.
pub listed_there : (rows : List Row) (n : ℕ) (d : Row) (i : Insn) → IsRowIndexOf rows (Some n) (opcode_of i.op)
    → HasWord (get_or rows n d) (values_of i) ↔ IsListedBy rows i
listed_there rows n d i here = (
  λ h. (row_word (get_or rows n d) (values_of i), row_of rows i _ n d here.0 (record { opcode = here.1 d; listed = h; sum = refl })),
  λ l. (at_row_index rows i l.0 n d here l.1).listed,
)

pub listed_values : (rows : List Row) (n : ℕ) (d : Row) (i : Insn) (xs : List Value) (b : Bool)
    → IsRowIndexOf rows (Some n) (opcode_of i.op) → xs ≡ values_of i → IsTrue b ↔ HasWord (get_or rows n d) xs → IsTrue b
    ↔ IsListedBy rows i
listed_values rows n d i xs b here same has =
    let P : List Value → Type 0 = λ xs. IsTrue b ↔ HasWord (get_or rows n d) xs in
    let of-values = subst P same has in
    let there = listed_there rows n d i here in
    (λ h. there.0 (of-values.0 h), λ l. of-values.1 (there.1 l))
