-- What is read of an instruction's word by its row is the instruction.
use Rattle.std.proofs.Common.{◌≡◌, ℕ, zero, suc, ◌<◌, ◌^◌, arith, List, [], ◌∷◌, length, get_or, true, sym, ap, ◌∙◌, refl, subst}
use Rattle.std.specs.Prelude.{Option, Some, None, IsSome}
use Rattle.bundle_bits.proofs.Words.{both-left, both-right}
use Rattle.ia_insn.specs.declared.insn.Insn.{Insn}
use Rattle.insn_rows.specs.declared.opcode.Opcode.TheVariants as o
use Rattle.insn_rows.specs.declared.bits.Bits.TheVariants as b
use Rattle.insn_rows.specs.declared.row.Coding.TheVariants as c
use Rattle.insn_rows.specs.declared.row.Check.TheVariants as ch
use Rattle.insn_rows.specs.declared.value.Value.{Value}
use Rattle.insn_rows.specs.declared.row.Operand.{Operand}
use Rattle.insn_rows.specs.declared.row.Row.{Row}
use Rattle.insn_rows.specs.Values.{at}
use Rattle.insn_rows.specs.Rows.{listed, operands, HasWord, row_word}
use Rattle.insn_rows.specs.Reading.{read, matches}
use Rattle.insn_rows.specs.WellMade.{is_well_made, are_all_other, is_table}
use Rattle.insn_rows.specs.Arms.{opcode_of, values_of}
use Rattle.insn_rows.specs.ArmsBack.{insn_of}
use Rattle.insn_rows.specs.Codes.{IsOfRow, HasRow, IsRowIndexOf}
use Rattle.insn_rows.proofs.Back.{arms, opcode_back, values_of_insn}
use Rattle.insn_rows.proofs.RowWords.{well_made, word_below, word_matches, read_word, word_of_read, all_get, one_match}

-- The instruction that is read has the values that are read.
values_read : (r : Row) (w : ℕ) → is_well_made r ≡ true → HasWord r (read (operands r) w)
    → values_of (insn_of r.opcode (at (read (operands r) w))) ≡ read (operands r) w
unfolding listed
values_read r w h has = values_of_insn r.opcode (operands r) _ _ _ _ _ _ _ (well_made r h).kind has.takes

-- The instruction that is read has the word.
pub read_found : (r : Row) (w : ℕ) → w < 18446744073709551616 → is_well_made r ≡ true → matches r w ≡ true → HasWord r (read (operands r) w)
    → IsOfRow r (insn_of r.opcode (at (read (operands r) w))) w
read_found r w fits h bits has =
    let v = sym (values_read r w h has) in
    let P : List Value → Type 0 = λ xs. HasWord r xs in
    let Q : List Value → Type 0 = λ xs. w ≡ row_word r xs in
    record {
      opcode = sym (opcode_back r.opcode (at (read (operands r) w)));
      listed = subst P v has;
      sum = subst Q v (word_of_read r w fits h bits has);
    }

-- An instruction that has the word is the one that is read.
values_same : (r : Row) (i : Insn) (w : ℕ) → is_well_made r ≡ true → IsOfRow r i w → read (operands r) w ≡ values_of i
values_same r i w h code = ap (read (operands r)) code.sum ∙ read_word r (values_of i) h code.listed

pub read_has : (r : Row) (i : Insn) (w : ℕ) → is_well_made r ≡ true → IsOfRow r i w → HasWord r (read (operands r) w)
read_has r i w h code = let P : List Value → Type 0 = λ xs. HasWord r xs in subst P (sym (values_same r i w h code)) code.listed

pub read_only : (r : Row) (i : Insn) (w : ℕ) → is_well_made r ≡ true → IsOfRow r i w → insn_of r.opcode (at (read (operands r) w)) ≡ i
read_only r i w h code =
    ap (λ xs. insn_of r.opcode (at xs)) (values_same r i w h code) ∙ ap (λ k. insn_of k (at (values_of i))) code.opcode ∙ arms i.qp i.op

-- Where an instruction has the word, its values are found.
pub no_values : (r : Row) (i : Insn) (w : ℕ) → is_well_made r ≡ true → (HasWord r (read (operands r) w) → ⊥) → IsOfRow r i w → ⊥
no_values r i w h none code = none (read_has r i w h code)

-- Of a table.

-- A row that stands for none, outside a table.
abbrev absent : Operand
absent = record { coding = c.Absent; bits = b.None }

abbrev pub no_row : Row
no_row =
    record {
      opcode = o.Mf;
      format = record {
        operands = record {
          first = absent;
          second = absent;
          third = absent;
          fourth = absent;
          fifth = absent;
          sixth = absent;
          seventh = absent;
        };
        check = ch.Free;
        mask = 0;
      };
      fixed = 0;
    }

pub table_made : (rows : List Row) (n : ℕ) (d : Row) → is_table rows ≡ true → n < length rows → is_well_made (get_or rows n d) ≡ true
unfolding is_table
table_made rows n d h l = all_get is_well_made rows n d l (both-left _ _ h)

table_other : (rows : List Row) → is_table rows ≡ true → are_all_other rows ≡ true
unfolding is_table
table_other rows h = both-right _ _ h

pub row_matches : (r : Row) (i : Insn) (w : ℕ) → is_well_made r ≡ true → IsOfRow r i w → matches r w ≡ true
row_matches r i w h code =
    let P : ℕ → Type 0 = λ n. matches r n ≡ true in subst P (sym code.sum) (word_matches r (values_of i) h code.listed)

pub code_below : (rows : List Row) (i : Insn) (w : ℕ) (d : Row) → is_table rows ≡ true → HasRow rows i w → w < 2 ^ 41
code_below rows i w d h code =
    let P : ℕ → Type 0 = λ n. n < 2 ^ 41 in
    subst P (sym (code.row d).sum) (word_below (get_or rows code.row_index d) (values_of i) (table_made rows code.row_index d h code.inside)
    (code.row d).listed)

-- The row whose bits a word has is the row of its instruction.
pub row_found : (rows : List Row) (i : Insn) (w n : ℕ) (d : Row) → is_table rows ≡ true → HasRow rows i w → n < length rows
    → matches (get_or rows n d) w ≡ true → IsOfRow (get_or rows n d) i w
row_found rows i w n d h code l m =
    let made = table_made rows code.row_index d h code.inside in
    let same : code.row_index ≡ n =
    one_match rows code.row_index n d d w code.inside l (table_other rows h)
    (row_matches (get_or rows code.row_index d) i w made (code.row d)) m in
    let P : ℕ → Type 0 = λ k. IsOfRow (get_or rows k d) i w in
    subst P same (code.row d)

-- What stands in a list stands there whatever is outside.
pub same_default : {A : Type 0} (xs : List A) (n : ℕ) (d e : A) → n < length xs → get_or xs n d ≡ get_or xs n e
same_default [] n d e l = absurd (omega (arith, l))
same_default (x ∷ xs) zero d e l = refl
same_default (x ∷ xs) (suc n) d e l = same_default xs n d e (omega (arith, l))

pub row_of : (rows : List Row) (i : Insn) (w n : ℕ) (d : Row) → n < length rows → IsOfRow (get_or rows n d) i w → HasRow rows i w
row_of rows i w n d l code =
    let P : Row → Type 0 = λ r. IsOfRow r i w in
    record {
      row_index = n;
      inside = l;
      row = λ e. subst P (same_default rows n d e l) code;
    }

-- The row of an instruction is the one at the index of its opcode.
pub at_row_index : (rows : List Row) (i : Insn) (w n : ℕ) (d : Row) → IsRowIndexOf rows (Some n) (opcode_of i.op) → HasRow rows i w
    → IsOfRow (get_or rows n d) i w
at_row_index rows i w n d here code =
    let same : code.row_index ≡ n = here.2 code.row_index d code.inside (code.row d).opcode in
    let P : ℕ → Type 0 = λ k. IsOfRow (get_or rows k d) i w in
    subst P same (code.row d)

pub no_row_index : (rows : List Row) (i : Insn) (w : ℕ) (d : Row) → IsRowIndexOf rows None (opcode_of i.op) → HasRow rows i w → ⊥
no_row_index rows i w d none code = none code.row_index d code.inside (code.row d).opcode

pub has_row_index : (rows : List Row) (p : Option ℕ) (i : Insn) (w : ℕ) → IsRowIndexOf rows p (opcode_of i.op) → HasRow rows i w → IsSome p
has_row_index rows None i w none code = absurd (no_row_index rows i w no_row none code)
has_row_index rows (Some n) i w here code = refl

pub has_values : (rows : List Row) (i : Insn) (w n : ℕ) (d : Row) (xs : List Value) → IsRowIndexOf rows (Some n) (opcode_of i.op)
    → HasRow rows i w → xs ≡ values_of i → HasWord (get_or rows n d) xs
has_values rows i w n d xs here code same =
    let P : List Value → Type 0 = λ xs. HasWord (get_or rows n d) xs in
    subst P (sym same) (at_row_index rows i w n d here code).listed

-- A table gives a word at most one instruction.
pub only_insn : (rows : List Row) (i j : Insn) (w : ℕ) (d : Row) → is_table rows ≡ true → HasRow rows i w → HasRow rows j w → i ≡ j
only_insn rows i j w d h of-i of-j =
    let made = table_made rows of-j.row_index d h of-j.inside in
    let i-row = row_found rows i w of-j.row_index d h of-i of-j.inside (row_matches (get_or rows of-j.row_index d) j w made (of-j.row d)) in
    sym (read_only (get_or rows of-j.row_index d) i w made i-row) ∙ read_only (get_or rows of-j.row_index d) j w made (of-j.row d)
