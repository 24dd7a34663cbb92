-- Facts over all rows, each a computation, and what they say of the row of a form.
use Rattle.std.proofs.Common.{◌≡◌, refl, length, true, ◌<◌, Bool, lit<}
use Rattle.std.specs.List.{list_all}
use Rattle.insn_rows.proofs.RowWords.{all_get}
use Rattle.asm_forms.specs.declared.form.Form.{Form}
use Rattle.asm_forms.specs.declared.form.Form.TheVariants as form
use Rattle.asm_forms.specs.Rows.{FormRow, rows, first_row, row_of, row_index}

-- The forms stand in the order of their rows.
pub form_back : (f : Form) → (row_of f).form ≡ f
form_back form.Data = refl
form_back f = refl

pub in_table : (f : Form) → row_index f < length rows
in_table form.Data = lit< tt
in_table f = lit< tt

-- What holds of each row holds of that of a form.
pub of_row : (p : FormRow → Bool) (f : Form) → list_all p rows ≡ true → p (row_of f) ≡ true
of_row p f h = all_get p rows (row_index f) first_row (in_table f) h
