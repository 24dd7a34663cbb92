-- The table of forms: a row a form. The rows are those of the program.
use Rattle.std.specs.Prelude.{ℕ, ◌<◌, Bool, List, [], ◌∷◌, ◌++◌, slice_index_or, map, None, is_some}
use Rattle.std.specs.Borrow.{Bor}
use denote.Enum.Declared.{tag_of}
use Rattle.asm_forms.specs.contracts.form.Form.{the_type}
use Rattle.asm_forms.specs.declared.completer.CompleterSet.{CompleterSet}
use Rattle.asm_forms.specs.declared.completer.Said.{Said}
use Rattle.asm_forms.specs.declared.form.Form.{Form}
use Rattle.asm_forms.specs.declared.form.Form.TheVariants as form
use Rattle.asm_forms.specs.declared.items.FormItem.{FormItem}
use Rattle.asm_forms.specs.declared.rows.RowOf.{RowOf}
use Rattle.asm_forms.specs.declared.rows.TheConstants.{ROWS_TO_B, ROWS_C_TO_I, ROWS_L_TO_N, ROWS_O_TO_R, ROWS_FROM_S}

-- A row of the table of forms, with its parts as lists.
abbrev pub FormRow : Type 0
FormRow = RowOf (List ℕ) (List (CompleterSet × ℕ)) (List FormItem) (List (Said × ℕ))

-- A row as a function sees it, which has only borrowed the parts, and as it stands in the table.
abbrev pub Seen : Type 0
Seen = RowOf (Bor (List ℕ)) (Bor (List (CompleterSet × ℕ))) (Bor (List FormItem)) (Bor (List (Said × ℕ)))

abbrev pub Listed : Type 0
Listed =
    RowOf (record { now : List ℕ }) (record { now : List (CompleterSet × ℕ) }) (record { now : List FormItem })
    (record { now : List (Said × ℕ) })

abbrev pub seen : Seen → FormRow
seen r = record { form = r.form; stem = r.stem.now; sets = r.sets.now; items = r.items.now; opcode = r.opcode; fixed = r.fixed.now }

abbrev pub listed : Listed → FormRow
listed r = record { form = r.form; stem = r.stem.now; sets = r.sets.now; items = r.items.now; opcode = r.opcode; fixed = r.fixed.now }

-- Each number is that of a value.
abbrev pub AreValues : {A : Type 0} → List (A × ℕ) → Type 0
AreValues [] = Unit {0}
AreValues (x ∷ xs) = (x.1 < 7) × AreValues xs

-- The rows by the first letters of their stems.
abbrev pub rows_to_b : List FormRow
rows_to_b = map listed ROWS_TO_B

abbrev pub rows_c_to_i : List FormRow
rows_c_to_i = map listed ROWS_C_TO_I

abbrev pub rows_l_to_n : List FormRow
rows_l_to_n = map listed ROWS_L_TO_N

abbrev pub rows_o_to_r : List FormRow
rows_o_to_r = map listed ROWS_O_TO_R

abbrev pub rows_from_s : List FormRow
rows_from_s = map listed ROWS_FROM_S

-- All rows.
abbrev pub rows : List FormRow
rows = rows_to_b ++ rows_c_to_i ++ rows_l_to_n ++ rows_o_to_r ++ rows_from_s

abbrev pub first_row : FormRow
first_row = record { form = form.Data; stem = []; sets = []; items = []; opcode = None; fixed = [] }

-- A form's place among the forms is that of its row among the rows.
abbrev pub row_index : Form → ℕ
row_index f = tag_of the_type f

abbrev pub row_of : Form → FormRow
row_of f = slice_index_or rows (row_index f) first_row

-- The form is an instruction's, and no directive's.
abbrev pub is_instruction : Form → Bool
is_instruction f = is_some (row_of f).opcode
