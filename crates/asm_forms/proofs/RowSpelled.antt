-- The form that a mnemonic and its operands spell, row by row.
use Rattle.std.proofs.Common.{◌≡◌, ◌∙◌, refl, sym, subst, ap, ℕ, ◌+◌, ◌<◌, Bool, true, false, ◌&&◌, cond, List, [], ◌∷◌, map, drop, length, get_or, Option, Some, None}
use Rattle.std.specs.Prelude.{filter}
use Rattle.std.specs.Borrow.{Bor}
use Rattle.std.specs.List.{find}
use Rattle.std.proofs.lemmas.List.{drop_more}
use Rattle.std.specs.Cmp.Lexicographic.{pointwise}
use Rattle.asm_lexemes.specs.declared.tokens.Token.{Token}
use Rattle.asm_forms.specs.declared.form.Form.{Form}
use Rattle.asm_forms.specs.declared.form.Form.TheVariants as form
use Rattle.asm_forms.specs.Items.{accepts}
use Rattle.asm_forms.specs.Spelled.{is_spelled}
use Rattle.asm_forms.specs.Naming.{is_named}
use Rattle.asm_forms.specs.Rows.{FormRow, Seen, seen, row_of}

-- The first form of these rows that the name and the operands spell.
abbrev pub spelled : List ℕ → List Token → List FormRow → Option Form
spelled name operands rs = find (is_spelled operands) (map (λ r. r.form) (filter (is_named name) rs))

-- The first row of a table whose rows are those of their forms.
first_own : (r : FormRow) (rs : List FormRow) → map (λ q. row_of q.form) (r ∷ rs) ≡ r ∷ rs → row_of r.form ≡ r
first_own r rs h = cc

others_own : (r : FormRow) (rs : List FormRow) → map (λ q. row_of q.form) (r ∷ rs) ≡ r ∷ rs → map (λ q. row_of q.form) rs ≡ rs
others_own r rs h = cc

-- The row's own form is found.
here : (name : List ℕ) (operands : List Token) (r : FormRow) (rs : List FormRow) → row_of r.form ≡ r
    → (is_named name r && pointwise accepts r.items operands) ≡ true → spelled name operands (r ∷ rs) ≡ Some r.form
here name operands r rs own h = here_by (is_named name r) own h
  where
    here_by : (b : Bool) → row_of r.form ≡ r → (b && pointwise accepts r.items operands) ≡ true
        → find (is_spelled operands) (map (λ q. q.form) (cond b (r ∷ filter (is_named name) rs) (filter (is_named name) rs))) ≡ Some r.form
    here_by true own h = rw (own, h) refl
    here_by false own h = cc

-- Where it isn't, the others are looked through.
past : (name : List ℕ) (operands : List Token) (r : FormRow) (rs : List FormRow) → row_of r.form ≡ r
    → (is_named name r && pointwise accepts r.items operands) ≡ false → spelled name operands (r ∷ rs) ≡ spelled name operands rs
past name operands r rs own h = past_by (is_named name r) own h
  where
    past_by : (b : Bool) → row_of r.form ≡ r → (b && pointwise accepts r.items operands) ≡ false
        → find (is_spelled operands) (map (λ q. q.form) (cond b (r ∷ filter (is_named name) rs) (filter (is_named name) rs)))
        ≡ spelled name operands rs
    past_by true own h = rw (own, h) refl
    past_by false own h = refl

-- What stands past the end of a table.
abbrev nothing : {A : Type 0} → Bor (List A)
nothing = record { ref_ptr = (0, 0); now = [] }

abbrev pub no_row : Seen
no_row = record { form = form.Data; stem = nothing; sets = nothing; items = nothing; opcode = None; fixed = nothing }

-- The row at an index of a table, and those that follow it.
at_row_index : (rs : List Seen) (i : ℕ) (d : Seen) → i < length rs
    → map seen (drop i rs) ≡ seen (get_or rs i d) ∷ map seen (drop (i + 1) rs)
at_row_index rs i d h = ap (map seen) (drop_more rs i d h)

pub own_at : (rs : List Seen) (i : ℕ) (d : Seen) → i < length rs → map (λ r. row_of r.form) (map seen (drop i rs)) ≡ map seen (drop i rs)
    → row_of (get_or rs i d).form ≡ seen (get_or rs i d)
own_at rs i d h own =
    first_own (seen (get_or rs i d)) (map seen (drop (i + 1) rs))
    (subst (λ qs. map (λ q. row_of q.form) qs ≡ qs) (at_row_index rs i d h) own)

pub own_after : (rs : List Seen) (i : ℕ) (d : Seen) → i < length rs → map (λ r. row_of r.form) (map seen (drop i rs)) ≡ map seen (drop i rs)
    → map (λ r. row_of r.form) (map seen (drop (i + 1) rs)) ≡ map seen (drop (i + 1) rs)
own_after rs i d h own =
    others_own (seen (get_or rs i d)) (map seen (drop (i + 1) rs))
    (subst (λ qs. map (λ q. row_of q.form) qs ≡ qs) (at_row_index rs i d h) own)

pub here_at : (name : List ℕ) (operands : List Token) (rs : List Seen) (i : ℕ) (d : Seen) → i < length rs
    → map (λ r. row_of r.form) (map seen (drop i rs)) ≡ map seen (drop i rs)
    → (is_named name (seen (get_or rs i d)) && pointwise accepts (seen (get_or rs i d)).items operands) ≡ true
    → spelled name operands (map seen (drop i rs)) ≡ Some (get_or rs i d).form
here_at name operands rs i d h own is =
    ap (spelled name operands) (at_row_index rs i d h) ∙ here name operands (seen (get_or rs i d)) (map seen (drop (i + 1) rs))
    (own_at rs i d h own) is

pub past_at : (name : List ℕ) (operands : List Token) (rs : List Seen) (i : ℕ) (d : Seen) → i < length rs
    → map (λ r. row_of r.form) (map seen (drop i rs)) ≡ map seen (drop i rs)
    → (is_named name (seen (get_or rs i d)) && pointwise accepts (seen (get_or rs i d)).items operands) ≡ false
    → spelled name operands (map seen (drop (i + 1) rs)) ≡ spelled name operands (map seen (drop i rs))
past_at name operands rs i d h own is =
    sym (ap (spelled name operands) (at_row_index rs i d h) ∙ past name operands (seen (get_or rs i d)) (map seen (drop (i + 1) rs))
    (own_at rs i d h own) is)
