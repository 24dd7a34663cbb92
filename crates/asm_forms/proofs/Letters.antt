-- Names that begin with other letters than a group of rows are named by none of it.
use Rattle.std.proofs.Common.{◌≡◌, ◌≤◌, ◌<◌, ◌⊎◌, inl, inr, refl, ap, sym, ◌∙◌, ℕ, suc, Bool, true, false, ◌&&◌, cond, nat_eq, leb, ltb, List, [], ◌∷◌, ◌++◌, map, get_or, arith, append-nil}
use Rattle.std.specs.Prelude.{filter}
use Rattle.std.specs.List.{list_all}
use Rattle.std.proofs.lemmas.Bool.{leb-true, ltb-true, ne_eqb}
use Rattle.ia_program.proofs.Tests.{left, right}
use Rattle.asm_forms.specs.Naming.{is_named, begins, named_forms}
use Rattle.asm_forms.specs.Rows.{FormRow, rows_to_b, rows_c_to_i, rows_l_to_n, rows_o_to_r, rows_from_s, rows}

-- The first byte is one of these.
abbrev pub leads : ℕ → ℕ → List ℕ → Bool
leads low above [] = false
leads low above (c ∷ cs) = leb low c && ltb c above

-- A name's first byte, if any, is none of these.
abbrev pub IsElsewhere : ℕ → ℕ → List ℕ → Type 0
IsElsewhere low above [] = Unit {0}
IsElsewhere low above (c ∷ cs) = (c < low) ⊎ (above ≤ c)

differ : (c d low above : ℕ) → (c < low) ⊎ (above ≤ c) → low ≤ d → d < above → nat_eq d c ≡ false
differ c d low above (inl h) l a = ne_eqb d c (λ e. omega (arith, h, l, e))
differ c d low above (inr h) l a = ne_eqb d c (λ e. omega (arith, h, a, e))

unlike : (low above : ℕ) (name w : List ℕ) → IsElsewhere low above name → leads low above w ≡ true → begins name w ≡ false
unlike low above name [] e h = cc
unlike low above [] (d ∷ w) e h = refl
unlike low above (c ∷ name) (d ∷ w) e h =
    rw (differ c d low above e (leb-true _ _ (left (leb low d) _ h)) (ltb-true _ _ (right (leb low d) _ h))) refl

skipped : (p : FormRow → Bool) (r : FormRow) (rs : List FormRow) → p r ≡ false → filter p rs ≡ [] → filter p (r ∷ rs) ≡ []
skipped p r rs h e = rw (h, e) refl

not_named : (name : List ℕ) (r : FormRow) → begins name r.stem ≡ false → is_named name r ≡ false
not_named name r h = rw h refl

pub none_named : (low above : ℕ) (name : List ℕ) (rs : List FormRow) → IsElsewhere low above name
    → list_all (λ r. leads low above r.stem) rs ≡ true → filter (is_named name) rs ≡ []
none_named low above name [] e h = refl
none_named low above name (r ∷ rs) e h =
    skipped (is_named name) r rs (not_named name r (unlike low above name r.stem e (left _ _ h)))
    (none_named low above name rs e (right _ _ h))

-- What is kept of joined lists.
kept_more : (p : FormRow → Bool) (x : FormRow) (xs ys us vs : List FormRow) → filter p (xs ++ ys) ≡ us ++ vs → filter p xs ≡ us
    → filter p ((x ∷ xs) ++ ys) ≡ filter p (x ∷ xs) ++ vs
kept_more p x xs ys us vs h e =
    elim (p x) as (λ b. cond b (x ∷ filter p (xs ++ ys)) (filter p (xs ++ ys)) ≡ cond b (x ∷ filter p xs) (filter p xs) ++ vs)
    [ true ↦ rw (h, e) refl | false ↦ rw (h, e) refl ]

kept : (p : FormRow → Bool) (xs ys : List FormRow) → filter p (xs ++ ys) ≡ filter p xs ++ filter p ys
kept p [] ys = refl
kept p (x ∷ xs) ys = kept_more p x xs ys (filter p xs) (filter p ys) (kept p xs ys) refl

elsewhere : (low above d : ℕ) (name : List ℕ) → (get_or name 0 d < low) ⊎ (above ≤ get_or name 0 d) → IsElsewhere low above name
elsewhere low above d [] h = tt
elsewhere low above d (c ∷ name) h = h

-- The forms that a name names are those of the rows of its letters, where the rows before them have lower letters and
-- those after them higher ones.
in_group : (low above d : ℕ) (name : List ℕ) (before here after found : List FormRow) → before ++ here ++ after ≡ rows
    → list_all (λ r. leads 46 low r.stem) before ≡ true → list_all (λ r. leads above 256 r.stem) after ≡ true
    → low ≤ get_or name 0 d → get_or name 0 d < above → found ≡ here → map (λ r. r.form) (filter (is_named name) found) ≡ named_forms name
in_group low above d name before here after found all lower higher g l e =
    let p = is_named name in
    let none_before : filter p before ≡ [] = none_named 46 low name before (elsewhere 46 low d name (inr g)) lower in
    let none_after : filter p after ≡ [] = none_named above 256 name after (elsewhere above 256 d name (inl l)) higher in
    let split : filter p rows ≡ filter p before ++ filter p here ++ filter p after =
    ap (filter p) (sym all) ∙ kept p (before ++ here) after ∙ ap (λ xs. xs ++ filter p after) (kept p before here) in
    ap (map (λ r. r.form)) (ap (filter p) e ∙ sym (split ∙ rw (none_before, none_after) (append-nil _)))

pub in_to_b : (name : List ℕ) (found : List FormRow) (d : ℕ) → found ≡ rows_to_b → get_or name 0 d < 99
    → map (λ r. r.form) (filter (is_named name) found) ≡ named_forms name
in_to_b name found d e l =
    in_group 0 99 d name [] rows_to_b (rows_c_to_i ++ rows_l_to_n ++ rows_o_to_r ++ rows_from_s) found refl refl refl (omega arith) l e

pub in_c_to_i : (name : List ℕ) (found : List FormRow) (d : ℕ) → found ≡ rows_c_to_i → 99 ≤ get_or name 0 d → get_or name 0 d < 108
    → map (λ r. r.form) (filter (is_named name) found) ≡ named_forms name
in_c_to_i name found d e g l =
    in_group 99 108 d name rows_to_b rows_c_to_i (rows_l_to_n ++ rows_o_to_r ++ rows_from_s) found refl refl refl g l e

pub in_l_to_n : (name : List ℕ) (found : List FormRow) (d : ℕ) → found ≡ rows_l_to_n → 108 ≤ get_or name 0 d → get_or name 0 d < 111
    → map (λ r. r.form) (filter (is_named name) found) ≡ named_forms name
in_l_to_n name found d e g l =
    in_group 108 111 d name (rows_to_b ++ rows_c_to_i) rows_l_to_n (rows_o_to_r ++ rows_from_s) found refl refl refl g l e

pub in_o_to_r : (name : List ℕ) (found : List FormRow) (d : ℕ) → found ≡ rows_o_to_r → 111 ≤ get_or name 0 d → get_or name 0 d < 115
    → map (λ r. r.form) (filter (is_named name) found) ≡ named_forms name
in_o_to_r name found d e g l =
    in_group 111 115 d name (rows_to_b ++ rows_c_to_i ++ rows_l_to_n) rows_o_to_r rows_from_s found refl refl refl g l e

pub in_from_s : (name : List ℕ) (found : List FormRow) (d : ℕ) → found ≡ rows_from_s → 115 ≤ get_or name 0 d
    → map (λ r. r.form) (filter (is_named name) found) ≡ named_forms name
in_from_s name found d e g =
    in_group 115 (suc (get_or name 0 d)) d name (rows_to_b ++ rows_c_to_i ++ rows_l_to_n ++ rows_o_to_r) rows_from_s [] found refl refl refl
    g (omega arith) e
