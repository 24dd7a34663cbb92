-- What a row prints is read as that row: the computations over all rows, brought to one row.
use Rattle.std.proofs.Common.{◌≡◌, refl, sym, ◌∙◌, ap, subst, ℕ, zero, suc, ◌<◌, Bool, true, false, not, ◌&&◌, ◌||◌, cond, ◌⊎◌, inl, inr, List, [], ◌∷◌, ◌++◌, length, map, take, drop, get_or, Option, Some, None, option_map, arith}
use Rattle.std.specs.Prelude.{flat_map, filter, is_some, nat_eq}
use Rattle.std.specs.List.{find, list_all}
use Rattle.std.specs.Str.{bytes_eq}
use Rattle.std.specs.Cmp.Lexicographic.{pointwise, same_text}
use Rattle.std.proofs.lemmas.Bool.{eqb-true, eq-eqb, not-true, and_from}
use Rattle.std.proofs.Math.Seq.{drop-append_seam}
use Rattle.std.proofs.lemmas.Option.{same_Some}
use Rattle.asm_lexemes.specs.declared.tokens.Token.{Token}
use Rattle.asm_lexemes.specs.declared.tokens.Token.TheVariants as t
use Rattle.ia_insn.specs.declared.registers.Ar.TheVariants as ar
use Rattle.ia_program.proofs.Tests.{left, right}
use Rattle.asm_forms.specs.declared.completer.Completer.{Completer}
use Rattle.asm_forms.specs.declared.completer.Suffix.{Suffix}
use Rattle.asm_forms.specs.declared.completer.Suffix.TheVariants as suffix
use Rattle.asm_forms.specs.declared.completer.CompleterSet.{CompleterSet}
use Rattle.asm_forms.specs.declared.form.Form.{Form}
use Rattle.asm_forms.specs.declared.items.FormItem.{FormItem}
use Rattle.asm_forms.specs.declared.items.FormItem.TheVariants.{Is, Takes}
use Rattle.asm_forms.specs.declared.items.Fixed.{Fixed}
use Rattle.asm_forms.specs.declared.items.Fixed.TheVariants as m
use Rattle.asm_forms.specs.declared.items.Kind.{Kind}
use Rattle.asm_forms.specs.Completers.{suffix_text, text_of, members}
use Rattle.asm_forms.specs.Items.{fixed_token, is_fixed, accepts, filled, prints, fits}
use Rattle.asm_forms.specs.Spelled.{is_spelled}
use Rattle.asm_forms.specs.Naming.{begins, ends_part, and_more, completers_in, has_completers_if, is_named, named_forms}
use Rattle.asm_forms.specs.Rows.{FormRow, rows, first_row, row_of, row_index}
use Rattle.asm_forms.proofs.ListTests.{all_take, all_both, all_found, all_flat, all_map}
use Rattle.asm_forms.proofs.Clear.{tells, differ, products, never_named, is_clear, all_clear, is_other, stems_alone, stems_dotted}
use Rattle.asm_forms.proofs.Fits.{spelled, told}
use Rattle.asm_forms.proofs.RowFacts.{form_back, in_table, of_row}

-- The row's items are the operands'.
abbrev is_read : List Token → FormRow → Bool
is_read operands r = pointwise accepts r.items operands

-- A token that is a fixed one is that one's.
marked : (n : Fixed) (x : Token) → is_fixed n x ≡ true → x ≡ fixed_token n
marked m.Equals t.Equals h = refl
marked m.Comma t.Comma h = refl
marked m.OpenBracket t.OpenBracket h = refl
marked m.CloseBracket t.CloseBracket h = refl
marked m.Unat (t.Ar ar.Unat) h = refl
marked m.Pfs (t.Ar ar.Pfs) h = refl
marked m.R0 (t.Gr n) h = ap t.Gr (eqb-true n 0 h)
marked m.Predicates t.Predicates h = refl
marked m.RotatingPredicates t.RotatingPredicates h = refl
marked m.Ip t.Ip h = refl
marked m.One (t.Number false n) h = ap (t.Number false) (eqb-true n 1 h)
marked n x h = cc

-- What is printed for an item that tells another one is not read for it.
not_the_fixed : (k : Kind) (n : Fixed) (x : Token) (b : Bool) → b ≡ is_fixed n x → prints k x ≡ true → not (prints k (fixed_token n)) ≡ true
    → b ≡ false
not_the_fixed k n x true e p h =
    let s : prints k (fixed_token n) ≡ true = subst (λ y. prints k y ≡ true) (marked n x (sym e)) p in
    sym s ∙ not-true _ h
not_the_fixed k n x false e p h = refl

not_read : (k : Kind) (at : ℕ) (j : FormItem) (x : Token) → prints k x ≡ true → tells (Takes k at) j ≡ true → accepts j x ≡ false
not_read k at (Is n) x p h = not_the_fixed k n x (is_fixed n x) refl p h
not_read k at (Takes o to) x p h = told k o x p h

either : (t a b c : Bool) → (t ≡ true → a ≡ false) → (c ≡ true → b ≡ false) → (t || c) ≡ true → (a && b) ≡ false
either true a b c f g h = rw (f refl) refl
either false true b c f g h = g h
either false false b c f g h = refl

-- What is printed for items that differ from others is not theirs.
pub not_spelled : (is js : List FormItem) (xs : List Token) → fits is xs ≡ true → differ is js ≡ true
    → pointwise accepts js (filled is xs) ≡ false
not_spelled [] [] xs h e = cc
not_spelled [] (j ∷ js) xs h e = refl
not_spelled (Is n ∷ is) [] xs h e = refl
not_spelled (Is n ∷ is) (j ∷ js) xs h e =
    either (not (accepts j (fixed_token n))) (accepts j (fixed_token n)) (pointwise accepts js (filled is xs)) (differ is js)
    (λ q. not-true _ q) (λ q. not_spelled is js xs h q) e
not_spelled (Takes k at ∷ is) js [] h e = cc
not_spelled (Takes k at ∷ is) [] (x ∷ xs) h e = refl
not_spelled (Takes k at ∷ is) (j ∷ js) (x ∷ xs) h e =
    either (tells (Takes k at) j) (accepts j x) (pointwise accepts js (filled is xs)) (differ is js) (not_read k at j x (left _ _ h))
    (not_spelled is js xs (right _ _ h)) e

of_rest : (p : List Completer → Bool) (ss : List (CompleterSet × ℕ)) (cs : List Completer) (c : Completer) (o : Option (List Completer))
    → ((ds : List Completer) → o ≡ Some ds → p (c ∷ ds) ≡ true) → option_map (λ ds. c ∷ ds) o ≡ Some cs → p cs ≡ true
of_rest p ss cs c None f e = cc
of_rest p ss cs c (Some ds) f e = let r : p (c ∷ ds) ≡ true = f ds refl in cc

of_first : (p : List Completer → Bool) (ss : List (CompleterSet × ℕ)) (cs : List Completer) (o : Option Completer) (name : List ℕ)
    → ((c : Completer) (ds : List Completer) → o ≡ Some c → completers_in ss (drop (length (text_of c)) name) ≡ Some ds → p (c ∷ ds) ≡ true)
    → and_more o (λ c. completers_in ss (drop (length (text_of c)) name)) ≡ Some cs → p cs ≡ true
of_first p ss cs None name f e = cc
of_first p ss cs (Some c) name f e = of_rest p ss cs c (completers_in ss (drop (length (text_of c)) name)) (λ ds k. f c ds refl k) e

-- What holds of each choice of completers holds of those that are read from a name.
pub of_products : (p : List Completer → Bool) (ss : List (CompleterSet × ℕ)) (name : List ℕ) (cs : List Completer)
    → list_all p (products ss) ≡ true → completers_in ss name ≡ Some cs → p cs ≡ true
of_products p [] [] [] h e = left _ _ h
of_products p [] [] (c ∷ cs) h e = cc
of_products p [] (x ∷ xs) cs h e = cc
of_products p (s ∷ ss) name cs h e =
    let each = all_flat p (λ c. map (λ ds. c ∷ ds) (products ss)) (members s.0) h in
    of_first p ss cs (find (λ c. begins name (text_of c)) (members s.0)) name
    (λ c ds f k. of_products (λ ds. p (c ∷ ds)) ss (drop (length (text_of c)) name) ds
    (all_map p (λ ds. c ∷ ds) (products ss) (all_found (λ c. list_all p (map (λ ds. c ∷ ds) (products ss))) (λ c. begins name (text_of c))
    (members s.0) c each f)) k) e

-- A name's own front.
own_front : (w rest : List ℕ) → pointwise nat_eq w (take (length w) (w ++ rest)) ≡ true
own_front [] rest = refl
own_front (x ∷ w) rest = and_from _ _ (eq-eqb x x refl) (own_front w rest)

-- A completer begins with a dot, or is nothing.
first_dot : (x : Suffix) (rest : List ℕ) → ends_part rest ≡ true → ends_part (suffix_text x ++ rest) ≡ true
first_dot suffix.Absent rest h = h
first_dot x rest h = refl

dots : (cs : List Completer) → ends_part (flat_map text_of cs) ≡ true
dots [] = refl
dots (x ∷ cs) = first_dot x.suffix (flat_map text_of cs) (dots cs)

-- A row's own stem and completers name it.
pub named_own : (r : FormRow) (cs : List Completer) → completers_in r.sets (flat_map text_of cs) ≡ Some cs
    → is_named (r.stem ++ flat_map text_of cs) r ≡ true
named_own r cs e =
    let d : drop (length r.stem) (r.stem ++ flat_map text_of cs) ≡ flat_map text_of cs = drop-append_seam r.stem (flat_map text_of cs) in
    rw (own_front r.stem (flat_map text_of cs), d, dots cs, e) refl

passed : (p : FormRow → Bool) (x : FormRow) (ys : List FormRow) (o : Option FormRow) (b a : Bool) → p x ≡ a → not (b && a) ≡ true
    → find p ys ≡ o → find p (cond b (x ∷ ys) ys) ≡ o
passed p x ys o true true e n m = cc
passed p x ys o true false e n m = rw e m
passed p x ys o false a e n m = m

-- The first row that is named and spelled is found.
found_at : (p q : FormRow → Bool) (xs : List FormRow) (i : ℕ) (d : FormRow) → i < length xs → p (get_or xs i d) ≡ true
    → q (get_or xs i d) ≡ true → list_all (λ r. not (q r && p r)) (take i xs) ≡ true
    → find p (filter q xs) ≡ Some (get_or xs i d)
found_at p q [] i d l a b n = absurd (omega (arith, l))
found_at p q (x ∷ xs) zero d l a b n = rw (b, a) refl
found_at p q (x ∷ xs) (suc i) d l a b n =
    let more = found_at p q xs i d (omega (arith, l)) a b (right _ _ n) in
    passed p x (filter q xs) (Some (get_or xs i d)) (q x) (p x) refl (left _ _ n) more

not_second : (a b : Bool) → b ≡ false → not (a && b) ≡ true
not_second true b h = rw h refl
not_second false b h = refl

not_first : (a : Bool) (sets : List (CompleterSet × ℕ)) (name : List ℕ) (d : Bool) → is_some (completers_in sets name) ≡ false
    → not (has_completers_if a sets name && d) ≡ true
not_first true sets name d h = rw h refl
not_first false sets name d h = refl

-- A row that stands before another is not read from what the other prints.
unread : (r q : FormRow) (cs : List Completer) (xs : List Token) → fits r.items xs ≡ true
    → completers_in r.sets (flat_map text_of cs) ≡ Some cs → is_clear r q ≡ true → is_other (flat_map text_of cs) r q ≡ true
    → not (is_named (r.stem ++ flat_map text_of cs) q && is_read (filled r.items xs) q) ≡ true
unread r q cs xs h e clear other = by_stem (bytes_eq r.stem q.stem) refl clear other
  where
    by_stem : (b : Bool) → b ≡ bytes_eq r.stem q.stem → (not b || (differ r.items q.items || never_named r.sets q.sets)) ≡ true
        → (b || not (begins (r.stem ++ flat_map text_of cs) q.stem)) ≡ true
        → not (is_named (r.stem ++ flat_map text_of cs) q && is_read (filled r.items xs) q) ≡ true
    by_stem false b c o = rw (not-true (begins (r.stem ++ flat_map text_of cs) q.stem) o) refl
    by_stem true b c o = by_items (differ r.items q.items) refl c
      where
        by_items : (d : Bool) → differ r.items q.items ≡ d → (d || never_named r.sets q.sets) ≡ true
            → not (is_named (r.stem ++ flat_map text_of cs) q && is_read (filled r.items xs) q) ≡ true
        by_items true d n = not_second (is_named (r.stem ++ flat_map text_of cs) q) _ (not_spelled r.items q.items xs h d)
        by_items false d n =
            let w : drop (length q.stem) (r.stem ++ flat_map text_of cs) ≡ flat_map text_of cs =
            subst (λ v. drop (length v) (r.stem ++ flat_map text_of cs) ≡ flat_map text_of cs) (same_text r.stem q.stem b)
            (drop-append_seam r.stem (flat_map text_of cs)) in
            let u : is_some (completers_in q.sets (flat_map text_of cs)) ≡ false =
            not-true _ (of_products (λ ds. not (is_some (completers_in q.sets (flat_map text_of ds)))) r.sets (flat_map text_of cs) cs n
            e) in
            not_first (begins (r.stem ++ flat_map text_of cs) q.stem) q.sets (drop (length q.stem) (r.stem ++ flat_map text_of cs)) _
            (rw (w) u)

-- The completers' text is nothing, or begins with a dot.
ends : (rest : List ℕ) → ends_part rest ≡ true → (rest ≡ []) ⊎ ((cs : List ℕ) × (rest ≡ 46 ∷ cs))
ends [] h = inl refl
ends (x ∷ cs) h = inr (cs, ap (λ y. y ∷ cs) (eqb-true x 46 h))

others : (rest : List ℕ) → (rest ≡ []) ⊎ ((cs : List ℕ) × (rest ≡ 46 ∷ cs)) → list_all (λ r. list_all (is_other rest r) rows) rows ≡ true
others rest (inl e) = subst (λ z. list_all (λ r. list_all (is_other z r) rows) rows ≡ true) (sym e) stems_alone
others rest (inr (cs, e)) = subst (λ z. list_all (λ r. list_all (is_other z r) rows) rows ≡ true) (sym e) (stems_dotted cs)

-- What is found among rows is found among their forms, where a row is found by its form.
found_first : (p : FormRow → Bool) (row : Form → FormRow) (x r : FormRow) (us : List FormRow) (b a : Bool) → p x ≡ a → row x.form ≡ x
    → (find p us ≡ Some r → find (λ f. p (row f)) (map (λ y. y.form) us) ≡ Some r.form)
    → find p (cond b (x ∷ us) us) ≡ Some r → find (λ f. p (row f)) (map (λ y. y.form) (cond b (x ∷ us) us)) ≡ Some r.form
found_first p row x r us true true e i k h = let s : x ≡ r = same_Some x r (rw e at h) in rw (i, e) (ap (λ y. Some y.form) s)
found_first p row x r us true false e i k h = rw (i, e) (k (rw e at h))
found_first p row x r us false a e i k h = k h

found_form : (p q : FormRow → Bool) (row : Form → FormRow) (rs : List FormRow) (r : FormRow) → map (λ x. row x.form) rs ≡ rs
    → find p (filter q rs) ≡ Some r → find (λ f. p (row f)) (map (λ x. x.form) (filter q rs)) ≡ Some r.form
found_form p q row [] r e h = cc
found_form p q row (x ∷ xs) r e h = found_first p row x r (filter q xs) (q x) (p x) refl (cc) (λ k. found_form p q row xs r (cc) k) h

rows_back : map (λ r. row_of r.form) rows ≡ rows
rows_back = refl

-- What the row of a form prints is read as the form: the stem, completers that are read back, and operands that fit.
pub row_back : (f : Form) (cs : List Completer) (xs : List Token) → completers_in (row_of f).sets (flat_map text_of cs) ≡ Some cs
    → fits (row_of f).items xs ≡ true
    → find (is_spelled (filled (row_of f).items xs)) (named_forms ((row_of f).stem ++ flat_map text_of cs)) ≡ Some f
row_back f cs xs e h =
    let rest = flat_map text_of cs in
    let clear : list_all (is_clear (row_of f)) (take (row_index f) rows) ≡ true =
    subst (λ g. list_all (is_clear (row_of f)) (take (row_index g) rows) ≡ true) (form_back f)
    (of_row (λ r. list_all (is_clear r) (take (row_index r.form) rows)) f all_clear) in
    let other : list_all (is_other rest (row_of f)) (take (row_index f) rows) ≡ true =
    all_take (is_other rest (row_of f)) (row_index f) rows (of_row (λ r. list_all (is_other rest r) rows) f
    (others rest (ends rest (dots cs)))) in
    let first : find (is_read (filled (row_of f).items xs)) (filter (is_named ((row_of f).stem ++ rest)) rows) ≡ Some (row_of f) =
    found_at (is_read (filled (row_of f).items xs)) (is_named ((row_of f).stem ++ rest)) rows (row_index f) first_row (in_table f)
    (spelled (row_of f).items xs h) (named_own (row_of f) cs e)
    (all_both (is_clear (row_of f)) (is_other rest (row_of f)) _ (λ q c o. unread (row_of f) q cs xs h e c o)
    (take (row_index f) rows) clear other) in
    found_form (is_read (filled (row_of f).items xs)) (is_named ((row_of f).stem ++ rest)) row_of rows (row_of f) rows_back first
    ∙ ap Some (form_back f)
