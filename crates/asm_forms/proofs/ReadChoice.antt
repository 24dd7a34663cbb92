-- Completers that are each in their set are read back from their text, whatever the row.
use Rattle.std.proofs.Common.{◌≡◌, refl, sym, ap, ℕ, zero, suc, ◌<◌, ◌⊎◌, inl, inr, List, [], ◌∷◌, ◌++◌, length, map, get_or, Some, arith}
use Rattle.std.specs.Prelude.{flat_map}
use Rattle.std.specs.List.{Contains}
use Rattle.asm_forms.specs.declared.completer.Completer.{Completer}
use Rattle.asm_forms.specs.declared.completer.CompleterSet.{CompleterSet}
use Rattle.asm_forms.specs.declared.form.Form.{Form}
use Rattle.asm_forms.specs.Completers.{text_of, members}
use Rattle.asm_forms.specs.Naming.{completers_in, AreChosen}
use Rattle.asm_forms.specs.Rows.{rows, first_row, row_of, row_index}
use Rattle.asm_forms.proofs.Clear.{products}
use Rattle.asm_forms.proofs.RowFacts.{in_table}

-- An element of a list, step by step.
abbrev pub IsOneOf : {A : Type 0} → A → List A → Type 0
IsOneOf x [] = ⊥
IsOneOf x (y ∷ ys) = (x ≡ y) ⊎ IsOneOf x ys

one_at : {A : Type 0} (xs : List A) (x : A) (i : ℕ) → i < length xs → get_or xs i x ≡ x → IsOneOf x xs
one_at [] x i l e = absurd (omega (arith, l))
one_at (y ∷ ys) x zero l e = inl (sym e)
one_at (y ∷ ys) x (suc i) l e = inr (one_at ys x i (omega (arith, l)) e)

pub one_of : {A : Type 0} (xs : List A) (x : A) → Contains xs x → IsOneOf x xs
one_of xs x h = one_at xs x h.0 h.1 h.2

one_front : {A : Type 0} (x : A) (xs ys : List A) → IsOneOf x xs → IsOneOf x (xs ++ ys)
one_front x [] ys h = absurd h
one_front x (z ∷ zs) ys (inl e) = inl e
one_front x (z ∷ zs) ys (inr h) = inr (one_front x zs ys h)

one_back : {A : Type 0} (x : A) (xs ys : List A) → IsOneOf x ys → IsOneOf x (xs ++ ys)
one_back x [] ys h = h
one_back x (z ∷ zs) ys h = inr (one_back x zs ys h)

pub one_mapped : {A B : Type 0} (f : A → B) (x : A) (xs : List A) → IsOneOf x xs → IsOneOf (f x) (map f xs)
one_mapped f x [] h = absurd h
one_mapped f x (y ∷ ys) (inl e) = inl (ap f e)
one_mapped f x (y ∷ ys) (inr h) = inr (one_mapped f x ys h)

pub one_flat : {A B : Type 0} (f : A → List B) (x : A) (y : B) (xs : List A) → IsOneOf x xs → IsOneOf y (f x) → IsOneOf y (flat_map f xs)
one_flat f x y [] h k = absurd h
one_flat f x y (z ∷ zs) (inl e) k = one_front y (f z) _ (rw (sym e) k)
one_flat f x y (z ∷ zs) (inr h) k = one_back y (f z) _ (one_flat f x y zs h k)

-- One completer of each set is one of the choices.
chosen : (ss : List (CompleterSet × ℕ)) (cs : List Completer) → AreChosen ss cs → IsOneOf cs (products ss)
chosen [] [] h = inl refl
chosen (s ∷ ss) (x ∷ xs) h =
    one_flat (λ c. map (λ cs. c ∷ cs) (products ss)) x (x ∷ xs) (members s.0) (one_of (members s.0) x h.0)
    (one_mapped (λ cs. x ∷ cs) xs (products ss) (chosen ss xs h.1))
chosen [] (x ∷ xs) h = absurd h
chosen (s ∷ ss) [] h = absurd h

-- Where two functions are the same on a list, they are so of each element.
pub same_of : {A B : Type 0} (g h : A → B) (xs : List A) (x : A) → map g xs ≡ map h xs → IsOneOf x xs → g x ≡ h x
same_of g h [] x e o = absurd o
same_of g h (y ∷ ys) x e (inl s) = rw s (cc)
same_of g h (y ∷ ys) x e (inr o) = same_of g h ys x (cc) o

pub same_at : {A B : Type 0} (g h : A → B) (xs : List A) (i : ℕ) (d : A) → map g xs ≡ map h xs → i < length xs
    → g (get_or xs i d) ≡ h (get_or xs i d)
same_at g h [] i d e l = absurd (omega (arith, l))
same_at g h (x ∷ xs) zero d e l = cc
same_at g h (x ∷ xs) (suc i) d e l = same_at g h xs i d (cc) (omega (arith, l))

-- Each choice of completers of each row is read back: a computation over all rows.
all_read : map (λ r. map (λ cs. completers_in r.sets (flat_map text_of cs)) (products r.sets)) rows
    ≡ map (λ r. map (λ cs. Some cs) (products r.sets)) rows
all_read = refl

pub read_choice : (f : Form) (cs : List Completer) → AreChosen (row_of f).sets cs
    → completers_in (row_of f).sets (flat_map text_of cs) ≡ Some cs
read_choice f cs h =
    same_of (λ ds. completers_in (row_of f).sets (flat_map text_of ds)) (λ ds. Some ds) (products (row_of f).sets) cs
    (same_at (λ r. map (λ ds. completers_in r.sets (flat_map text_of ds)) (products r.sets))
    (λ r. map (λ ds. Some ds) (products r.sets)) rows (row_index f) first_row all_read (in_table f))
    (chosen (row_of f).sets cs h)
