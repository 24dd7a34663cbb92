-- A row is found by its index.
use Rattle.std.proofs.Common.{◌≡◌, refl, sym, ◌∙◌, ap, ℕ, zero, suc, ◌+◌, ◌<◌, List, [], ◌∷◌, ◌++◌, length, map, get_or, arith}
use Rattle.std.proofs.lemmas.List.{get_or-append-add}
use Rattle.asm_forms.specs.Rows.{FormRow, Seen, seen}

-- As many rows as a function has of them.
pub as_many : (xs : List Seen) (rs : List FormRow) → map seen xs ≡ rs → length xs ≡ length rs
as_many xs rs e = count xs ∙ ap length e
  where
    count : (xs : List Seen) → length xs ≡ length (map seen xs)
    count [] = refl
    count (x ∷ xs) = ap suc (count xs)

-- A row among rows that others follow is found by its number.
among : (after : List FormRow) (xs : List Seen) (k : ℕ) (d : Seen) (e : FormRow) → k < length xs
    → seen (get_or xs k d) ≡ get_or (map seen xs ++ after) k e
among after [] k d e h = absurd (omega (arith, h))
among after (x ∷ xs) zero d e h = refl
among after (x ∷ xs) (suc k) d e h = among after xs k d e (omega (arith, h))

-- A row among rows behind others is found by its number.
pub picked : (before here after : List FormRow) (xs : List Seen) (k at : ℕ) (d : Seen) (e : FormRow) → map seen xs ≡ here → k < length xs
    → at ≡ length before + k
    → seen (get_or xs k d) ≡ get_or (before ++ (here ++ after)) at e
picked before here after xs k at d e m h p =
    among after xs k d e h ∙ ap (λ ys. get_or (ys ++ after) k e) m ∙ sym (get_or-append-add before (here ++ after) k e)
    ∙ ap (λ n. get_or (before ++ (here ++ after)) n e) (sym p)
