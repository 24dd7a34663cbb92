-- A table of one row, many times.
use Rattle.std.proofs.Common.{◌≡◌, ℕ, zero, suc, ◌<◌, Bool, true, [], ◌∷◌, length, get_or, eqb, eqb-true, ◌&&◌, refl, ◌∙◌, ap, arith}
use Rattle.std.proofs.lemmas.Bool.{and_parts}
use Rattle.predicate_rel.specs.Pairs.{FactRows, pairs_of, no_pairs, has_bit}
use Rattle.predicate_rel.proofs.PairLemmas.{shows}
use Rattle.predicate_rel.proofs.BitLemmas.{has_bit_none}

abbrev pub rows_are : ℕ → FactRows → Bool
rows_are n [] = true
rows_are n (r ∷ rs) = eqb r n && rows_are n rs

row_at : (n : ℕ) (rs : FactRows) → rows_are n rs ≡ true → (x : ℕ) → x < length rs → get_or rs x 0 ≡ n
row_at n [] h x l = absurd (omega arith)
row_at n (r ∷ rs) h zero l = eqb-true r n (and_parts (eqb r n) (rows_are n rs) h).0
row_at n (r ∷ rs) h (suc x) l = row_at n rs (and_parts (eqb r n) (rows_are n rs) h).1 x (omega arith)

pub shows_none : (rows : FactRows) → rows_are 0 rows ≡ true → length rows ≡ 64 → pairs_of rows ≡ no_pairs
unfolding no_pairs
shows_none rows h e =
    shows rows _ (λ x y a b. ap (λ (r : ℕ). has_bit r y) (row_at 0 rows h x (omega arith)) ∙ has_bit_none y) (λ x y n. refl)
