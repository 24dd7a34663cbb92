-- The predicates as a word, one more at a time.
use Rattle.std.proofs.Common.{ℕ, zero, suc, ◌+◌, ◌^◌, ◌≡◌, ◌<◌, Bool, true, false, List, [], ◌∷◌, length, get_or, take, arith, refl, sym, ap, add-one}
use Rattle.std.proofs.lemmas.List.{take_all}
use Rattle.std.specs.Prelude.{if◌then◌else◌}
use Rattle.ia_meaning.specs.Moves.{word_from, predicate_word}

abbrev pub value_at : ℕ → Bool → ℕ
value_at n b = if b then 2 ^ n else 0

-- One more bit, from the k-th on.
more_from : (k n : ℕ) (bs : List Bool) → word_from k (take (suc n) bs) ≡ word_from k (take n bs) + value_at (k + n) (get_or bs n false)
more_from k zero [] = refl
more_from k (suc n) [] = refl
more_from k zero (b ∷ bs) = grind arith
more_from k (suc n) (b ∷ bs) = let e = more_from (suc k) n bs in grind arith

pub one_more : (n : ℕ) (bs : List Bool) → word_from 0 (take (n + 1) bs) ≡ word_from 0 (take n bs) + value_at n (get_or bs n false)
one_more n bs = let e = more_from 0 n bs in grind arith

pub whole : (bs : List Bool) → length bs ≡ 64 → predicate_word bs ≡ word_from 0 (take 64 bs)
unfolding predicate_word
whole bs h = ap (word_from 0) (sym (take_all 64 bs (omega (arith, h))))

power_more : (n : ℕ) → 2 ^ (n + 1) ≡ 2 ^ n + 2 ^ n
power_more n = rw add-one (omega arith)

pub value_most : (word n : ℕ) (b : Bool) → word < 2 ^ n → word + value_at n b < 2 ^ (n + 1)
value_most word n true h = rw power_more (omega (arith, h))
value_most word n false h = rw power_more (omega (arith, h))
