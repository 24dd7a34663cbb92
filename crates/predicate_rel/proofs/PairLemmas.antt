-- Laws of sets of pairs.
use Rattle.std.proofs.Common.{◌≡◌, ℕ, ◌<◌, Bool, true, false, ◌&&◌, ◌⊎◌, refl, sym, ap, ◌∙◌, inl, inr, arith, ltb, eqb, ◌||◌}
use mathlib.Core.Path.{fun_ext}
use Rattle.std.proofs.lemmas.Bool.{cases_Bool, ltb-true, lt-ltb, and_parts, and_from, and_left}
use Rattle.std.proofs.lemmas.Bool.Decides.{nat_tests}
use Rattle.predicate_rel.specs.Pairs.{Pairs, FactRows, in_range, other_of, is_same_pair, with_pair, pairs_of, truth}
use Rattle.predicate_rel.specs.Rules.{PairRule, one, is_met, pairs_by}

pub in_range_from : (x y : ℕ) → x < 64 → y < 64 → in_range x y ≡ true
unfolding in_range
in_range_from x y a b = and_from (ltb x 64) (ltb y 64) (lt-ltb x 64 a) (lt-ltb y 64 b)

pub in_range_parts : (x y : ℕ) → in_range x y ≡ true → (x < 64) × (y < 64)
unfolding in_range
in_range_parts x y h = let both = and_parts (ltb x 64) (ltb y 64) h in (ltb-true x 64 both.0, ltb-true y 64 both.1)

-- A table shows a set that has the same pairs of predicates, and no other.
pub shows : (rows : FactRows) (f : Pairs) → ((x y : ℕ) → x < 64 → y < 64 → truth rows x y ≡ f x y)
    → ((x y : ℕ) → in_range x y ≡ false → f x y ≡ false) → pairs_of rows ≡ f
unfolding pairs_of
shows rows f inside outside = fun_ext (λ x. fun_ext (λ y.
    ⊎_by (cases_Bool (in_range x y)) (λ t. let p = in_range_parts x y t in rw t (inside x y p.0 p.1)) (λ n. rw n (sym (outside x y n)))))
  where
    ⊎_by : {A B C : Type 0} → A ⊎ B → (A → C) → (B → C) → C
    ⊎_by (inl a) f g = f a
    ⊎_by (inr b) f g = g b

pub pairs_of_out : (rows : FactRows) (x y : ℕ) → in_range x y ≡ false → pairs_of rows x y ≡ false
unfolding pairs_of
pairs_of_out rows x y n = and_left (in_range x y) _ n

pub pairs_of_in : (rows : FactRows) (x y : ℕ) → x < 64 → y < 64 → pairs_of rows x y ≡ truth rows x y
unfolding pairs_of
pairs_of_in rows x y a b = rw (in_range_from x y a b)

-- Where each pair stays, the set does.
pub pairs_kept : (rows : FactRows) (rules : ℕ → ℕ → PairRule) → ((x y : ℕ) → rules x y ≡ one x y)
    → pairs_of rows ≡ pairs_by (pairs_of rows) rules
pairs_kept rows rules stay = shows rows (pairs_by (pairs_of rows) rules)
    (λ x y a b. sym (ap (λ (r : PairRule). in_range x y && is_met r (pairs_of rows)) (stay x y)
    ∙ (rw (in_range_from x y a b) (pairs_of_in rows x y a b))))
    (λ x y n. and_left (in_range x y) _ n)

-- A pair of two predicates is one of predicates, also where it is written otherwise.
same_pair_out : (a b x y : ℕ) → a < 64 → b < 64 → in_range x y ≡ false → is_same_pair a (other_of a b) x (other_of x y) ≡ false
unfolding in_range
same_pair_out a b x y p q n = grind (arith, nat_tests, n)

pub with_pair_out : (rows : FactRows) (a b : ℕ) → a < 64 → b < 64 → (x y : ℕ) → in_range x y ≡ false
    → with_pair (pairs_of rows) a b x y ≡ false
unfolding with_pair
with_pair_out rows a b p q x y n = rw (pairs_of_out rows x y n) (same_pair_out a b x y p q n)

-- The bits that a pair adds to a row: each of its two in the row of the other, and in its own where the other is p0.
pub pair_bits : (a b x y : ℕ) (f : Bool) → (((f || (eqb x a && eqb y (other_of a b))) || (eqb x (other_of a b) && eqb y a))
    || (is_same_pair a (other_of a b) x 0 && eqb y x)) ≡ (f || is_same_pair a (other_of a b) x (other_of x y))
pair_bits a b x y true = refl
pair_bits a b x y false = grind (arith, nat_tests)
