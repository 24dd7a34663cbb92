-- The rows of `or.andcm`, as those of writes that all keep the same.
use Rattle.std.proofs.Common.{◌≡◌, ℕ, Bool, true, false, cond, ◌&&◌, eqb, refl, sym, ap, arith, ◌∙◌}
use Rattle.std.proofs.lemmas.Bool.{true≢false}
use Rattle.std.proofs.lemmas.Bool.Decides.{nat_tests}
use Rattle.predicate_rel.specs.declared.rows.Kept.{Kept}
use Rattle.predicate_rel.specs.declared.rows.Kept.TheVariants.{Own, Both}
use Rattle.predicate_rel.specs.Rules.{PairRule, one, kept_rule, by_written, written_rule, is_target, or_andcm_kept}

-- What a written predicate keeps is all that its row asks of it.
kept_at : (t : ℕ → Bool) (both : ℕ → ℕ → PairRule) (k k' : ℕ → Kept) (g x y : ℕ) → t x ≡ true → k x ≡ k' x
    → written_rule t both k g x y ≡ written_rule t both k' g x y
kept_at t both k k' g x y e same = rw e (by_bool (t (cond (true && eqb x y) 0 y)) (cond (true && eqb x y) 0 y))
  where
    by_bool : (b : Bool) (u : ℕ) → by_written true b (both x y) (kept_rule (k x) g x u u) (kept_rule (k y) g x y x) (one x y)
        ≡ by_written true b (both x y) (kept_rule (k' x) g x u u) (kept_rule (k' y) g x y x) (one x y)
    by_bool true u = refl
    by_bool false u = ap (λ (w : Kept). kept_rule w g x u u) same

-- A row of a predicate that isn't written.
pub not_written : (t : ℕ → Bool) (both : ℕ → ℕ → PairRule) (k : ℕ → Kept) (g x y : ℕ) → t x ≡ false
    → written_rule t both k g x y ≡ cond (t y) (kept_rule (k y) g x y x) (one x y)
not_written t both k g x y e = rw e (by_bool (t y))
  where
    by_bool : (b : Bool) → by_written false b (both x y) (kept_rule (k x) g x y y) (kept_rule (k y) g x y x) (one x y)
        ≡ cond b (kept_rule (k y) g x y x) (one x y)
    by_bool true = refl
    by_bool false = refl

-- The first target is written, and keeps what an or-written one does; the second one keeps its pairs.
target_first : (p1 p2 x : ℕ) → is_target p1 p1 x ≡ true → is_target p1 p2 x ≡ true
target_first p1 p2 x e = grind (arith, nat_tests, e)

kept_first : (p1 x : ℕ) → is_target p1 p1 x ≡ true → or_andcm_kept p1 x ≡ Both
kept_first p1 x e = let first : eqb x p1 ≡ true = grind (arith, nat_tests, e) in rw first refl

kept_second : (p1 p2 x : ℕ) → is_target p1 p1 x ≡ false → is_target p1 p2 x ≡ true → or_andcm_kept p1 x ≡ Own
kept_second p1 p2 x e h = let other : eqb x p1 ≡ false = grind (arith, nat_tests, e, h) in rw other refl

-- The row of the first target, of the second, and of a predicate that isn't written.
pub first_row : (p1 p2 g x y : ℕ) → is_target p1 p1 x ≡ true → written_rule (is_target p1 p2) one (λ _. Both) g x y
    ≡ written_rule (is_target p1 p2) one (or_andcm_kept p1) g x y
first_row p1 p2 g x y e =
    kept_at (is_target p1 p2) one (λ _. Both) (or_andcm_kept p1) g x y (target_first p1 p2 x e) (sym (kept_first p1 x e))

pub second_row : (p1 p2 g x y : ℕ) → is_target p1 p1 x ≡ false → is_target p1 p2 x ≡ true
    → written_rule (is_target p1 p2) one (λ _. Own) g x y ≡ written_rule (is_target p1 p2) one (or_andcm_kept p1) g x y
second_row p1 p2 g x y e h = kept_at (is_target p1 p2) one (λ _. Own) (or_andcm_kept p1) g x y h (sym (kept_second p1 p2 x e h))

pub other_row : (p1 p2 g x y : ℕ) → is_target p1 p1 x ≡ false → is_target p1 p2 x ≡ false
    → written_rule (is_target p1 p1) one (λ _. Both) g x y ≡ written_rule (is_target p1 p2) one (or_andcm_kept p1) g x y
other_row p1 p2 g x y e h =
    not_written (is_target p1 p1) one (λ _. Both) g x y e
    ∙ by_bools (is_target p1 p1 y) (is_target p1 p2 y) refl refl
    ∙ sym (not_written (is_target p1 p2) one (or_andcm_kept p1) g x y h)
  where
    by_bools : (a b : Bool) → is_target p1 p1 y ≡ a → is_target p1 p2 y ≡ b
        → cond a (kept_rule Both g x y x) (one x y) ≡ cond b (kept_rule (or_andcm_kept p1 y) g x y x) (one x y)
    by_bools true true s t = ap (λ (k : Kept). kept_rule k g x y x) (sym (kept_first p1 y s))
    by_bools true false s t = absurd (true≢false (sym (target_first p1 p2 y s) ∙ t))
    by_bools false true s t = ap (λ (k : Kept). kept_rule k g x y x) (sym (kept_second p1 p2 y s t))
    by_bools false false s t = refl
