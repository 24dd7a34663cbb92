-- A set that an instruction changes row by row.
use Rattle.std.proofs.Common.{◌≡◌, ℕ, ◌<◌, Bool, true, false, cond, ◌&&◌, not, eqb, eq-eqb, length, set, get_or-set_same, get_or-set_other, refl, sym, ap, ◌∙◌, subst, inl, inr, ◌⊎◌}
use Rattle.std.proofs.lemmas.Bool.{cases_eq, ne_eqb, and_left}
use Rattle.predicate_rel.specs.Pairs.{FactRows, Pairs, has_bit, in_range, truth, pairs_of}
use Rattle.predicate_rel.specs.Rules.{PairRule, is_met, pairs_by}
use Rattle.predicate_rel.specs.Rows.{IsRow}
use Rattle.predicate_rel.proofs.PairLemmas.{shows, in_range_from, pairs_of_in}

-- The rows that are left are as they were, and the others as the rules leave them.
abbrev pub AreChanged : (rules : ℕ → ℕ → PairRule) (before : Pairs) (is_left : ℕ → Bool) (now : Pairs) → Type 0
AreChanged rules before is_left now = (x y : ℕ) → x < 64 → y < 64 → now x y ≡ cond (is_left x) (before x y) (is_met (rules x y) before)

-- None yet, where the rules keep those that aren't left.
pub none_changed : (rules : ℕ → ℕ → PairRule) (before : Pairs) (is_left : ℕ → Bool)
    → ((x : ℕ) → x < 64 → is_left x ≡ false → (y : ℕ) → y < 64 → is_met (rules x y) before ≡ before x y)
    → AreChanged rules before is_left before
none_changed rules before is_left keep x y l m = by_bool (is_left x) refl
  where
    by_bool : (b : Bool) → is_left x ≡ b → before x y ≡ cond b (before x y) (is_met (rules x y) before)
    by_bool true e = refl
    by_bool false e = sym (keep x l e y m)

-- One row more.
pub changed_row : (rules : ℕ → ℕ → PairRule) (before now now' : Pairs) (is_left is_left' : ℕ → Bool) (k row : ℕ)
    → AreChanged rules before is_left now → ((x : ℕ) → x < 64 → is_left' x ≡ (not (eqb x k) && is_left x)) → IsRow row (rules k) before
    → ((x y : ℕ) → x < 64 → y < 64 → now' x y ≡ cond (eqb x k) (has_bit row y) (now x y)) → AreChanged rules before is_left' now'
changed_row rules before now now' is_left is_left' k row h less is_row put x y l m = by_case (cases_eq x k)
  where
    by_case : (x ≡ k) ⊎ (x ≡ k → ⊥) → now' x y ≡ cond (is_left' x) (before x y) (is_met (rules x y) before)
    by_case (inl e) = put x y l m ∙ (rw (less x l, eq-eqb x k e, e) (is_row y m))
    by_case (inr n) = put x y l m ∙ (rw (less x l, ne_eqb x k n) (h x y l m))

-- All of them.
pub changed_wholly : (rules : ℕ → ℕ → PairRule) (before : Pairs) (now : FactRows) (is_left : ℕ → Bool) → ((x : ℕ) → x < 64 → is_left x ≡ false)
    → AreChanged rules before is_left (pairs_of now) → pairs_of now ≡ pairs_by before rules
changed_wholly rules before now is_left none h = shows now (pairs_by before rules)
    (λ x y l m. sym (pairs_of_in now x y l m) ∙ h x y l m ∙ (rw (none x l, in_range_from x y l m) refl))
    (λ x y n. and_left (in_range x y) _ n)

-- The pairs where a row is set.
pub row_set : (rows : FactRows) (k row : ℕ) → length rows ≡ 64 → k < 64 → (x y : ℕ) → x < 64 → y < 64
    → pairs_of (set rows k row) x y ≡ cond (eqb x k) (has_bit row y) (pairs_of rows x y)
row_set rows k row sized below x y l m = pairs_of_in (set rows k row) x y l m ∙ by_case (cases_eq x k)
  where
    by_case : (x ≡ k) ⊎ (x ≡ k → ⊥) → truth (set rows k row) x y ≡ cond (eqb x k) (has_bit row y) (pairs_of rows x y)
    by_case (inl e) =
        rw (eq-eqb x k e, e) (ap (λ (n : ℕ). has_bit n y) (get_or-set_same rows k row 0 (subst (λ (n : ℕ). k < n) (sym sized) below)))
    by_case (inr ne) =
        rw (ne_eqb x k ne) (ap (λ (n : ℕ). has_bit n y) (get_or-set_other rows k x row 0 ne) ∙ sym (pairs_of_in rows x y l m))
