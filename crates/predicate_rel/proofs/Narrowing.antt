-- A set that is narrowed row by row.
use Rattle.std.proofs.Common.{◌≡◌, ◌≢◌, ℕ, ◌<◌, Bool, true, false, cond, ◌&&◌, ◌||◌, not, eqb, eq-eqb, length, set, get_or-set_same, get_or-set_other, refl, sym, ap, ◌∙◌, subst, inl, inr, ◌⊎◌}
use mathlib.Core.Path.{fun_ext}
use Rattle.std.proofs.lemmas.Bool.{cases_Bool, cases_eq, ne_eqb, and_parts, and_left, true≢false}
use Rattle.predicate_rel.specs.Pairs.{FactRows, Pairs, has_bit, in_range, truth, pairs_of, common, IsSubset, HasMore}
use Rattle.predicate_rel.specs.Changes.{AgreeOutside, Narrows}
use Rattle.predicate_rel.specs.Rules.{PairRule, one, pairs_by}
use Rattle.predicate_rel.specs.Rows.{IsRow}
use Rattle.predicate_rel.proofs.BitLemmas.{has_bit_all}
use Rattle.predicate_rel.proofs.PairLemmas.{in_range_parts, in_range_from, pairs_of_in, pairs_of_out}

and_true : (b : Bool) → (b && true) ≡ b
and_true true = refl
and_true false = refl

-- A set has lost what isn't in another, in those of some rows that aren't left.
pub record IsNarrowed (old past : Pairs) (is_in is_left : ℕ → Bool) (now : Pairs) : Type 0 where
  pub inside : (x : ℕ) → x < 64 → is_left x ≡ true → is_in x ≡ true
  pub left : (x y : ℕ) → x < 64 → is_left x ≡ true → now x y ≡ old x y
  pub outside : (x y : ℕ) → x < 64 → is_in x ≡ false → now x y ≡ old x y
  pub done : (x y : ℕ) → x < 64 → y < 64 → is_in x ≡ true → is_left x ≡ false → now x y ≡ (old x y && past x y)

-- One row more.
pub narrowed_row : (old past now now' : Pairs) (is_in is_left is_left' : ℕ → Bool) (k row : ℕ) → IsNarrowed old past is_in is_left now
    → k < 64 → is_left k ≡ true → ((x : ℕ) → x < 64 → is_left' x ≡ (not (eqb x k) && is_left x))
    → ((y : ℕ) → y < 64 → has_bit row y ≡ past k y) → ((x y : ℕ) → now' x y ≡ (now x y && (not (eqb x k) || has_bit row y)))
    → IsNarrowed old past is_in is_left' now'
narrowed_row old past now now' is_in is_left is_left' k row h below there less is_row narrowed = record {
  inside = λ x l e. h.inside x l (and_parts (not (eqb x k)) (is_left x) (sym (less x l) ∙ e)).1;
  left =
      λ x y l e. let both = and_parts (not (eqb x k)) (is_left x) (sym (less x l) ∙ e) in
      narrowed x y ∙ (rw both.0 (and_true (now x y))) ∙ h.left x y l both.1;
  outside = λ x y l n. of_outside x y l n (cases_eq x k);
  done = λ x y l m e n. of_done x y l m e (sym (less x l) ∙ n) (cases_eq x k);
}
  where
    of_outside : (x y : ℕ) → x < 64 → is_in x ≡ false → (x ≡ k) ⊎ (x ≡ k → ⊥) → now' x y ≡ old x y
    of_outside x y l n (inl e) = absurd (true≢false (sym (h.inside k below there) ∙ ap is_in (sym e) ∙ n))
    of_outside x y l n (inr ne) = narrowed x y ∙ (rw (ne_eqb x k ne) (and_true (now x y))) ∙ h.outside x y l n

    of_done : (x y : ℕ) → x < 64 → y < 64 → is_in x ≡ true → (not (eqb x k) && is_left x) ≡ false → (x ≡ k) ⊎ (x ≡ k → ⊥)
        → now' x y ≡ (old x y && past x y)
    of_done x y l m e n (inl same) = narrowed x y ∙ (rw (eq-eqb x k same, same, is_row y m, h.left k y below there) refl)
    of_done x y l m e n (inr ne) = narrowed x y ∙ (rw (ne_eqb x k ne) (and_true (now x y))) ∙ h.done x y l m e (rw (ne_eqb x k ne) at n)

-- What is left was there.
pub narrowed_within : (old past now : Pairs) (is_in is_left : ℕ → Bool) (x y : ℕ) → IsNarrowed old past is_in is_left now → x < 64 → y < 64
    → now x y ≡ true → old x y ≡ true
narrowed_within old past now is_in is_left x y h l m e = by_case (cases_Bool (is_in x)) (cases_Bool (is_left x))
  where
    by_case : (is_in x ≡ true) ⊎ (is_in x ≡ false) → (is_left x ≡ true) ⊎ (is_left x ≡ false) → old x y ≡ true
    by_case (inr n) other = sym (h.outside x y l n) ∙ e
    by_case (inl t) (inl s) = sym (h.left x y l s) ∙ e
    by_case (inl t) (inr n) = (and_parts (old x y) (past x y) (sym (h.done x y l m t n) ∙ e)).0

-- Sets of predicates are the same where each pair of two predicates is.
pairs_same : (a b : Pairs) → ((x y : ℕ) → in_range x y ≡ false → a x y ≡ false) → ((x y : ℕ) → in_range x y ≡ false → b x y ≡ false)
    → ((x y : ℕ) → x < 64 → y < 64 → a x y ≡ b x y) → a ≡ b
pairs_same a b out out' inside = fun_ext (λ x. fun_ext (λ y. by_range x y (cases_Bool (in_range x y))))
  where
    by_range : (x y : ℕ) → (in_range x y ≡ true) ⊎ (in_range x y ≡ false) → a x y ≡ b x y
    by_range x y (inl t) = let p = in_range_parts x y t in inside x y p.0 p.1
    by_range x y (inr n) = out x y n ∙ sym (out' x y n)

-- No row is left.
abbrev pub IsWholly : Pairs → Pairs → (ℕ → Bool) → Pairs → Type 0
IsWholly old past is_in now = IsNarrowed old past is_in (λ x. false) now

-- A set is narrowed wholly where no row below 64 is left.
pub narrowed_wholly : (old past now : Pairs) (is_in is_left : ℕ → Bool) → ((x : ℕ) → x < 64 → is_left x ≡ false)
    → IsNarrowed old past is_in is_left now → IsWholly old past is_in now
narrowed_wholly old past now is_in is_left none h = record {
  inside = λ x l e. absurd (true≢false (sym e));
  left = λ x y l e. absurd (true≢false (sym e));
  outside = h.outside;
  done = λ x y l m e n. h.done x y l m e (none x l);
}

-- Then the set has what both have: where the rows are all, and where the others of the set are within the other.
narrowed_common : (old new : FactRows) (past : Pairs) (is_in : ℕ → Bool) → IsWholly (pairs_of old) past is_in (pairs_of new)
    → ((x y : ℕ) → x < 64 → y < 64 → is_in x ≡ false → pairs_of old x y ≡ (pairs_of old x y && past x y))
    → pairs_of new ≡ common (pairs_of old) past
unfolding common
narrowed_common old new past is_in h others =
    pairs_same (pairs_of new) (λ x y. pairs_of old x y && past x y) (pairs_of_out new)
    (λ x y n. and_left (pairs_of old x y) (past x y) (pairs_of_out old x y n)) (λ x y l m. by_case x y l m (cases_Bool (is_in x)))
  where
    by_case : (x y : ℕ) → x < 64 → y < 64 → (is_in x ≡ true) ⊎ (is_in x ≡ false) → pairs_of new x y ≡ (pairs_of old x y && past x y)
    by_case x y l m (inl t) = h.done x y l m t refl
    by_case x y l m (inr n) = h.outside x y l n ∙ others x y l m n

pub narrowed_whole : (old new : FactRows) (past : Pairs) (is_in : ℕ → Bool) → IsWholly (pairs_of old) past is_in (pairs_of new)
    → ((x : ℕ) → x < 64 → is_in x ≡ true) → pairs_of new ≡ common (pairs_of old) past
narrowed_whole old new past is_in h all = narrowed_common old new past is_in h (λ x y l m n. absurd (true≢false (sym (all x l) ∙ n)))

pub narrowed_more : (old new : FactRows) (past earlier : Pairs) (rows : ℕ) → IsWholly (pairs_of old) past (has_bit rows) (pairs_of new)
    → AgreeOutside rows earlier past → IsSubset (pairs_of old) earlier → pairs_of new ≡ common (pairs_of old) past
narrowed_more old new past earlier rows h agree within =
    narrowed_common old new past (has_bit rows) h (λ x y l m n. by_case x y n (cases_Bool (pairs_of old x y)))
  where
    by_case : (x y : ℕ) → has_bit rows x ≡ false → (pairs_of old x y ≡ true) ⊎ (pairs_of old x y ≡ false)
        → pairs_of old x y ≡ (pairs_of old x y && past x y)
    by_case x y n (inl t) = t ∙ (rw (t, sym (agree.same x y n) ∙ within.each x y t) refl)
    by_case x y n (inr f) = f ∙ sym (and_left (pairs_of old x y) (past x y) f)

-- A narrowed set has no more than it had, and all that both have.
pub narrowed_no_more : (old new : FactRows) (past : Pairs) (is_in : ℕ → Bool) → IsWholly (pairs_of old) past is_in (pairs_of new)
    → IsSubset (pairs_of new) (pairs_of old)
narrowed_no_more old new past is_in h = record { each = λ x y t. by_range x y t (cases_Bool (in_range x y)) }
  where
    by_range : (x y : ℕ) → pairs_of new x y ≡ true → (in_range x y ≡ true) ⊎ (in_range x y ≡ false) → pairs_of old x y ≡ true
    by_range x y t (inl i) =
        let p = in_range_parts x y i in narrowed_within (pairs_of old) past (pairs_of new) is_in (λ x. false) x y h p.0 p.1 t
    by_range x y t (inr out) = absurd (true≢false (sym t ∙ pairs_of_out new x y out))

pub narrowed_keeps : (old new : FactRows) (past : Pairs) (is_in : ℕ → Bool) → IsWholly (pairs_of old) past is_in (pairs_of new)
    → IsSubset (common (pairs_of old) past) (pairs_of new)
unfolding common
narrowed_keeps old new past is_in h = record { each = λ x y t. by_range x y t (cases_Bool (in_range x y)) (cases_Bool (is_in x)) }
  where
    by_range : (x y : ℕ) → (pairs_of old x y && past x y) ≡ true → (in_range x y ≡ true) ⊎ (in_range x y ≡ false)
        → (is_in x ≡ true) ⊎ (is_in x ≡ false) → pairs_of new x y ≡ true
    by_range x y t (inr out) b = absurd (true≢false (sym (and_parts (pairs_of old x y) (past x y) t).0 ∙ pairs_of_out old x y out))
    by_range x y t (inl i) (inl b) = let p = in_range_parts x y i in h.done x y p.0 p.1 b refl ∙ t
    by_range x y t (inl i) (inr n) = h.outside x y (in_range_parts x y i).0 n ∙ (and_parts (pairs_of old x y) (past x y) t).0

-- The set as it is where its rows have lost what isn't in the other.
pub narrowed_rows : (old new : FactRows) (past : Pairs) (is_in : ℕ → Bool) → IsWholly (pairs_of old) past is_in (pairs_of new) → (x y : ℕ)
    → pairs_of new x y ≡ (pairs_of old x y && (not (is_in x) || past x y))
narrowed_rows old new past is_in h x y = by_range (cases_Bool (in_range x y)) (cases_Bool (is_in x))
  where
    by_range : (in_range x y ≡ true) ⊎ (in_range x y ≡ false) → (is_in x ≡ true) ⊎ (is_in x ≡ false)
        → pairs_of new x y ≡ (pairs_of old x y && (not (is_in x) || past x y))
    by_range (inr out) b = pairs_of_out new x y out ∙ sym (and_left (pairs_of old x y) _ (pairs_of_out old x y out))
    by_range (inl i) (inl t) = let p = in_range_parts x y i in h.done x y p.0 p.1 t refl ∙ (rw t refl)
    by_range (inl i) (inr n) = h.outside x y (in_range_parts x y i).0 n ∙ (rw n (sym (and_true (pairs_of old x y))))

pub wholly_from : (old new past : Pairs) (rows : ℕ) → ((x y : ℕ) → new x y ≡ (old x y && (not (has_bit rows x) || past x y)))
    → IsWholly old past (has_bit rows) new
wholly_from old new past rows h = record {
  inside = λ x l e. absurd (true≢false (sym e));
  left = λ x y l e. absurd (true≢false (sym e));
  outside = λ x y l n. h x y ∙ (rw n (and_true (old x y)));
  done = λ x y l m t n. h x y ∙ (rw t refl);
}

-- A set that is narrowed in some rows by what rules leave of another is so as the contract of `narrow` says, where those rows
-- are all in which the rules leave something else of a set that differs in the rows of the word.
pub narrows_rows : (rules : ℕ → ℕ → PairRule) (changed reached : ℕ) (before : Pairs) (old new : FactRows) (lost : ℕ)
    → IsWholly (pairs_of old) (pairs_by before rules) (has_bit reached) (pairs_of new)
    → ((x : ℕ) → x < 64 → has_bit changed x ≡ true → has_bit reached x ≡ true)
    → ((older : Pairs) → AgreeOutside changed older before → AgreeOutside reached (pairs_by older rules) (pairs_by before rules))
    → AgreeOutside lost (pairs_of old) (pairs_of new) → (lost ≢ 0 → HasMore (pairs_of old) (pairs_of new))
    → Narrows rules changed before (pairs_of old) (pairs_of new) lost
narrows_rows rules changed reached before old new lost h more agrees others some = record {
  whole = λ all. narrowed_whole old new _ (has_bit reached) h (λ x l. more x l (all x l));
  narrowed = λ older agree within. narrowed_more old new _ (pairs_by older rules) reached h (agrees older agree) within;
  within = narrowed_no_more old new _ (has_bit reached) h;
  keeps = narrowed_keeps old new _ (has_bit reached) h;
  lost = others;
  more = some;
}

-- A set that is narrowed in all rows is so as the contract of `narrow` says.
pub narrows_all : (rules : ℕ → ℕ → PairRule) (changed : ℕ) (before : Pairs) (old new : FactRows) (lost : ℕ)
    → IsWholly (pairs_of old) (pairs_by before rules) (has_bit 18446744073709551615) (pairs_of new)
    → AgreeOutside lost (pairs_of old) (pairs_of new) → (lost ≢ 0 → HasMore (pairs_of old) (pairs_of new))
    → Narrows rules changed before (pairs_of old) (pairs_of new) lost
narrows_all rules changed before old new lost h others some =
    let met = narrowed_whole old new _ (has_bit 18446744073709551615) h has_bit_all in
    record {
      whole = λ all. met;
      narrowed = λ older agree within. met;
      within = narrowed_no_more old new _ (has_bit 18446744073709551615) h;
      keeps = narrowed_keeps old new _ (has_bit 18446744073709551615) h;
      lost = others;
      more = some;
    }

-- Rules that leave each pair leave sets that differ as these do.
pub kept_agree : (rules : ℕ → ℕ → PairRule) (changed : ℕ) (f g : Pairs) → ((x y : ℕ) → rules x y ≡ one x y) → AgreeOutside changed f g
    → AgreeOutside changed (pairs_by f rules) (pairs_by g rules)
kept_agree rules changed f g kept agree = record { same = λ x y n. rw (kept x y) (ap (λ (b : Bool). in_range x y && b) (agree.same x y n)) }

-- The rows of which `lost` has no bit have lost nothing, and where it has one, something is lost.
pub record HasLost (old : Pairs) (lost : ℕ) (now : Pairs) : Type 0 where
  pub others : (x y : ℕ) → x < 64 → has_bit lost x ≡ false → now x y ≡ old x y
  pub more : lost ≢ 0 → HasMore old now

-- A row that lost something is marked.
pub lost_row : (old now now' : Pairs) (lost lost' k row : ℕ) → HasLost old lost now
    → ((x y : ℕ) → x < 64 → y < 64 → now x y ≡ true → old x y ≡ true)
    → ((x : ℕ) → x < 64 → has_bit lost' x ≡ cond (eqb x k) true (has_bit lost x))
    → ((x y : ℕ) → now' x y ≡ (now x y && (not (eqb x k) || has_bit row y))) → HasMore now now' → HasLost old lost' now'
lost_row old now now' lost lost' k row h within marks narrowed m = record {
  others = λ x y l n. of_others x y l (sym (marks x l) ∙ n) (cases_eq x k);
  more =
      λ some. record {
        first = m.first;
        second = m.second;
        first_below = m.first_below;
        second_below = m.second_below;
        there = within m.first m.second m.first_below m.second_below m.there;
        missing = m.missing;
      };
}
  where
    of_others : (x y : ℕ) → x < 64 → cond (eqb x k) true (has_bit lost x) ≡ false → (x ≡ k) ⊎ (x ≡ k → ⊥) → now' x y ≡ old x y
    of_others x y l n (inl e) = absurd (true≢false (rw (eq-eqb x k e) at n))
    of_others x y l n (inr ne) = narrowed x y ∙ (rw (ne_eqb x k ne) (and_true (now x y))) ∙ h.others x y l (rw (ne_eqb x k ne) at n)

pub lost_agrees : (old new : FactRows) (lost : ℕ) → HasLost (pairs_of old) lost (pairs_of new)
    → AgreeOutside lost (pairs_of old) (pairs_of new)
lost_agrees old new lost h = record { same = λ x y n. by_range x y n (cases_Bool (in_range x y)) }
  where
    by_range : (x y : ℕ) → has_bit lost x ≡ false → (in_range x y ≡ true) ⊎ (in_range x y ≡ false) → pairs_of old x y ≡ pairs_of new x y
    by_range x y n (inl t) = sym (h.others x y (in_range_parts x y t).0 n)
    by_range x y n (inr out) = pairs_of_out old x y out ∙ sym (pairs_of_out new x y out)

-- One row of a table is written.
pub row_same : (rows : FactRows) (k row : ℕ) → ((y : ℕ) → y < 64 → pairs_of rows k y ≡ true → has_bit row y ≡ true) → (x y : ℕ)
    → pairs_of rows x y ≡ (pairs_of rows x y && (not (eqb x k) || has_bit row y))
row_same rows k row within x y = by_case (cases_eq x k) (cases_Bool (pairs_of rows x y))
  where
    by_case : (x ≡ k) ⊎ (x ≡ k → ⊥) → (pairs_of rows x y ≡ true) ⊎ (pairs_of rows x y ≡ false)
        → pairs_of rows x y ≡ (pairs_of rows x y && (not (eqb x k) || has_bit row y))
    by_case same (inr n) = n ∙ sym (and_left (pairs_of rows x y) _ n)
    by_case (inr ne) (inl t) = rw (ne_eqb x k ne) (sym (and_true (pairs_of rows x y)))
    by_case (inl e) (inl t) =
        rw (eq-eqb x k e, t, within y (below y (cases_Bool (in_range x y))) (ap (λ (n : ℕ). pairs_of rows n y) (sym e) ∙ t)) refl
      where
        below : (y' : ℕ) → (in_range x y ≡ true) ⊎ (in_range x y ≡ false) → y < 64
        below y' (inl i) = (in_range_parts x y i).1
        below y' (inr out) = absurd (true≢false (sym t ∙ pairs_of_out rows x y out))

pub row_written : (rows : FactRows) (k word row : ℕ) → length rows ≡ 64 → k < 64
    → ((y : ℕ) → y < 64 → has_bit word y ≡ (pairs_of rows k y && has_bit row y)) → (x y : ℕ)
    → pairs_of (set rows k word) x y ≡ (pairs_of rows x y && (not (eqb x k) || has_bit row y))
row_written rows k word row sized below bits x y = by_range (cases_Bool (in_range x y))
  where
    inside : x < 64 → y < 64 → (x ≡ k) ⊎ (x ≡ k → ⊥) → truth (set rows k word) x y ≡ (truth rows x y && (not (eqb x k) || has_bit row y))
    inside l m (inl e) =
        rw (eq-eqb x k e, e) (ap (λ (n : ℕ). has_bit n y) (get_or-set_same rows k word 0 (subst (λ (n : ℕ). k < n) (sym sized) below))
        ∙ bits y m ∙ ap (λ (b : Bool). b && has_bit row y) (pairs_of_in rows k y below m))
    inside l m (inr ne) =
        rw (ne_eqb x k ne) (ap (λ (n : ℕ). has_bit n y) (get_or-set_other rows k x word 0 ne) ∙ sym (and_true (truth rows x y)))

    by_range : (in_range x y ≡ true) ⊎ (in_range x y ≡ false) → pairs_of (set rows k word) x y
        ≡ (pairs_of rows x y && (not (eqb x k) || has_bit row y))
    by_range (inl t) =
        let p = in_range_parts x y t in pairs_of_in (set rows k word) x y p.0 p.1 ∙ inside p.0 p.1 (cases_eq x k)
        ∙ ap (λ (b : Bool). b && (not (eqb x k) || has_bit row y)) (sym (pairs_of_in rows x y p.0 p.1))
    by_range (inr out) = pairs_of_out (set rows k word) x y out ∙ sym (and_left (pairs_of rows x y) _ (pairs_of_out rows x y out))

-- What the row had and the other one hasn't is lost.
pub row_more : (rows : FactRows) (k word row y : ℕ) → length rows ≡ 64 → k < 64 → y < 64
    → ((y : ℕ) → y < 64 → has_bit word y ≡ (pairs_of rows k y && has_bit row y)) → pairs_of rows k y ≡ true → has_bit row y ≡ false
    → HasMore (pairs_of rows) (pairs_of (set rows k word))
row_more rows k word row y sized below l bits there missing = record {
  first = k;
  second = y;
  first_below = below;
  second_below = l;
  there = there;
  missing = row_written rows k word row sized below bits k y ∙ (rw (eq-eqb k k refl, missing, there) refl);
}

-- A row of what is known past an instruction.
pub row_past : (f : Pairs) (rules : ℕ → ℕ → PairRule) (k row : ℕ) → k < 64 → IsRow row (rules k) f → (y : ℕ) → y < 64
    → has_bit row y ≡ pairs_by f rules k y
row_past f rules k row below is y l = is y l ∙ (rw (in_range_from k y below l) refl)
