-- The stops of a program with their reasons are one list.
use Rattle.std.proofs.Common.{◌≡◌, ◌≤◌, ◌<◌, ◌+◌, ◌⊎◌, inl, inr, ℕ, suc, Bool, List, [], ◌∷◌, length, refl, sym, ap, ◌∙◌, subst, arith}
use Rattle.std.specs.Prelude.{Contains, Option, Some, slice_get}
use Rattle.std.specs.Cmp.{IsTotalOrder}
use Rattle.std.proofs.lemmas.Bool.{cases_lt, cases_order}
use Rattle.std.proofs.lemmas.Option.{same_Some, slice_get_within, slice_get-get_or}
use Rattle.ia_program.specs.declared.place.Place.{Place}
use Rattle.ia_program.specs.Places.{IsBefore}
use Rattle.ia_program.specs.Programs.{Program}
use Rattle.resource_sets.proofs.Members.{not_in_none, cases_in, in_tail, head_in, from_map}
use Rattle.flow_facts.specs.Graphs.{Graph, over_program}
use Rattle.order_laws.specs.contracts.violation.ViolationOrd.TheImpl.Laws as laws
use Rattle.order_laws.specs.declared.violation.Violation.{Violation}
use Rattle.group_checker.specs.Firsts.{IsFirst}
use Rattle.group_checker.specs.Order.{compare, Precedes}
use Rattle.order_laws.proofs.Falling.{before_trans, not_before_itself}
use Rattle.group_checker.proofs.Rising.{not_before_itself as not_preceding_itself}
use Rattle.stop_placer.specs.declared.packing.Cause.{Cause}
use Rattle.stop_placer.specs.declared.packing.Cause.TheVariants as cause
use Rattle.stop_placer.specs.declared.packed.Why.{Why}
use Rattle.stop_placer.specs.declared.packed.Why.TheVariants as why
use Rattle.stop_placer.specs.declared.packed.StopWhy.{StopWhy}
use Rattle.stop_placer.specs.Placing.{without_stop, IsReason, IsExplained, NamesStops}

-- There is one first violation.
pub one_first : (g : Graph) (has_stop : Place → Bool) (v w : Violation) → IsFirst g has_stop v → IsFirst g has_stop w → v ≡ w
one_first g has_stop v w a b = of (a.first w b.violates) (b.first v a.violates)
  where
    of : (v ≡ w) ⊎ Precedes v w → (w ≡ v) ⊎ Precedes w v → v ≡ w
    of (inl e) _ = e
    of (inr h) (inl e) = sym e
    of (inr h) (inr k) = let total : IsTotalOrder compare = laws.total-law in absurd (not_preceding_itself v (total.trans v w v h k))

written_is : (p : Program) (after : Place) (w : Why) → IsReason p after cause.Written w → w ≡ why.Written
written_is p after why.Written r = refl
written_is p after why.Long r = absurd r
written_is p after (why.Pair v) r = absurd r

long_is : (p : Program) (after : Place) (w : Why) → IsReason p after cause.Long w → w ≡ why.Long
long_is p after why.Written r = absurd r
long_is p after why.Long r = refl
long_is p after (why.Pair v) r = absurd r

pair_is : (p : Program) (after : Place) (w : Why) → IsReason p after cause.Pair w
    → (v : Violation) × IsFirst (over_program p) (without_stop p after) v × (w ≡ why.Pair v)
pair_is p after why.Written r = absurd r
pair_is p after why.Long r = absurd r
pair_is p after (why.Pair v) r = (v, r, refl)

-- A cause has one reason.
one_reason : (p : Program) (after : Place) (c : Cause) (w x : Why) → IsReason p after c w → IsReason p after c x → w ≡ x
one_reason p after cause.Written w x a b = written_is p after w a ∙ sym (written_is p after x b)
one_reason p after cause.Long w x a b = long_is p after w a ∙ sym (long_is p after x b)
one_reason p after cause.Pair w x a b =
    let first = pair_is p after w a in
    let other = pair_is p after x b in
    first.2 ∙ ap why.Pair (one_first (over_program p) (without_stop p after) first.0 other.0 first.1 other.1) ∙ sym other.2

-- Each is behind those before it.
abbrev pub Rise : List StopWhy → Type 0
Rise stops = (m n : ℕ) (s t : StopWhy) → slice_get stops m ≡ Some s → slice_get stops n ≡ Some t → m < n → IsBefore s.after t.after

rest_rises : (x : StopWhy) (xs : List StopWhy) → Rise (x ∷ xs) → Rise xs
rest_rises x xs rises m n s t at there less = rises (suc m) (suc n) s t at there (omega arith)

first_before : (x y : StopWhy) (xs : List StopWhy) → Rise (x ∷ xs) → Contains xs y → IsBefore x.after y.after
first_before x y xs rises (k, inside, is) = rises 0 (suc k) x y refl (slice_get-get_or xs k y inside ∙ ap Some is) (omega arith)

-- Two rising lists of the same stops are one.
one_rising : (xs ys : List StopWhy) → Rise xs → Rise ys → ((z : StopWhy) → Contains xs z → Contains ys z)
    → ((z : StopWhy) → Contains ys z → Contains xs z) → xs ≡ ys
one_rising [] [] a b f g = refl
one_rising [] (y ∷ ys) a b f g = absurd (not_in_none y (g y (head_in y ys)))
one_rising (x ∷ xs) [] a b f g = absurd (not_in_none x (f x (head_in x xs)))
one_rising (x ∷ xs) (y ∷ ys) a b f g =
    ap (λ (z : StopWhy). z ∷ xs) same
    ∙ ap (λ (l : List StopWhy). y ∷ l) (one_rising xs ys (rest_rises x xs a) (rest_rises y ys b)
    (λ z c. kept x y xs ys a (λ q h. same ∙ h) z c (cases_in y z ys (f z (in_tail x z xs c))))
    (λ z c. kept y x ys xs b (λ q h. sym same ∙ h) z c (cases_in x z xs (g z (in_tail y z ys c)))))
  where
    first_of_both : (y ≡ x) ⊎ Contains ys x → (x ≡ y) ⊎ Contains xs y → x ≡ y
    first_of_both (inl e) _ = sym e
    first_of_both (inr h) (inl e) = e
    first_of_both (inr h) (inr k) =
        absurd (not_before_itself x.after (before_trans x.after y.after x.after (first_before x y xs a k) (first_before y x ys b h)))

    same : x ≡ y
    same = first_of_both (cases_in y x ys (f x (head_in x xs))) (cases_in x y xs (g y (head_in y ys)))

    kept : (u v : StopWhy) (us vs : List StopWhy) → Rise (u ∷ us) → ((z : StopWhy) → v ≡ z → u ≡ z) → (z : StopWhy) → Contains us z
        → (v ≡ z) ⊎ Contains vs z → Contains vs z
    kept u v us vs rises joins z c (inl e) =
        absurd (not_before_itself z.after (subst (λ (q : StopWhy). IsBefore q.after z.after) (joins z e) (first_before u z us rises c)))
    kept u v us vs rises joins z c (inr d) = d

module _ (p : Program) (at : ℕ → Place) (causes : List (Option Cause))
    (rises : (n m : ℕ) → n < m → m < length causes → IsBefore (at n) (at m)) where
  -- A stop that stands behind an instruction doesn't stand behind a later one.
  not_behind_later : (x y : StopWhy) (a : IsExplained p at causes x) (b : IsExplained p at causes y) → x.after ≡ y.after → a.n < b.n → ⊥
  not_behind_later x y a b same less = of (cases_lt (a.n + 1) b.n)
    where
      inside : b.n < length causes
      inside = slice_get_within causes b.n (Some b.cause) b.is

      below : IsBefore y.after (at (a.n + 1))
      below = subst (λ (q : Place). IsBefore q (at (a.n + 1))) same (a.below (omega (arith, inside, less)))

      of : (a.n + 1 < b.n) ⊎ (b.n ≤ a.n + 1) → ⊥
      of (inl h) = b.from (before_trans y.after (at (a.n + 1)) (at b.n) below (rises (a.n + 1) b.n h inside))
      of (inr h) = b.from (subst (λ (n : ℕ). IsBefore y.after (at n)) (let number : a.n + 1 ≡ b.n = omega arith in number) below)

  same_number : (x y : StopWhy) (a : IsExplained p at causes x) (b : IsExplained p at causes y) → x.after ≡ y.after → a.n ≡ b.n
  same_number x y a b same = of (cases_order a.n b.n)
    where
      of : (a.n ≡ b.n) ⊎ ((a.n < b.n) ⊎ (b.n < a.n)) → a.n ≡ b.n
      of (inl e) = e
      of (inr (inl h)) = absurd (not_behind_later x y a b same h)
      of (inr (inr h)) = absurd (not_behind_later y x b a (sym same) h)

  -- Two reasons of the stop behind a place are one.
  one_explained : (x y : StopWhy) → IsExplained p at causes x → IsExplained p at causes y → x.after ≡ y.after → x ≡ y
  one_explained x y a b same = λ i. record { after = same i; why = reason i }
    where
      both : a.cause ≡ b.cause
      both =
          same_Some a.cause b.cause (same_Some (Some a.cause) (Some b.cause)
          (sym a.is ∙ ap (slice_get causes) (same_number x y a b same) ∙ b.is))

      reason : x.why ≡ y.why
      reason =
          one_reason p y.after b.cause x.why y.why (subst (λ (q : Place). IsReason p q b.cause x.why) same
          (subst (λ (c : Cause). IsReason p x.after c x.why) both a.reason)) b.reason

  named_in : (xs ys : List StopWhy) → NamesStops p at causes xs → NamesStops p at causes ys → (z : StopWhy) → Contains xs z → Contains ys z
  named_in xs ys a b z c =
      let is = a.only z c in
      let found = from_map (λ (s : StopWhy). s.after) ys z.after (b.has z.after is.0 is.1) in
      subst (Contains ys) (one_explained found.0 z (b.explained found.0 found.1) (a.explained z c) found.2) found.1

  pub one_naming : (xs ys : List StopWhy) → NamesStops p at causes xs → NamesStops p at causes ys → xs ≡ ys
  one_naming xs ys a b = one_rising xs ys a.rises b.rises (named_in xs ys a b) (named_in ys xs b a)
