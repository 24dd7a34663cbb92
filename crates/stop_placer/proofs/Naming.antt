-- The stops of a program are named place after place.
use Rattle.std.proofs.Common.{◌≡◌, ◌⊎◌, ◌+◌, ◌<◌, ℕ, zero, suc, Bool, true, false, cond, List, [], ◌∷◌, ◌++◌, map, length, Option, None, Some, refl, sym, ap, ◌∙◌, subst, arith, inl, inr}
use Rattle.std.specs.Prelude.{Contains, slice_get}
use Rattle.std.proofs.lemmas.Bool.{cases_Bool}
use Rattle.std.proofs.lemmas.List.Elements.{Contains-append_left, Contains-append_right, Contains-append_cases}
use Rattle.std.proofs.lemmas.Option.{slice_get_within, same_Some}
use Rattle.std.proofs.lemmas.List.{map-append}
use Rattle.ia_program.specs.declared.place.Place.{Place}
use Rattle.ia_program.specs.Places.{IsPlaceOf, IsBefore, IsNext}
use Rattle.ia_program.specs.Programs.{Program}
use Rattle.ia_meaning.specs.Sequence.{first_of, next_of, is_stopped}
use Rattle.ia_meaning.proofs.Follows.{next_is}
use Rattle.ia_meaning.proofs.Sequences.{next_fits}
use Rattle.resource_sets.proofs.Members.{not_in_none, cases_in, in_head}
use Rattle.order_laws.proofs.Falling.{before_trans, not_before_itself, place_cases, none_before_first}
use Rattle.stop_placer.specs.declared.packing.Cause.{Cause}
use Rattle.stop_placer.specs.declared.packed.StopWhy.{StopWhy}
use Rattle.stop_placer.specs.Placing.{IsReason, IsExplained, NamesStops}
use Rattle.stop_placer.specs.Caused.{place_in, IsAfterStop, IsBehind, AreCaused, IsLastBefore, IsLastUpTo, NamesAt, IsDue}

abbrev pub after_of : StopWhy → Place
after_of s = s.after

-- The stops at the places that are done with are named.
pub record NamesAmong (p : Program) (at : ℕ → Place) (causes : List (Option Cause)) (stops : List StopWhy)
    (IsDone : Place → Type 0) : Type 0 where
  pub rises : (m n : ℕ) (s t : StopWhy) → slice_get stops m ≡ Some s → slice_get stops n ≡ Some t → m < n → IsBefore s.after t.after
  pub has : (place : Place) → IsPlaceOf p.bundles place → is_stopped p.bundles place ≡ true → IsDone place
      → Contains (map after_of stops) place
  pub only : (s : StopWhy) → Contains stops s → IsPlaceOf p.bundles s.after × (is_stopped p.bundles s.after ≡ true) × IsDone s.after
  pub explained : (s : StopWhy) → Contains stops s → IsExplained p at causes s

-- Those up to the place.
abbrev pub IsUpTo : Place → Place → Type 0
IsUpTo place q = IsBefore q place ⊎ (q ≡ place)

pub names_none : (p : Program) (at : ℕ → Place) (causes : List (Option Cause)) → NamesAmong p at causes [] (λ q. IsBefore q (first_of 0))
names_none p at causes = record {
  rises = λ m n s t h k l. absurd cc;
  has = λ q is stopped low. absurd (none_before_first q low);
  only = λ s c. absurd (not_in_none s c);
  explained = λ s c. absurd (not_in_none s c);
}

-- Where no stop is at the place.
names_same : (p : Program) (at : ℕ → Place) (causes : List (Option Cause)) (stops : List StopWhy) (place : Place)
    → NamesAmong p at causes stops (λ q. IsBefore q place) → is_stopped p.bundles place ≡ false
    → NamesAmong p at causes stops (IsUpTo place)
names_same p at causes stops place names none = record {
  rises = names.rises;
  has = λ q is stopped done. of q is stopped done;
  only = λ s c. (let o = names.only s c in (o.0, o.1, inl o.2));
  explained = names.explained;
}
  where
    of : (q : Place) → IsPlaceOf p.bundles q → is_stopped p.bundles q ≡ true → IsUpTo place q → Contains (map after_of stops) q
    of q is stopped (inl low) = names.has q is stopped low
    of q is stopped (inr e) = absurd (let f : is_stopped p.bundles q ≡ false = ap (is_stopped p.bundles) e ∙ none in cc)

-- An element of a list with one more at its end.
pushed : (stops : List StopWhy) (stop : StopWhy) (n : ℕ) (t : StopWhy) → slice_get (stops ++ stop ∷ []) n ≡ Some t
    → (slice_get stops n ≡ Some t) ⊎ ((n ≡ length stops) × (t ≡ stop))
pushed [] stop zero t e = inr (refl, sym (same_Some stop t e))
pushed [] stop (suc n) t e = absurd cc
pushed (x ∷ stops) stop zero t e = inl e
pushed (x ∷ stops) stop (suc n) t e = of (pushed stops stop n t e)
  where
    of : (slice_get stops n ≡ Some t) ⊎ ((n ≡ length stops) × (t ≡ stop))
        → (slice_get (x ∷ stops) (suc n) ≡ Some t) ⊎ ((suc n ≡ length (x ∷ stops)) × (t ≡ stop))
    of (inl h) = inl h
    of (inr (h, k)) = inr (omega (arith, h), k)

listed : (stops : List StopWhy) (n : ℕ) (s : StopWhy) → slice_get stops n ≡ Some s → Contains stops s
listed [] n s e = absurd cc
listed (x ∷ stops) zero s e = in_head x s stops (same_Some x s e)
listed (x ∷ stops) (suc n) s e = in_tail_of (listed stops n s e)
  where
    in_tail_of : Contains stops s → Contains (x ∷ stops) s
    in_tail_of c = Contains-append_right (x ∷ []) stops s c

-- One more.
names_push : (p : Program) (at : ℕ → Place) (causes : List (Option Cause)) (stops : List StopWhy) (place : Place) (stop : StopWhy)
    → NamesAmong p at causes stops (λ q. IsBefore q place) → IsPlaceOf p.bundles place
    → is_stopped p.bundles place ≡ true → stop.after ≡ place → IsExplained p at causes stop
    → NamesAmong p at causes (stops ++ stop ∷ []) (IsUpTo place)
names_push p at causes stops place stop names is stopped after explained = record {
  rises = rises;
  has = λ q is stopped done. subst (λ (l : List Place). Contains l q) (sym (map-append after_of stops (stop ∷ []))) (has q is stopped done);
  only = λ s c. only s (Contains-append_cases stops (stop ∷ []) s c);
  explained = λ s c. known s (Contains-append_cases stops (stop ∷ []) s c);
}
  where
    rises : (m n : ℕ) (s t : StopWhy) → slice_get (stops ++ stop ∷ []) m ≡ Some s → slice_get (stops ++ stop ∷ []) n ≡ Some t → m < n
        → IsBefore s.after t.after
    rises m n s t h k less = of (pushed stops stop m s h) (pushed stops stop n t k)
      where
        of : (slice_get stops m ≡ Some s) ⊎ ((m ≡ length stops) × (s ≡ stop))
            → (slice_get stops n ≡ Some t) ⊎ ((n ≡ length stops) × (t ≡ stop)) → IsBefore s.after t.after
        of (inl a) (inl b) = names.rises m n s t a b less
        of (inl a) (inr (e, b)) = let o = names.only s (listed stops m s a) in subst (IsBefore s.after) (sym (ap after_of b ∙ after)) o.2
        of (inr (e, a)) (inl b) = absurd (omega (arith, slice_get_within stops n t b, e, less))
        of (inr (e, a)) (inr (f, b)) = absurd (omega (arith, e, f, less))

    has : (q : Place) → IsPlaceOf p.bundles q → is_stopped p.bundles q ≡ true → IsUpTo place q
        → Contains (map after_of stops ++ stop.after ∷ []) q
    has q is stopped (inl low) = Contains-append_left (map after_of stops) (stop.after ∷ []) q (names.has q is stopped low)
    has q is stopped (inr e) = Contains-append_right (map after_of stops) (stop.after ∷ []) q (in_head stop.after q [] (after ∙ sym e))

    same : (s : StopWhy) → Contains (stop ∷ []) s → stop ≡ s
    same s c = elim (cases_in stop s [] c) [ inl e ↦ e | inr d ↦ absurd (not_in_none s d) ]

    only : (s : StopWhy) → Contains stops s ⊎ Contains (stop ∷ []) s
        → IsPlaceOf p.bundles s.after × (is_stopped p.bundles s.after ≡ true) × IsUpTo place s.after
    only s (inl c) = let o = names.only s c in (o.0, o.1, inl o.2)
    only s (inr c) =
        let e : s.after ≡ place = sym (ap after_of (same s c)) ∙ after in
        (subst (IsPlaceOf p.bundles) (sym e) is, subst (λ (q : Place). is_stopped p.bundles q ≡ true) (sym e) stopped, inr e)

    known : (s : StopWhy) → Contains stops s ⊎ Contains (stop ∷ []) s → IsExplained p at causes s
    known s (inl c) = names.explained s c
    known s (inr c) = subst (IsExplained p at causes) (same s c) explained

-- The stop behind the place is behind the n-th instruction.
behind_at : (p : Program) (places : List Place) (causes : List (Option Cause)) (n : ℕ) (place : Place) → AreCaused p places causes
    → IsLastUpTo places n place → IsPlaceOf p.bundles place → is_stopped p.bundles place ≡ true
    → IsBehind places n place
behind_at p places causes n place caused last is stopped = record { inside = last.inside; from = of last.from; below = last.below }
  where
    of : (n ≡ 0) ⊎ ¬ IsBefore place (place_in places n) → ¬ IsBefore place (place_in places n)
    of (inl e) = subst (λ (m : ℕ). ¬ IsBefore place (place_in places m)) (sym e) (caused.first place is stopped)
    of (inr h) = h

-- Whether a stop is there or not.
pub names_at : (p : Program) (places : List Place) (causes : List (Option Cause)) (n : ℕ) (place : Place) (gap : Option Cause)
    (old new : List StopWhy) → NamesAmong p (place_in places) causes old (λ q. IsBefore q place)
    → AreCaused p places causes → IsLastUpTo places n place → IsPlaceOf p.bundles place → slice_get causes n ≡ Some gap
    → NamesAt p place gap old new
    → NamesAmong p (place_in places) causes new (IsUpTo place)
names_at p places causes n place gap old new names caused last is at named = of (cases_Bool (is_stopped p.bundles place))
  where
    of : (is_stopped p.bundles place ≡ true) ⊎ (is_stopped p.bundles place ≡ false)
        → NamesAmong p (place_in places) causes new (IsUpTo place)
    of (inr none) =
        subst (λ (l : List StopWhy). NamesAmong p (place_in places) causes l (IsUpTo place)) (sym (named.unstopped none))
        (names_same p (place_in places) causes old place names none)
    of (inl stopped) =
        let (stop, s, e) = named.stopped stopped in
        let behind = behind_at p places causes n place caused last is stopped in
        subst (λ (l : List StopWhy). NamesAmong p (place_in places) causes l (IsUpTo place)) (sym e)
        (names_push p (place_in places) causes old place stop names is stopped s.after (record {
          n = n;
          from = subst (λ (q : Place). ¬ IsBefore q (place_in places n)) (sym s.after) behind.from;
          below =
              λ inside. subst (λ (q : Place). IsBefore q (place_in places (n + 1))) (sym s.after)
              (behind.below (omega (arith, inside, caused.same_length)));
          cause = s.cause;
          is = at ∙ ap Some s.is;
          reason = subst (λ (q : Place). IsReason p q s.cause stop.why) (sym s.after) s.reason;
        }))

-- The place is one from which a stop comes right before, and no later than the other.
pub record IsFrom (p : Program) (behind place : Place) : Type 0 where
  pub is : IsPlaceOf p.bundles behind
  pub parted : IsAfterStop p behind
  pub low : ¬ IsBefore place behind

-- What has to be known to name a stop is known.
pub due_at : (p : Program) (places : List Place) (causes : List (Option Cause)) (n : ℕ) (behind place : Place) (gap : Option Cause)
    → AreCaused p places causes → IsLastUpTo places n place → IsPlaceOf p.bundles place
    → IsFrom p behind place → slice_get causes n ≡ Some gap → IsDue p behind place gap
due_at p places causes n behind place gap caused last is from at = record {
  is = is;
  some =
      λ stopped. (let (cause, e) = caused.caused n place (behind_at p places causes n place caused last is stopped) is stopped in
      (cause, same_Some gap (Some cause) (sym at ∙ e)));
  cut = λ stopped pair. record {
    free = caused.free;
    violated = caused.violated n place (behind_at p places causes n place caused last is stopped) is stopped (at ∙ ap Some pair);
    is = from.is;
    parted = from.parted;
    low = from.low;
  };
}

-- The first instruction of all counts as the last one before the first place of a program.
pub last_first : (p : Program) (places : List Place) (causes : List (Option Cause)) → AreCaused p places causes
    → IsLastBefore places 0 (first_of 0)
last_first p places causes caused =
    record { inside = caused.some; from = inl refl; below = λ inside h. none_before_first (place_in places 1) h }

pub from_first : (p : Program) → IsPlaceOf p.bundles (first_of 0) → IsFrom p (first_of 0) (first_of 0)
from_first p is = record { is = is; parted = inl refl; low = none_before_first (first_of 0) }

-- The last instruction at a place or before is the last one before the next place.
pub last_next : (p : Program) (places : List Place) (causes : List (Option Cause)) (n : ℕ) (place next : Place) → AreCaused p places causes
    → IsLastUpTo places n place → next_of p.bundles place ≡ Some next → IsLastBefore places n next
last_next p places causes n place next caused last follows = record {
  inside = last.inside;
  from = of last.from;
  below = λ inside h. of_next.first (place_in places (n + 1)) (caused.there (n + 1) inside) (last.below inside) h;
}
  where
    of_next : IsNext p.bundles place next
    of_next = next_is p.bundles place next follows

    low : ¬ IsBefore place (place_in places n) → IsBefore (place_in places n) place
        ⊎ ((place_in places n ≡ place) ⊎ IsBefore place (place_in places n)) → IsBefore (place_in places n) next
    low h (inl k) = before_trans (place_in places n) place next k of_next.after
    low h (inr (inl e)) = subst (λ (q : Place). IsBefore q next) (sym e) of_next.after
    low h (inr (inr k)) = absurd (h k)

    of : (n ≡ 0) ⊎ ¬ IsBefore place (place_in places n) → (n ≡ 0) ⊎ IsBefore (place_in places n) next
    of (inl e) = inl e
    of (inr h) = inr (low h (place_cases (place_in places n) place))

pub from_next : (p : Program) (behind place next : Place) (stop : Bool) → IsPlaceOf p.bundles place → IsFrom p behind place
    → next_of p.bundles place ≡ Some next → stop ≡ is_stopped p.bundles place → IsFrom p (cond stop next behind) next
from_next p behind place next true is from follows e =
    let n = next_is p.bundles place next follows in
    record { is = n.is; parted = inr (place, is, sym e, follows); low = not_before_itself next }
from_next p behind place next false is from follows e =
    let n = next_is p.bundles place next follows in
    record { is = from.is; parted = from.parted; low = λ h. from.low (before_trans place next behind n.after h) }

pub names_next : (p : Program) (at : ℕ → Place) (causes : List (Option Cause)) (stops : List StopWhy) (place next : Place)
    → NamesAmong p at causes stops (IsUpTo place) → next_of p.bundles place ≡ Some next
    → NamesAmong p at causes stops (λ q. IsBefore q next)
names_next p at causes stops place next names follows = record {
  rises = names.rises;
  has = λ q is stopped low. names.has q is stopped (up_to q is low (place_cases q place));
  only = λ s c. (let o = names.only s c in (o.0, o.1, before s.after o.2));
  explained = names.explained;
}
  where
    of_next : IsNext p.bundles place next
    of_next = next_is p.bundles place next follows

    up_to : (q : Place) → IsPlaceOf p.bundles q → IsBefore q next → IsBefore q place ⊎ ((q ≡ place) ⊎ IsBefore place q) → IsUpTo place q
    up_to q is low (inl h) = inl h
    up_to q is low (inr (inl e)) = inr e
    up_to q is low (inr (inr h)) = absurd (of_next.first q is h low)

    before : (q : Place) → IsUpTo place q → IsBefore q next
    before q (inl h) = before_trans q place next h of_next.after
    before q (inr e) = subst (λ (r : Place). IsBefore r next) (sym e) of_next.after

-- Where there is no next place all are named.
pub names_all : (p : Program) (at : ℕ → Place) (causes : List (Option Cause)) (stops : List StopWhy) (place : Place)
    → NamesAmong p at causes stops (IsUpTo place) → next_of p.bundles place ≡ None → NamesStops p at causes stops
names_all p at causes stops place names last = record {
  rises = names.rises;
  has = λ q is stopped. names.has q is stopped (up_to q is (place_cases q place));
  only = λ s c. (let o = names.only s c in (o.0, o.1));
  explained = names.explained;
}
  where
    up_to : (q : Place) → IsPlaceOf p.bundles q → IsBefore q place ⊎ ((q ≡ place) ⊎ IsBefore place q) → IsUpTo place q
    up_to q is (inl h) = inl h
    up_to q is (inr (inl e)) = inr e
    up_to q is (inr (inr h)) = absurd (rw last at (next_fits p.bundles place) q is h)
