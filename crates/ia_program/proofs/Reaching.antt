-- Going through the places of bundles in order.
use Rattle.std.proofs.Common.{◌≡◌, ℕ, ◌+◌, ◌-◌, ◌*◌, ◌<◌, ◌≤◌, ◌⊎◌, inl, inr, List, [], ◌∷◌, length, Option, Some, None, refl, sym, subst, arith}
use Rattle.std.specs.Prelude.{MatchOption, IfSome, slice_get}
use Rattle.ia_program.specs.declared.limits.TheConstants.{RUN_LIMIT}
use Rattle.ia_program.specs.declared.place.Place.{Place}
use Rattle.ia_program.specs.Bundles.{Bundle, IsBundle, AreBundles}
use Rattle.ia_program.specs.Places.{place_number, place_at, IsPlaceOf, IsBefore, IsNext, EachPlace, IsFirstBad}
use Rattle.ia_program.specs.Runs.{EndsRun, StandBefore, IsWithinRun}
use Rattle.ia_program.specs.Targets.{IsTargetInside}
use Rattle.ia_program.proofs.InOrder.{slot_small, bundle_small, is_place, get_some}

-- Places are the same where their numbers of bundle and slot are.
pub same_place : (p q : Place) → p.bundle ≡ q.bundle → p.slot ≡ q.slot → p ≡ q
same_place p q b s = λ i. record { bundle = b i; slot = s i }

-- The place with the number of a place with a slot 0 to 2 is that place.
pub place_at-number : (q : Place) → q.slot < 3 → place_at (place_number q) ≡ q
place_at-number q h = same_place (place_at (place_number q)) q (omega arith) (omega arith)

-- Of two places one comes first, or they are one.
pub order : (p q : Place) → IsBefore p q ⊎ (IsBefore q p ⊎ (p ≡ q))
order p q = elim (sides p.bundle q.bundle) [
  | inl less ↦ inl (inl less)
  | inr (inl more) ↦ inr (inl (inl more))
  | inr (inr same) ↦ elim (sides p.slot q.slot) [
    | inl less ↦ inl (inr (same, less))
    | inr (inl more) ↦ inr (inl (inr (sym same, more)))
    | inr (inr slots) ↦ inr (inr (same_place p q same slots))
  ]
]
  where
    sides : (m n : ℕ) → (m < n) ⊎ ((n < m) ⊎ (m ≡ n))
    sides m n = grind arith

-- The place is reached: those before it are good ones.
pub record IsReached (bundles : List Bundle) (Good : Place → Type 0) (place : Place) : Type 0 where
  pub is : IsPlaceOf bundles place
  pub before : (q : Place) → IsPlaceOf bundles q → IsBefore q place → Good q

-- How far a pass over the places is: at a place, or past all.
abbrev pub HasReached : List Bundle → (Place → Type 0) → Option Place → Type 0
HasReached bundles Good None = EachPlace bundles Good
HasReached bundles Good (Some place) = IsReached bundles Good place

-- What comes after a place.
abbrev pub Follows : List Bundle → Place → Option Place → Type 0
Follows bundles place next = MatchOption next ((q : Place) → IsPlaceOf bundles q → IsBefore place q → ⊥) (λ n. IsNext bundles place n)

pub first_reached : (bundles : List Bundle) (Good : Place → Type 0) → 1 ≤ length bundles
    → IsReached bundles Good (record { bundle = 0; slot = 0 })
first_reached bundles Good some = record {
  is = let s = get_some bundles 0 (omega arith) in is_place bundles (record { bundle = 0; slot = 0 }) s.0 s.1 (omega arith);
  before = none;
}
  where
    none : (q : Place) → IsPlaceOf bundles q → IsBefore q (record { bundle = 0; slot = 0 }) → Good q
    none q p (inl less) = absurd (omega arith)
    none q p (inr less) = absurd (omega (arith, less.1))

-- A good place, and the pass goes on to the next.
pub goes_on : (bundles : List Bundle) (Good : Place → Type 0) (place : Place) (next : Option Place) → IsReached bundles Good place
    → Good place → Follows bundles place next → HasReached bundles Good next
goes_on bundles Good place None r good none = all
  where
    all : (q : Place) → IsPlaceOf bundles q → Good q
    all q p = elim (order q place) [
      | inl less ↦ r.before q p less
      | inr (inl more) ↦ absurd (none q p more)
      | inr (inr same) ↦ subst Good (sym same) good
    ]
goes_on bundles Good place (Some next) r good is = record { is = is.is; before = all }
  where
    all : (q : Place) → IsPlaceOf bundles q → IsBefore q next → Good q
    all q p before = elim (order q place) [
      | inl less ↦ r.before q p less
      | inr (inl more) ↦ absurd (is.first q p more before)
      | inr (inr same) ↦ subst Good (sym same) good
    ]

-- The target is inside, and the instructions of the place's bundle fit it.
abbrev pub IsSound : List Bundle → Place → Type 0
IsSound bundles place = IsTargetInside bundles place × IfSome (slice_get bundles place.bundle) IsBundle

pub first_outside : (bundles : List Bundle) (place : Place) → IsReached bundles (IsSound bundles) place → ¬ IsTargetInside bundles place
    → IsFirstBad bundles (IsTargetInside bundles) place
first_outside bundles place r bad = record { is = r.is; bad = bad; first = λ q p before. (r.before q p before).0 }

-- Where each place is sound, so is each bundle.
pub all_sound : (bundles : List Bundle) → EachPlace bundles (IsSound bundles)
    → EachPlace bundles (IsTargetInside bundles) × AreBundles bundles
all_sound bundles each = (λ q p. (each q p).0, λ n. of n (slice_get bundles n) refl)
  where
    of : (n : ℕ) (o : Option Bundle) → slice_get bundles n ≡ o → IfSome (slice_get bundles n) IsBundle
    of n None e = rw e tt
    of n (Some b) e = (each (record { bundle = n; slot = 0 }) (is_place bundles (record { bundle = n; slot = 0 }) b e (omega arith))).1

pub first_bad : (bundles : List Bundle) (Good : Place → Type 0) (place : Place) → IsReached bundles Good place → ¬ Good place
    → IsFirstBad bundles Good place
first_bad bundles Good place r bad = record { is = r.is; bad = bad; first = r.before }

-- How many slots are left at most.
abbrev pub slots_left : ℕ → Option Place → ℕ
slots_left count None = 0
slots_left count (Some place) = 3 * (count - place.bundle) + 3 - place.slot

pub fewer_left : (bundles : List Bundle) (place : Place) (next : Option Place) → IsPlaceOf bundles place → Follows bundles place next
    → slots_left (length bundles) next < slots_left (length bundles) (Some place)
fewer_left bundles place None is none = let s = slot_small bundles place is in omega arith
fewer_left bundles place (Some next) is follows = smaller follows.after
  where
    smaller : IsBefore place next → slots_left (length bundles) (Some next) < slots_left (length bundles) (Some place)
    smaller (inl less) = let s = slot_small bundles place is in let b = bundle_small bundles next follows.is in omega arith
    smaller (inr less) = let s = slot_small bundles next follows.is in omega (arith, less.0, less.1)

-- As many slots of the run as `run` says stand before the place.
pub record IsRunOf (bundles : List Bundle) (place : Place) (run : ℕ) : Type 0 where
  pub slots : List Place
  pub stand : StandBefore bundles slots place
  pub count : length slots ≡ run
  pub most : (others : List Place) → StandBefore bundles others place → length others ≤ run

abbrev pub HasRun : List Bundle → Option Place → ℕ → Type 0
HasRun bundles None run = Unit {0}
HasRun bundles (Some place) run = IsRunOf bundles place run

pub within_run : (bundles : List Bundle) (place : Place) (run : ℕ) → IsRunOf bundles place run → run < RUN_LIMIT → IsWithinRun bundles place
within_run bundles place run r small = λ slots stand. let m = r.most slots stand in omega arith

pub past_run : (bundles : List Bundle) (place : Place) (run : ℕ) → IsRunOf bundles place run → run ≡ RUN_LIMIT → ¬ IsWithinRun bundles place
past_run bundles place run r is = λ within. let w = within r.slots r.stand in omega (arith, r.count)

pub first_run : (bundles : List Bundle) → IsRunOf bundles (record { bundle = 0; slot = 0 }) 0
first_run bundles = record { slots = []; stand = tt; count = refl; most = none }
  where
    before_first : (p : Place) → IsBefore p (record { bundle = 0; slot = 0 }) → ⊥
    before_first p (inl less) = omega arith
    before_first p (inr less) = omega (arith, less.1)

    none : (others : List Place) → StandBefore bundles others (record { bundle = 0; slot = 0 }) → length others ≤ 0
    none [] stand = omega arith
    none (p ∷ ps) stand = absurd (before_first p stand.1.after)

-- A place comes next after one place alone.
one_before : (bundles : List Bundle) (p q next : Place) → IsPlaceOf bundles p → IsPlaceOf bundles q → IsNext bundles p next
    → IsNext bundles q next → p ≡ q
one_before bundles p q next is other after later = elim (order p q) [
  | inl less ↦ absurd (after.first q other less later.after)
  | inr (inl more) ↦ absurd (later.first p is more after.after)
  | inr (inr same) ↦ same
]

-- A run that ends at a place: none of its slots stand before the next.
pub run_ends : (bundles : List Bundle) (place : Place) (next : Option Place) → IsPlaceOf bundles place → EndsRun bundles place
    → Follows bundles place next → HasRun bundles next 0
run_ends bundles place None is ends none = tt
run_ends bundles place (Some next) is ends follows = record { slots = []; stand = tt; count = refl; most = none }
  where
    none : (others : List Place) → StandBefore bundles others next → length others ≤ 0
    none [] stand = omega arith
    none (p ∷ ps) stand = absurd (stand.2 (subst (EndsRun bundles) (one_before bundles place p next is stand.0 follows stand.1) ends))

-- A run that doesn't end there has one slot more.
pub run_goes_on : (bundles : List Bundle) (place : Place) (next : Option Place) (run : ℕ) → IsPlaceOf bundles place
    → ¬ EndsRun bundles place → IsRunOf bundles place run → Follows bundles place next → HasRun bundles next (run + 1)
run_goes_on bundles place None run is on r none = tt
run_goes_on bundles place (Some next) run is on r follows =
    record { slots = place ∷ r.slots; stand = (is, follows, on, r.stand); count = omega (arith, r.count); most = most }
  where
    most : (others : List Place) → StandBefore bundles others next → length others ≤ run + 1
    most [] stand = omega arith
    most (p ∷ ps) stand =
        let same = one_before bundles p place next stand.0 is stand.1 follows in
        let m = r.most ps (subst (StandBefore bundles ps) same stand.3) in
        omega arith
