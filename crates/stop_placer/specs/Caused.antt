-- Where the stops of a packed program come from, in words about the program, the places of its instructions and the reasons
-- of their gaps.
use Rattle.std.specs.Prelude.{◌≡◌, ◌⊎◌, ℕ, ◌+◌, ◌<◌, ◌≤◌, true, false, List, [], ◌∷◌, ◌++◌, length, slice_get, slice_index_or, Option, Some}
use Rattle.ia_program.specs.declared.place.Place.{Place}
use Rattle.ia_program.specs.Places.{IsPlaceOf, IsBefore}
use Rattle.ia_program.specs.Programs.{Program}
use Rattle.ia_meaning.specs.Sequence.{first_of, next_of, is_stopped}
use Rattle.slot_table.specs.declared.slot.Slot.{Slot}
use Rattle.flow_facts.specs.Graphs.{over_program}
use Rattle.order_laws.specs.declared.violation.Violation.{Violation}
use Rattle.order_laws.specs.Violations.{ViolatesIn}
use Rattle.order_laws.specs.Violations.{HasNoViolation}
use Rattle.stop_placer.specs.declared.packing.Cause.{Cause}
use Rattle.stop_placer.specs.declared.packing.Cause.TheVariants.{Pair}
use Rattle.stop_placer.specs.declared.packed.StopWhy.{StopWhy}
use Rattle.stop_placer.specs.Placing.{without_stop, IsReason}

-- The slot without its stop.
abbrev pub unstopped : Slot → Slot
unstopped slot =
    record { action = slot.action; qp = slot.qp; stop = false; falls = slot.falls; next = slot.next; target = slot.target }

-- The place is the first of the program, or the one right behind a stop.
abbrev pub IsAfterStop : Program → Place → Type 0
IsAfterStop p place =
    (place ≡ first_of 0)
    ⊎ ((before : Place) × IsPlaceOf p.bundles before × (is_stopped p.bundles before ≡ true) × (next_of p.bundles before ≡ Some place))

-- The program has a violation without the stop behind `out`, and none with it; `behind` is no later place, and a stop comes
-- right before it.
pub record IsCut (p : Program) (behind out : Place) : Type 0 where
  pub free : HasNoViolation p
  pub violated : (v : Violation) × ViolatesIn (over_program p) (without_stop p out) v
  pub is : IsPlaceOf p.bundles behind
  pub parted : IsAfterStop p behind
  pub low : ¬ IsBefore out behind

-- The place of the n-th instruction.
abbrev pub place_in : List Place → ℕ → Place
place_in places n = slice_index_or places n (first_of 0)

-- The place stands from the n-th instruction on, and before the next one, where there is one.
pub record IsBehind (places : List Place) (n : ℕ) (place : Place) : Type 0 where
  pub inside : n < length places
  pub from : ¬ IsBefore place (place_in places n)
  pub below : n + 1 < length places → IsBefore place (place_in places (n + 1))

-- The instructions stand in order, each stop stands behind one at whose gap there is a reason, and without a stop that
-- stands for a pair there is a violation.
pub record AreCaused (p : Program) (places : List Place) (causes : List (Option Cause)) : Type 0 where
  pub free : HasNoViolation p
  pub some : 1 ≤ length places
  pub same_length : length causes ≡ length places
  pub there : (n : ℕ) → n < length places → IsPlaceOf p.bundles (place_in places n)
  pub rises : (m n : ℕ) → m < n → n < length places → IsBefore (place_in places m) (place_in places n)
  pub first : (place : Place) → IsPlaceOf p.bundles place → is_stopped p.bundles place ≡ true → ¬ IsBefore place (place_in places 0)
  pub caused : (n : ℕ) (place : Place) → IsBehind places n place → IsPlaceOf p.bundles place → is_stopped p.bundles place ≡ true
      → (cause : Cause) × (slice_get causes n ≡ Some (Some cause))
  pub violated : (n : ℕ) (place : Place) → IsBehind places n place → IsPlaceOf p.bundles place → is_stopped p.bundles place ≡ true
      → slice_get causes n ≡ Some (Some Pair)
      → (v : Violation) × ViolatesIn (over_program p) (without_stop p place) v

-- The n-th instruction is the last before the place, or the first of all.
pub record IsLastBefore (places : List Place) (n : ℕ) (place : Place) : Type 0 where
  pub inside : n < length places
  pub from : (n ≡ 0) ⊎ IsBefore (place_in places n) place
  pub below : n + 1 < length places → ¬ IsBefore (place_in places (n + 1)) place

-- The n-th instruction is the last at the place or before, or the first of all.
pub record IsLastUpTo (places : List Place) (n : ℕ) (place : Place) : Type 0 where
  pub inside : n < length places
  pub from : (n ≡ 0) ⊎ ¬ IsBefore place (place_in places n)
  pub below : n + 1 < length places → IsBefore place (place_in places (n + 1))

-- The stop is named as one behind the place, with the reason of its gap.
pub record IsNamed (p : Program) (place : Place) (gap : Option Cause) (stop : StopWhy) : Type 0 where
  pub after : stop.after ≡ place
  pub cause : Cause
  pub is : gap ≡ Some cause
  pub reason : IsReason p place cause stop.why

-- Where a stop stands behind the place it is named as one more.
pub record NamesAt (p : Program) (place : Place) (gap : Option Cause) (old new : List StopWhy) : Type 0 where
  pub unstopped : is_stopped p.bundles place ≡ false → new ≡ old
  pub stopped : is_stopped p.bundles place ≡ true → (stop : StopWhy) × IsNamed p place gap stop × (new ≡ old ++ stop ∷ [])

-- What has to be known to name it.
pub record IsDue (p : Program) (behind place : Place) (gap : Option Cause) : Type 0 where
  pub is : IsPlaceOf p.bundles place
  pub some : is_stopped p.bundles place ≡ true → (cause : Cause) × (gap ≡ Some cause)
  pub cut : is_stopped p.bundles place ≡ true → gap ≡ Some Pair → IsCut p behind place
