-- The program has the stops that are wanted, and no other.
use Rattle.std.proofs.Common.{arith, ◌≡◌, ℕ, suc, ◌+◌, ◌<◌, ◌≤◌, inl, inr, refl, sym, ◌∙◌, ap, subst, add-one, Bool, true, false, List, length, Some, slice_get}
use Rattle.std.specs.Prelude.{slice_index_or}
use Rattle.std.proofs.lemmas.Bool.{cases_lt}
use Rattle.std.proofs.lemmas.List.{get_or_past}
use Rattle.std.proofs.lemmas.Option.{get_or_from_slice_get}
use Rattle.ia_insn.specs.declared.insn.Insn.{Insn}
use Rattle.ia_program.specs.declared.place.Place.{Place}
use Rattle.ia_program.specs.Bundles.{Bundle, last_slot}
use Rattle.ia_program.specs.Places.{IsPlaceOf, IsBefore}
use Rattle.ia_program.proofs.InOrder.{is_place, bundle_small}
use Rattle.ia_meaning.specs.Sequence.{first_of, is_stopped}
use Rattle.slot_layouts.specs.declared.layout.Wanted.{Wanted}
use Rattle.slot_layouts.specs.Laws.{HasStopWhere}
use Rattle.order_laws.proofs.Falling.{none_before_first}
use Rattle.sequence_laws.specs.Spreads.{IsBetween, AreStops}
use Rattle.loose_items.specs.declared.item.Item.{Item}
use Rattle.loose_text.specs.LooseTexts.{Loose, IsLoose}
use Rattle.bundling.specs.Chunk.{Chunk}
use Rattle.bundling.specs.Chunks.{AreChunks, AreChunksOf, gaps_of}
use Rattle.bundling.specs.Bundled.{sequence_of, targeted, layout_of, places_of, place_of, bundle_of, bundles_from, program_of}
use Rattle.bundling.specs.Laws.{sequence_stop, HasStopsApart, HasLastStop}
use Rattle.bundling.proofs.Lists.{element}
use Rattle.bundling.proofs.Locating.{AreLayouts, in_chunk, length-places, length-bundles, bundle_at, in_bundle, placed, last_of_all, first_of_all, gap_inside, gap_last, gap_there}
use Rattle.bundling.proofs.Targeting.{length-targeted}
use Rattle.bundling.proofs.Spreading.{itself, bundles_of}
use Rattle.bundling.proofs.Neighbours.{AreStopLaws, filled_at, stop_there, stops_of_chunk, slot_within, InOne, IsLast, InTwo, is_last, neighbours, IsBetweenSlots, within_one, stop_at, last_within, stop_of_first, stops_to_end, stops_to_next}

-- A stop follows one of the places where it is wanted, and else none.
abbrev pub StopsAre : Bool → List Bundle → (Place → Type 0) → Type 0
StopsAre true bundles In =
    (place : Place) × In place × (is_stopped bundles place ≡ true)
    × ((other : Place) → In other → is_stopped bundles other ≡ true → other ≡ place)
StopsAre false bundles In = (other : Place) → In other → is_stopped bundles other ≡ false

-- Stops are as wanted where the places with stops are within a part of a bundle.
stops_are : (cs : List Chunk) (insns : List Insn) (k slot upto : ℕ) (c : Chunk) (gap : Bool) (In : Place → Type 0) → slice_get cs k ≡ Some c
    → HasStopWhere gap (filled_at cs insns k c) slot upto → ((x : ℕ) → slot ≤ x → x < upto → In (in_bundle k x))
    → ((x : Place) → In x → is_stopped (bundles_from cs insns) x ≡ true → IsBetweenSlots k slot upto x)
    → StopsAre gap (bundles_from cs insns) In
stops_are cs insns k slot upto c true In there one all only =
    (in_bundle k one.slot, all one.slot one.above one.below, stop_there cs insns k one.slot c there ∙ one.here, same)
  where
    same : (other : Place) → In other → is_stopped (bundles_from cs insns) other ≡ true → other ≡ in_bundle k one.slot
    same other is stopped =
        let within = only other is stopped in
        let slot : other.slot ≡ one.slot =
        one.only other.slot within.above within.below (stop_at cs insns k c other there within.bundle stopped) in
        ap (λ k. in_bundle k other.slot) within.bundle ∙ ap (in_bundle k) slot
stops_are cs insns k slot upto c false In there none all only = unstopped
  where
    unstopped : (other : Place) → In other → is_stopped (bundles_from cs insns) other ≡ false
    unstopped other is = of (is_stopped (bundles_from cs insns) other) refl
      where
        of : (b : Bool) → is_stopped (bundles_from cs insns) other ≡ b → is_stopped (bundles_from cs insns) other ≡ false
        of false h = h
        of true h =
            let within = only other is h in
            let stop = stop_at cs insns k c other there within.bundle h in
            let no_stop = none other.slot within.above within.below in absurd (cc)

one_place : (gap : Bool) (bundles : List Bundle) (In : Place → Type 0) → StopsAre gap bundles In → (x y : Place) → In x → In y
    → is_stopped bundles x ≡ true → is_stopped bundles y ≡ true → x ≡ y
one_place true bundles In stops x y first second a b = stops.3 x first a ∙ sym (stops.3 y second b)
one_place false bundles In stops x y first second a b = let none = stops x first in absurd (cc)

-- The gap behind an instruction.
gap_in_one : (cs : List Chunk) (n : ℕ) (one : InOne cs n) (x : Wanted) → slice_get one.chunk.wanted (suc one.offset) ≡ Some x
    → slice_index_or (gaps_of cs) n false ≡ x.gap
gap_in_one cs n one x wanted =
    get_or_from_slice_get (gaps_of cs) n x.gap false
    (ap (slice_get (gaps_of cs)) (sym one.at.number) ∙ gap_there cs one.bundle one.offset one.chunk one.at.there one.at.inside
    ∙ gap_inside one.chunk.wanted one.chunk.end one.offset x wanted)

gap_of_last : (cs : List Chunk) (n : ℕ) (last : IsLast cs n) → slice_index_or (gaps_of cs) n false ≡ last.chunk.end
gap_of_last cs n last =
    get_or_from_slice_get (gaps_of cs) n last.chunk.end false
    (ap (slice_get (gaps_of cs)) (sym last.at.number) ∙ gap_there cs last.bundle last.offset last.chunk last.at.there last.at.inside
    ∙ gap_last last.chunk.wanted last.chunk.end last.offset last.last)

is_place_at : (cs : List Chunk) (insns : List Insn) (k slot : ℕ) (c : Chunk) → slice_get cs k ≡ Some c
    → slot ≤ last_slot (filled_at cs insns k c).slots → IsPlaceOf (bundles_from cs insns) (in_bundle k slot)
is_place_at cs insns k slot c there within =
    is_place (bundles_from cs insns) (in_bundle k slot) (filled_at cs insns k c) (bundle_at cs insns k c there) within

not_before : (k slot x : ℕ) → slot ≤ x → ¬ IsBefore (in_bundle k x) (in_bundle k slot)
not_before k slot x above (inl less) = omega arith
not_before k slot x above (inr (same, less)) = omega arith

-- From an instruction on and before the next a stop follows one place where it is wanted, and else none.
pub stops_between : AreStopLaws → (s : Loose) (cs : List Chunk) → AreChunks cs s.items → (n : ℕ) → suc n < length s.items
    → StopsAre (slice_index_or (gaps_of cs) n false) (bundles_of s cs) (IsBetween (program_of s cs) (place_of cs) n)
stops_between laws s cs are n more = elim (neighbours laws.layouts cs s.items n are more) [
  | inl one ↦ in_one one
  | inr two ↦ in_two two
]
  where
    insns : List Insn
    insns = targeted (bundle_of cs) s

    Between : Place → Type 0
    Between = IsBetween (program_of s cs) (place_of cs) n

    next_is : (p : Place) → place_of cs (suc n) ≡ p → place_of cs (n + 1) ≡ p
    next_is p same = ap (place_of cs) (add-one n) ∙ same

    in_one : InOne cs n → StopsAre (slice_index_or (gaps_of cs) n false) (bundles_of s cs) Between
    in_one one =
        let x = element one.chunk.wanted (suc one.offset) one.next.inside in
        subst (λ gap. StopsAre gap (bundles_of s cs) Between) (sym (gap_in_one cs n one x.0 x.1))
        (stops_are cs insns one.bundle one.slot one.other one.chunk x.0.gap Between one.at.there
        (stops_to_next laws cs s.items insns n one x.0 are x.1) all only)
      where
        last : one.other ≤ last_slot (filled_at cs insns one.bundle one.chunk).slots
        last = slot_within laws.layouts cs s.items insns one.bundle (suc one.offset) one.other one.chunk are one.at.there one.other_there

        all : (x : ℕ) → one.slot ≤ x → x < one.other → Between (in_bundle one.bundle x)
        all x above less = record {
          is = is_place_at cs insns one.bundle x one.chunk one.at.there (let within = last in omega arith);
          from = subst (λ p. ¬ IsBefore (in_bundle one.bundle x) p) (sym one.place) (not_before one.bundle one.slot x above);
          below = subst (IsBefore (in_bundle one.bundle x)) (sym (next_is _ one.next_place)) (inr (refl, less));
        }

        only : (x : Place) → Between x → is_stopped (bundles_of s cs) x ≡ true → IsBetweenSlots one.bundle one.slot one.other x
        only x between stopped =
            within_one one.bundle one.slot one.other x (subst (λ p. ¬ IsBefore x p) one.place between.from)
            (subst (IsBefore x) (next_is _ one.next_place) between.below)

    in_two : InTwo cs n → StopsAre (slice_index_or (gaps_of cs) n false) (bundles_of s cs) Between
    in_two two =
        subst (λ gap. StopsAre gap (bundles_of s cs) Between) (sym (gap_of_last cs n two.first))
        (stops_are cs insns two.first.bundle two.first.slot (suc (last_slot (filled_at cs insns two.first.bundle two.first.chunk).slots))
        two.first.chunk two.first.chunk.end Between two.first.at.there
        (stops_to_end laws cs s.items insns n two.first are) all only)
      where
        all : (x : ℕ) → two.first.slot ≤ x → x < suc (last_slot (filled_at cs insns two.first.bundle two.first.chunk).slots)
            → Between (in_bundle two.first.bundle x)
        all x above less = record {
          is = is_place_at cs insns two.first.bundle x two.first.chunk two.first.at.there (omega arith);
          from =
              subst (λ p. ¬ IsBefore (in_bundle two.first.bundle x) p) (sym two.first.place)
              (not_before two.first.bundle two.first.slot x above);
          below = subst (IsBefore (in_bundle two.first.bundle x)) (sym (next_is _ two.next_place)) (inl (omega arith));
        }

        only : (x : Place) → Between x → is_stopped (bundles_of s cs) x ≡ true
            → IsBetweenSlots two.first.bundle two.first.slot (suc (last_slot (filled_at cs insns two.first.bundle two.first.chunk).slots)) x
        only x between stopped =
            stop_of_first laws cs s.items insns n two x are between.is between.from
            (subst (IsBefore x) (ap (place_of cs) (add-one n)) between.below) stopped

-- A place that isn't before another.
pub record IsFrom (bundles : List Bundle) (from : Place) (x : Place) : Type 0 where
  pub is : IsPlaceOf bundles x
  pub from_there : ¬ IsBefore x from

-- From the last instruction on a stop follows exactly where one is wanted.
pub stops_behind : AreStopLaws → (s : Loose) (cs : List Chunk) → AreChunks cs s.items → (n : ℕ) → suc n ≡ length s.items
    → StopsAre (slice_index_or (gaps_of cs) n false) (bundles_of s cs) (IsFrom (bundles_of s cs) (place_of cs n))
stops_behind laws s cs are n end =
    let one = in_chunk cs s.items n are (omega arith) in
    let last = last_of_all cs s.items n one.bundle one.offset one.chunk laws.layouts are one.at end in
    of (is_last laws.layouts cs s.items n one.bundle one.offset one.chunk are one.at last.0)
  where
    insns : List Insn
    insns = targeted (bundle_of cs) s

    of : IsLast cs n → StopsAre (slice_index_or (gaps_of cs) n false) (bundles_of s cs) (IsFrom (bundles_of s cs) (place_of cs n))
    of last =
        subst (λ gap. StopsAre gap (bundles_of s cs) (IsFrom (bundles_of s cs) (place_of cs n))) (sym (gap_of_last cs n last))
        (stops_are cs insns last.bundle last.slot (suc (last_slot (filled_at cs insns last.bundle last.chunk).slots)) last.chunk
        last.chunk.end (IsFrom (bundles_of s cs) (place_of cs n)) last.at.there
        (stops_to_end laws cs s.items insns n last are) all only)
      where
        all : (x : ℕ) → last.slot ≤ x → x < suc (last_slot (filled_at cs insns last.bundle last.chunk).slots)
            → IsFrom (bundles_of s cs) (place_of cs n) (in_bundle last.bundle x)
        all x above less = record {
          is = is_place_at cs insns last.bundle x last.chunk last.at.there (omega arith);
          from_there = subst (λ p. ¬ IsBefore (in_bundle last.bundle x) p) (sym last.place) (not_before last.bundle last.slot x above);
        }

        only : (x : Place) → IsFrom (bundles_of s cs) (place_of cs n) x → is_stopped (bundles_of s cs) x ≡ true
            → IsBetweenSlots last.bundle last.slot (suc (last_slot (filled_at cs insns last.bundle last.chunk).slots)) x
        only x from stopped =
            let small = bundle_small (bundles_of s cs) x from.is in
            let end_of_all = (last_of_all cs s.items n last.bundle last.offset last.chunk laws.layouts are last.at end).1 in
            let behind = subst (λ p. ¬ IsBefore x p) last.place from.from_there in
            let bundle : x.bundle ≡ last.bundle = in_last x behind (omega (arith, length-bundles cs insns)) in
            let above : last.slot ≤ x.slot = not_below x behind bundle in
            record { bundle = bundle; above = above; below = last_within cs insns last.bundle last.chunk x last.at.there bundle from.is }
          where
            in_last : (x : Place) → ¬ IsBefore x (in_bundle last.bundle last.slot) → x.bundle ≤ last.bundle → x.bundle ≡ last.bundle
            in_last x from less = elim (cases_lt x.bundle last.bundle) [
              | inl h ↦ absurd (from (inl h))
              | inr h ↦ (omega arith)
            ]

            not_below : (x : Place) → ¬ IsBefore x (in_bundle last.bundle last.slot) → x.bundle ≡ last.bundle → last.slot ≤ x.slot
            not_below x from same = elim (cases_lt x.slot last.slot) [
              | inl h ↦ absurd (from (inr (same, h)))
              | inr h ↦ h
            ]

-- The laws of stops.
pub has_stops : AreStopLaws → (s : Loose) (cs : List Chunk) → IsLoose s → AreChunksOf s cs
    → AreStops (sequence_of s) (program_of s cs) (place_of cs) (sequence_stop cs) (is_stopped (bundles_of s cs))
has_stops laws s cs loose are = record { stopped = stopped; unstopped = unstopped }
  where
    count : length (targeted itself s) ≡ length s.items
    count = length-targeted itself 0 s.items s.targets loose.targets

    stops : (n : ℕ) → n + 1 < length (targeted itself s) → StopsAre (slice_index_or (gaps_of cs) n false) (bundles_of s cs)
        (IsBetween (program_of s cs) (place_of cs) n)
    stops n more = let same = count in stops_between laws s cs are.chunks n (omega arith)

    stopped : (n : ℕ) → n + 1 < length (targeted itself s) → slice_index_or (gaps_of cs) n false ≡ true
        → (place : Place) × IsBetween (program_of s cs) (place_of cs) n place × (is_stopped (bundles_of s cs) place ≡ true)
    stopped n more wanted =
        let found = subst (λ gap. StopsAre gap (bundles_of s cs) (IsBetween (program_of s cs) (place_of cs) n)) wanted (stops n more) in
        (found.0, found.1, found.2)

    unstopped : (n : ℕ) → n + 1 < length (targeted itself s) → slice_index_or (gaps_of cs) n false ≡ false
        → (place : Place) → IsBetween (program_of s cs) (place_of cs) n place → is_stopped (bundles_of s cs) place ≡ false
    unstopped n more none = subst (λ gap. StopsAre gap (bundles_of s cs) (IsBetween (program_of s cs) (place_of cs) n)) none (stops n more)

-- There is no instruction behind the last.
no_place : AreLayouts → (cs : List Chunk) (items : List Item) (n : ℕ) → AreChunks cs items → length items ≤ n → place_of cs n ≡ first_of 0
unfolding place_of
no_place laws cs items n are none = let count = length-places laws cs items 0 are in get_or_past (places_of cs) n (first_of 0) (omega arith)

pub has_one_stop : AreStopLaws → (s : Loose) (cs : List Chunk) → IsLoose s → AreChunksOf s cs
    → HasStopsApart (program_of s cs) (place_of cs)
has_one_stop laws s cs loose are = record { one = one; none_before = none_before }
  where
    one : (n : ℕ) (x y : Place) → IsBetween (program_of s cs) (place_of cs) n x → IsBetween (program_of s cs) (place_of cs) n y
        → is_stopped (bundles_of s cs) x ≡ true → is_stopped (bundles_of s cs) y ≡ true → x ≡ y
    one n x y first second a b = elim (cases_lt (suc n) (length s.items)) [
      | inl more ↦ one_place (slice_index_or (gaps_of cs) n false) (bundles_of s cs) (IsBetween (program_of s cs) (place_of cs) n)
          (stops_between laws s cs are.chunks n more) x y first second a b
      | inr none ↦ absurd (nowhere n x none first.below)
    ]
      where
        nowhere : (n : ℕ) (x : Place) → length s.items ≤ suc n → IsBefore x (place_of cs (n + 1)) → ⊥
        nowhere n x none below =
            none_before_first x (subst (IsBefore x) (no_place laws.layouts cs s.items (n + 1) are.chunks (omega arith)) below)

    none_before : (x : Place) → IsPlaceOf (bundles_of s cs) x → IsBefore x (place_of cs 0) → is_stopped (bundles_of s cs) x ≡ false
    none_before x is before =
        let some = loose.some in
        let one = in_chunk cs s.items 0 are.chunks (omega arith) in
        let first = first_of_all cs one.bundle one.offset one.chunk one.at laws.layouts s.items are.chunks in
        let place = placed laws.layouts cs s.items 0 one.bundle one.offset one.chunk are.chunks one.at in
        of one.bundle one.offset one.chunk place.slot one.at.there first.0
        (subst (λ j. slice_get (layout_of one.chunk).1 j ≡ Some place.slot) first.1 place.there) (subst (IsBefore x) place.place before)
      where
        insns : List Insn
        insns = targeted (bundle_of cs) s

        of : (k j : ℕ) (c : Chunk) (slot : ℕ) → slice_get cs k ≡ Some c → k ≡ 0 → slice_get (layout_of c).1 0 ≡ Some slot
            → IsBefore x (in_bundle k slot) → is_stopped (bundles_of s cs) x ≡ false
        of k j c slot there first at (inl less) = absurd (omega arith)
        of k j c slot there first at (inr (same, less)) =
            ap (λ k. is_stopped (bundles_of s cs) (in_bundle k x.slot)) same ∙ stop_there cs insns k x.slot c there
            ∙ (stops_of_chunk laws cs s.items insns k c are.chunks there).before slot at x.slot (omega arith) less

pub has_last_stop : AreStopLaws → (s : Loose) (cs : List Chunk) (n : ℕ) → IsLoose s → AreChunksOf s cs → n + 1 ≡ length s.items
    → HasLastStop (program_of s cs) (place_of cs n) (slice_index_or (gaps_of cs) n false)
has_last_stop laws s cs n loose are end = record { some = some; none = none; one = one }
  where
    last : suc n ≡ length s.items
    last = omega arith

    From : Place → Type 0
    From = IsFrom (bundles_of s cs) (place_of cs n)

    stops : StopsAre (slice_index_or (gaps_of cs) n false) (bundles_of s cs) From
    stops = stops_behind laws s cs are.chunks n last

    some : slice_index_or (gaps_of cs) n false ≡ true → (x : Place) × IsPlaceOf (bundles_of s cs) x × ¬ IsBefore x (place_of cs n)
        × (is_stopped (bundles_of s cs) x ≡ true)
    some wanted =
        let found = subst (λ gap. StopsAre gap (bundles_of s cs) From) wanted stops in (found.0, found.1.is, found.1.from_there, found.2)

    none : slice_index_or (gaps_of cs) n false ≡ false → (x : Place) → IsPlaceOf (bundles_of s cs) x → ¬ IsBefore x (place_of cs n)
        → is_stopped (bundles_of s cs) x ≡ false
    none unwanted x is from = subst (λ gap. StopsAre gap (bundles_of s cs) From) unwanted stops x (record { is = is; from_there = from })

    one : (x y : Place) → IsPlaceOf (bundles_of s cs) x → IsPlaceOf (bundles_of s cs) y → ¬ IsBefore x (place_of cs n)
        → ¬ IsBefore y (place_of cs n)
        → is_stopped (bundles_of s cs) x ≡ true → is_stopped (bundles_of s cs) y ≡ true → x ≡ y
    one x y is_x is_y from_x from_y a b =
        one_place (slice_index_or (gaps_of cs) n false) (bundles_of s cs) From stops x y (record { is = is_x; from_there = from_x })
        (record { is = is_y; from_there = from_y }) a b
