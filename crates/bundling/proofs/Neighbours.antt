-- An instruction of a loose text and the next one in the program, the places from the one on and before the other, and
-- the stops there.
use Rattle.std.proofs.Common.{arith, ◌≡◌, ℕ, suc, ◌<◌, ◌≤◌, ◌⊎◌, inl, inr, sym, ◌∙◌, ap, subst, add-one, Bool, true, false, List, length, Some, slice_get}
use Rattle.std.proofs.lemmas.Bool.{cases_lt}
use Rattle.std.proofs.lemmas.Option.{same_Some}
use Rattle.ia_insn.specs.declared.insn.Insn.{Insn}
use Rattle.ia_program.specs.declared.place.Place.{Place}
use Rattle.ia_program.specs.Bundles.{Bundle, last_slot}
use Rattle.ia_program.specs.Places.{IsPlaceOf, IsBefore}
use Rattle.ia_program.proofs.InOrder.{lies_in, slot_within as within_last}
use Rattle.ia_meaning.specs.Sequence.{stopped_in, is_stopped}
use Rattle.slot_layouts.specs.declared.layout.Wanted.{Wanted}
use Rattle.slot_layouts.specs.Filled.{filled}
use Rattle.slot_layouts.specs.Laws.{LaidOutHasStopsAsWanted, HasStopsAsWanted, HasStopWhere, has_stop}
use Rattle.loose_items.specs.declared.item.Item.{Item}
use Rattle.bundling.specs.Chunk.{Chunk}
use Rattle.bundling.specs.Chunks.{AreChunks}
use Rattle.bundling.specs.Bundled.{layout_of, place_of, bundles_from}
use Rattle.bundling.proofs.Locating.{AreLayouts, part_of, IsAt, put_at, in_chunk, bundle_at, in_bundle, placed, next_inside, next_first}

-- The laws of layouts from which it follows where stops are.
pub record AreStopLaws : Type 0 where
  pub layouts : AreLayouts
  pub stops : LaidOutHasStopsAsWanted

-- The bundle of the k-th chunk.
abbrev pub filled_at : List Chunk → List Insn → ℕ → Chunk → Bundle
filled_at cs insns k c = filled (layout_of c).0 (layout_of c).1 (part_of cs k c insns)

pub stop_there : (cs : List Chunk) (insns : List Insn) (k slot : ℕ) (c : Chunk) → slice_get cs k ≡ Some c
    → is_stopped (bundles_from cs insns) (in_bundle k slot) ≡ has_stop (filled_at cs insns k c) slot
unfolding is_stopped
stop_there cs insns k slot c there = ap (λ o. stopped_in o slot) (bundle_at cs insns k c there)

pub stops_of_chunk : AreStopLaws → (cs : List Chunk) (items : List Item) (insns : List Insn) (k : ℕ) (c : Chunk) → AreChunks cs items
    → slice_get cs k ≡ Some c
    → HasStopsAsWanted c.wanted c.end (layout_of c).1 (filled_at cs insns k c)
stops_of_chunk laws cs items insns k c are there =
    laws.stops c.wanted c.end (layout_of c).0 (layout_of c).1 (part_of cs k c insns) (put_at laws.layouts cs items k c are there).laid

-- The slot of an instruction is a place of its bundle, and so comes no later than the last.
pub slot_within : AreLayouts → (cs : List Chunk) (items : List Item) (insns : List Insn) (k j slot : ℕ) (c : Chunk) → AreChunks cs items
    → slice_get cs k ≡ Some c
    → slice_get (layout_of c).1 j ≡ Some slot → slot ≤ last_slot (filled_at cs insns k c).slots
slot_within laws cs items insns k j slot c are there at =
    let put = put_at laws cs items k c are there in
    let place = (laws.holds c.wanted c.end (layout_of c).0 (layout_of c).1 (part_of cs k c insns) put.laid).places j slot at in
    within_last (filled_at cs insns k c).slots slot place

-- The n-th instruction and the next stand in one bundle.
pub record InOne (cs : List Chunk) (n : ℕ) : Type 0 where
  pub bundle : ℕ
  pub offset : ℕ
  pub chunk : Chunk
  pub at : IsAt cs n bundle offset chunk
  pub next : IsAt cs (suc n) bundle (suc offset) chunk
  pub slot : ℕ
  pub slot_there : slice_get (layout_of chunk).1 offset ≡ Some slot
  pub place : place_of cs n ≡ in_bundle bundle slot
  pub other : ℕ
  pub other_there : slice_get (layout_of chunk).1 (suc offset) ≡ Some other
  pub next_place : place_of cs (suc n) ≡ in_bundle bundle other

-- It is the last of its bundle.
pub record IsLast (cs : List Chunk) (n : ℕ) : Type 0 where
  pub bundle : ℕ
  pub offset : ℕ
  pub chunk : Chunk
  pub at : IsAt cs n bundle offset chunk
  pub last : suc offset ≡ length chunk.wanted
  pub slot : ℕ
  pub slot_there : slice_get (layout_of chunk).1 offset ≡ Some slot
  pub place : place_of cs n ≡ in_bundle bundle slot

-- It is, and the next is the first of the next bundle.
pub record InTwo (cs : List Chunk) (n : ℕ) : Type 0 where
  pub first : IsLast cs n
  pub chunk : Chunk
  pub next : IsAt cs (suc n) (suc first.bundle) 0 chunk
  pub other : ℕ
  pub other_there : slice_get (layout_of chunk).1 0 ≡ Some other
  pub next_place : place_of cs (suc n) ≡ in_bundle (suc first.bundle) other

pub is_last : AreLayouts → (cs : List Chunk) (items : List Item) (n k j : ℕ) (c : Chunk) → AreChunks cs items → IsAt cs n k j c
    → suc j ≡ length c.wanted → IsLast cs n
is_last laws cs items n k j c are at last =
    let place = placed laws cs items n k j c are at in
    record { bundle = k; offset = j; chunk = c; at = at; last = last; slot = place.slot; slot_there = place.there; place = place.place }

in_two : AreLayouts → (cs : List Chunk) (items : List Item) (n : ℕ) → AreChunks cs items → IsLast cs n → suc n < length items → InTwo cs n
in_two laws cs items n are last more =
    let next = next_first cs items n last.bundle last.offset last.chunk laws are last.at last.last more in
    let other = placed laws cs items (suc n) (suc last.bundle) 0 next.0 are next.1 in
    record { first = last; chunk = next.0; next = next.1; other = other.slot; other_there = other.there; next_place = other.place }

pub neighbours : AreLayouts → (cs : List Chunk) (items : List Item) (n : ℕ) → AreChunks cs items → suc n < length items
    → InOne cs n ⊎ InTwo cs n
neighbours laws cs items n are more =
    let one = in_chunk cs items n are (omega arith) in
    of one.bundle one.offset one.chunk one.at (cases_lt (suc one.offset) (length one.chunk.wanted))
  where
    of : (k j : ℕ) (c : Chunk) → IsAt cs n k j c → (suc j < length c.wanted) ⊎ (length c.wanted ≤ suc j) → InOne cs n ⊎ InTwo cs n
    of k j c at (inl h) =
        let next = next_inside cs n k j c at h in
        let place = placed laws cs items n k j c are at in
        let other = placed laws cs items (suc n) k (suc j) c are next in
        inl (record {
          bundle = k;
          offset = j;
          chunk = c;
          at = at;
          next = next;
          slot = place.slot;
          slot_there = place.there;
          place = place.place;
          other = other.slot;
          other_there = other.there;
          next_place = other.place;
        })
    of k j c at (inr h) =
        let inside = at.inside in inr (in_two laws cs items n are (is_last laws cs items n k j c are at (omega arith)) more)

-- The place is in the bundle, at a slot from one on and before another.
pub record IsBetweenSlots (k slot upto : ℕ) (x : Place) : Type 0 where
  pub bundle : x.bundle ≡ k
  pub above : slot ≤ x.slot
  pub below : x.slot < upto

-- The places of a bundle from one slot on and before another one.
pub within_one : (k slot other : ℕ) (x : Place) → ¬ IsBefore x (in_bundle k slot) → IsBefore x (in_bundle k other)
    → IsBetweenSlots k slot other x
within_one k slot other x from below =
    let bundle : x.bundle ≡ k = grind arith in
    let above : slot ≤ x.slot = grind arith in
    let less : x.slot < other = grind arith in
    record { bundle = bundle; above = above; below = less }

-- The places from a slot on and before a slot of the next bundle: behind the first in its bundle, or in the next one before the
-- second.
within_two : (k slot other : ℕ) (x : Place) → ¬ IsBefore x (in_bundle k slot) → IsBefore x (in_bundle (suc k) other)
    → ((x.bundle ≡ k) × (slot ≤ x.slot)) ⊎ ((x.bundle ≡ suc k) × (x.slot < other))
within_two k slot other x from (inl less) =
    let bundle : x.bundle ≡ k = grind arith in
    let above : slot ≤ x.slot = grind arith in inl (bundle, above)
within_two k slot other x from (inr (same, less)) = inr (same, less)

-- A stop is of the places within its bundle.
pub stop_at : (cs : List Chunk) (insns : List Insn) (k : ℕ) (c : Chunk) (x : Place) → slice_get cs k ≡ Some c → x.bundle ≡ k
    → is_stopped (bundles_from cs insns) x ≡ true
    → has_stop (filled_at cs insns k c) x.slot ≡ true
stop_at cs insns k c x there bundle stopped =
    sym (stop_there cs insns k x.slot c there) ∙ ap (λ k. is_stopped (bundles_from cs insns) (in_bundle k x.slot)) (sym bundle) ∙ stopped

pub last_within : (cs : List Chunk) (insns : List Insn) (k : ℕ) (c : Chunk) (x : Place) → slice_get cs k ≡ Some c → x.bundle ≡ k
    → IsPlaceOf (bundles_from cs insns) x
    → x.slot < suc (last_slot (filled_at cs insns k c).slots)
last_within cs insns k c x there bundle is =
    let lies = lies_in (bundles_from cs insns) x is in
    let same : lies.bundle ≡ filled_at cs insns k c =
    same_Some _ _ (sym lies.is ∙ ap (slice_get (bundles_from cs insns)) bundle ∙ bundle_at cs insns k c there) in
    let within = subst (λ (b : Bundle). x.slot ≤ last_slot b.slots) same lies.within in omega arith

pub stop_of_first : AreStopLaws → (cs : List Chunk) (items : List Item) (insns : List Insn) (n : ℕ) (two : InTwo cs n) (x : Place)
    → AreChunks cs items → IsPlaceOf (bundles_from cs insns) x
    → ¬ IsBefore x (place_of cs n) → IsBefore x (place_of cs (suc n)) → is_stopped (bundles_from cs insns) x ≡ true
    → IsBetweenSlots two.first.bundle two.first.slot (suc (last_slot (filled_at cs insns two.first.bundle two.first.chunk).slots)) x
stop_of_first laws cs items insns n two x are is from below stopped =
    of (within_two two.first.bundle two.first.slot two.other x (subst (λ p. ¬ IsBefore x p) two.first.place from)
    (subst (IsBefore x) two.next_place below))
  where
    of : ((x.bundle ≡ two.first.bundle) × (two.first.slot ≤ x.slot)) ⊎ ((x.bundle ≡ suc two.first.bundle) × (x.slot < two.other))
        → IsBetweenSlots two.first.bundle two.first.slot (suc (last_slot (filled_at cs insns two.first.bundle two.first.chunk).slots)) x
    of (inl (bundle, above)) =
        record {
          bundle = bundle;
          above = above;
          below = last_within cs insns two.first.bundle two.first.chunk x two.first.at.there bundle
              is;
        }
    of (inr (bundle, less)) =
        let stop = stop_at cs insns (suc two.first.bundle) two.chunk x two.next.there bundle stopped in
        let none =
        (stops_of_chunk laws cs items insns (suc two.first.bundle) two.chunk are two.next.there).before two.other two.other_there x.slot
        (omega arith) less in absurd (cc)

-- From the last instruction of a bundle on to its end there is a stop where one is wanted at the end.
pub stops_to_end : AreStopLaws → (cs : List Chunk) (items : List Item) (insns : List Insn) (n : ℕ) (last : IsLast cs n) → AreChunks cs items
    → HasStopWhere last.chunk.end (filled_at cs insns last.bundle last.chunk) last.slot
    (suc (last_slot (filled_at cs insns last.bundle last.chunk).slots))
stops_to_end laws cs items insns n last are =
    let put = put_at laws.layouts cs items last.bundle last.chunk are last.at.there in
    let stops = stops_of_chunk laws cs items insns last.bundle last.chunk are last.at.there in
    let within = slot_within laws.layouts cs items insns last.bundle last.offset last.slot last.chunk are last.at.there last.slot_there in
    of last.chunk.end (filled_at cs insns last.bundle last.chunk) last.slot within
    (stops.behind last.offset last.slot last.slot_there (let count = put.count in let end = last.last in omega arith)) stops.last
  where
    upto : (b : Bundle) (slot x : ℕ) → ((s : ℕ) → slot ≤ s → s < last_slot b.slots → has_stop b s ≡ false) → slot ≤ x
        → x < suc (last_slot b.slots) → has_stop b x ≡ true → x ≡ last_slot b.slots
    upto b slot x none above less stop = elim (cases_lt x (last_slot b.slots)) [
      | inl h ↦ absurd (let other = none x above h in cc)
      | inr h ↦ (omega arith)
    ]

    of : (end : Bool) (b : Bundle) (slot : ℕ) → slot ≤ last_slot b.slots
        → ((s : ℕ) → slot ≤ s → s < last_slot b.slots → has_stop b s ≡ false) → has_stop b (last_slot b.slots) ≡ end
        → HasStopWhere end b slot (suc (last_slot b.slots))
    of true b slot within none here =
        record {
          slot = last_slot b.slots;
          above = within;
          below = omega arith;
          here = here;
          only = λ x above less stop. upto b slot x none above less stop;
        }
    of false b slot within none here = λ x above less. elim (cases_lt x (last_slot b.slots)) [
      | inl h ↦ none x above h
      | inr h ↦ (let same : x ≡ last_slot b.slots = omega arith in ap (has_stop b) same ∙ here)
    ]

-- Between two of a bundle there is one where one is wanted.
pub stops_to_next : AreStopLaws → (cs : List Chunk) (items : List Item) (insns : List Insn) (n : ℕ) (one : InOne cs n) (x : Wanted)
    → AreChunks cs items → slice_get one.chunk.wanted (suc one.offset) ≡ Some x
    → HasStopWhere x.gap (filled_at cs insns one.bundle one.chunk) one.slot one.other
stops_to_next laws cs items insns n one x are wanted =
    let next = add-one one.offset in
    (stops_of_chunk laws cs items insns one.bundle one.chunk are one.at.there).between one.offset one.slot one.other x one.slot_there
    (ap (slice_get (layout_of one.chunk).1) next ∙ one.other_there) (ap (slice_get one.chunk.wanted) next ∙ wanted)
