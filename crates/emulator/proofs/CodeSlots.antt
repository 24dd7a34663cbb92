-- Slots and places by numbers.
use Rattle.std.proofs.Common.{◌≡◌, ℕ, ◌*◌, ◌<◌, ◌≤◌, ◌^◌, ◌⊎◌, inl, inr, List, length, get_or, Option, Some, None, refl, sym, subst, arith}
use Rattle.std.proofs.lemmas.Bool.{cases_lt}
use Rattle.std.proofs.lemmas.Bool.Decides.{nat_tests}
use Rattle.std.specs.Prelude.{IfSome, IsSome}
use Rattle.ia_program.specs.declared.place.Place.{Place}
use Rattle.ia_program.specs.Places.{place_number, place_at, IsPlaceOf}
use Rattle.ia_program.specs.Programs.{Program, IsProgram}
use Rattle.ia_program.proofs.InOrder.{bundle_small, slot_small}
use Rattle.ia_program.proofs.Reaching.{place_at-number}
use Rattle.ia_meaning.specs.Sequence.{next_of}
use Rattle.ia_meaning.proofs.Follows.{next_is}
use Rattle.slot_table.specs.declared.slot.Slot.{Slot}
use Rattle.slot_table.specs.Slots.{slot_at}
use Rattle.slot_table.proofs.SlotLaws.{slot_is}
use Rattle.emulator.specs.declared.code.TheConstants.{NO_PLACE}
use Rattle.emulator.specs.declared.code.CodeSlot.{CodeSlot}
use Rattle.emulator.specs.Codes.{number_of, numbered, no_slot, IsCodeSlot}

-- The numbers of the places of a program.
pub number_small : (p : Program) (n : ℕ) → IsProgram p → IsPlaceOf p.bundles (place_at n) → n < 3 * length p.bundles
number_small p n program is = let small = bundle_small p.bundles (place_at n) is in omega arith

-- are few.
pub number_below : (p : Program) (n : ℕ) → IsProgram p → IsPlaceOf p.bundles (place_at n) → n < 2 ^ 32
number_below p n program is = let small = number_small p n program is in omega (arith, program.counts.bundles)

-- The place, where there is one, is of a slot of a bundle, and its number isn't the one that stands for no place.
abbrev pub IsNumbered : Option Place → Type 0
IsNumbered o = IfSome o (λ place. (place.slot < 3) × (place_number place < NO_PLACE))

pub next_numbered : (p : Program) (place : Place) (o : Option Place) → IsProgram p → next_of p.bundles place ≡ o → IsNumbered o
next_numbered p place None program e = tt
next_numbered p place (Some next) program e =
    let is = (next_is p.bundles place next e).is in
    let bundle = bundle_small p.bundles next is in
    let slot = slot_small p.bundles next is in
    (slot, omega (arith, program.counts.bundles))

-- The next place of a slot is of a slot of a bundle, and its number isn't the one that stands for no place.
pub slot_next : (p : Program) (n : ℕ) (slot : Slot) → IsProgram p → slot_at p.bundles (place_at n) ≡ Some slot → IsNumbered slot.next
slot_next p n slot program at =
    let s = slot_is p.bundles (place_at n) slot at in
    subst (λ (x : Slot). IsNumbered x.next) s.is (next_numbered p (place_at n) (next_of p.bundles (place_at n)) program refl)

pub below_none : (o : Option Place) → IsNumbered o → IfSome o (λ place. place_number place < NO_PLACE)
below_none None h = tt
below_none (Some place) h = h.1

-- The place with the number of a place is that.
pub numbered_back : (o : Option Place) → IsNumbered o → numbered (number_of o) ≡ o
numbered_back None h = refl
numbered_back (Some place) h = let e = place_at-number place h.0 in grind (arith, nat_tests, h.1)

-- The list of the slots of all places says of each number what stands there.
pub all_code_slots : (p : Program) (list : List CodeSlot) → length list ≡ 3 * length p.bundles
    → ((n : ℕ) → n < length list → IsCodeSlot p.bundles n (get_or list n no_slot)) → (n : ℕ)
    → IsCodeSlot p.bundles n (get_or list n no_slot)
all_code_slots p list count each n = by_end (cases_lt n (length list))
  where
    by_end : (n < length list) ⊎ (length list ≤ n) → IsCodeSlot p.bundles n (get_or list n no_slot)
    by_end (inl inside) = each n inside
    by_end (inr beyond) = λ slot at.
        let s = slot_is p.bundles (place_at n) slot at in
        let small = bundle_small p.bundles (place_at n) (subst IsSome (sym s.here) refl) in
        absurd (omega (arith, count))
