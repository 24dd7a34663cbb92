-- The places of bundles in order.
use Rattle.std.proofs.Common.{◌≡◌, ℕ, zero, suc, ◌+◌, ◌<◌, ◌≤◌, inl, inr, List, [], ◌∷◌, length, Option, Some, None, refl, sym, ap, ◌∙◌, subst, arith}
use Rattle.std.proofs.lemmas.Bool.Decides.{nat_tests}
use Rattle.std.specs.Prelude.{IsSome, slice_get}
use Rattle.ia_program.specs.declared.place.Place.{Place}
use Rattle.ia_program.specs.declared.bundle.Slots.{Slots}
use Rattle.ia_program.specs.Bundles.{Bundle, slot_insn, last_slot}
use Rattle.ia_program.specs.Places.{bundle_insn, insn_at, IsPlaceOf, IsBefore, IsNext}

-- A slot has an instruction exactly up to the last.
pub slot_within : (slots : Slots) (slot : ℕ) → IsSome (slot_insn slots slot) → slot ≤ last_slot slots
slot_within slots slot h = grind (arith, nat_tests)

within_slot : (slots : Slots) (slot : ℕ) → slot ≤ last_slot slots → IsSome (slot_insn slots slot)
within_slot slots slot h = grind (arith, nat_tests)

last_small : (slots : Slots) → last_slot slots ≤ 2
last_small slots = grind arith

-- A place lies in a bundle.
pub record LiesIn (bundles : List Bundle) (place : Place) : Type 0 where
  pub bundle : Bundle
  pub is : slice_get bundles place.bundle ≡ Some bundle
  pub within : place.slot ≤ last_slot bundle.slots

get_within : (bundles : List Bundle) (n : ℕ) (b : Bundle) → slice_get bundles n ≡ Some b → n < length bundles
get_within [] n b e = absurd cc
get_within (x ∷ xs) zero b e = omega arith
get_within (x ∷ xs) (suc n) b e = let h = get_within xs n b e in omega arith

pub lies_in : (bundles : List Bundle) (place : Place) → IsPlaceOf bundles place → LiesIn bundles place
unfolding insn_at
lies_in bundles place h = of (slice_get bundles place.bundle) refl h
  where
    of : (o : Option Bundle) → slice_get bundles place.bundle ≡ o → IsSome (bundle_insn o place.slot) → LiesIn bundles place
    of None e h = absurd cc
    of (Some b) e h = record { bundle = b; is = e; within = slot_within b.slots place.slot h }

pub is_place : (bundles : List Bundle) (place : Place) (b : Bundle) → slice_get bundles place.bundle ≡ Some b
    → place.slot ≤ last_slot b.slots → IsPlaceOf bundles place
unfolding insn_at
is_place bundles place b e h = subst (λ (o : Option Bundle). IsSome (bundle_insn o place.slot)) (sym e) (within_slot b.slots place.slot h)

pub bundle_small : (bundles : List Bundle) (place : Place) → IsPlaceOf bundles place → place.bundle < length bundles
bundle_small bundles place h = let l = lies_in bundles place h in get_within bundles place.bundle l.bundle l.is

pub slot_small : (bundles : List Bundle) (place : Place) → IsPlaceOf bundles place → place.slot < 3
slot_small bundles place h = let l = lies_in bundles place h in let s = last_small l.bundle.slots in omega (arith, l.within, s)

pub get_some : (bundles : List Bundle) (n : ℕ) → n < length bundles → (b : Bundle) × (slice_get bundles n ≡ Some b)
get_some [] n h = absurd (omega arith)
get_some (x ∷ xs) zero h = (x, refl)
get_some (x ∷ xs) (suc n) h = get_some xs n (omega arith)

-- A place of a bundle comes no later than its last slot.
not_after_last : (bundles : List Bundle) (n : ℕ) (b : Bundle) (q : Place) → slice_get bundles n ≡ Some b → q.bundle ≡ n
    → IsPlaceOf bundles q → q.slot ≤ last_slot b.slots
not_after_last bundles n b q is at h =
    let l = lies_in bundles q h in
    let e : Some l.bundle ≡ Some b = sym l.is ∙ ap (slice_get bundles) at ∙ is in
    let f : l.bundle ≡ b = cc in
    subst (λ (x : Bundle). q.slot ≤ last_slot x.slots) f l.within

-- The next place, where the bundle has one.
pub next_slot : (bundles : List Bundle) (place : Place) (b : Bundle) → slice_get bundles place.bundle ≡ Some b
    → place.slot < last_slot b.slots → IsNext bundles place (record { bundle = place.bundle; slot = place.slot + 1 })
next_slot bundles place b is h = record {
  is = is_place bundles (record { bundle = place.bundle; slot = place.slot + 1 }) b is (omega arith);
  after = inr (refl, omega arith);
  first = between;
}
  where
    between : (q : Place) → IsPlaceOf bundles q → IsBefore place q → IsBefore q (record { bundle = place.bundle; slot = place.slot + 1 })
        → ⊥
    between q p after before = grind arith

-- The first place of the next bundle, after the last one of a bundle.
pub next_bundle : (bundles : List Bundle) (place : Place) (b : Bundle) → slice_get bundles place.bundle ≡ Some b
    → last_slot b.slots ≤ place.slot → place.bundle + 1 < length bundles
    → IsNext bundles place (record { bundle = place.bundle + 1; slot = 0 })
next_bundle bundles place b is h inside = record {
  is =
      let s = get_some bundles (place.bundle + 1) inside in is_place bundles (record { bundle = place.bundle + 1; slot = 0 }) s.0 s.1
      (omega arith);
  after = inl (omega arith);
  first = between;
}
  where
    between : (q : Place) → IsPlaceOf bundles q → IsBefore place q → IsBefore q (record { bundle = place.bundle + 1; slot = 0 }) → ⊥
    between q p (inl after) (inl before) = omega arith
    between q p (inl after) (inr before) = omega arith
    between q p (inr after) before = let l = not_after_last bundles place.bundle b q is (sym after.0) p in omega arith

-- No place comes after the last one.
pub no_next : (bundles : List Bundle) (place : Place) (b : Bundle) → slice_get bundles place.bundle ≡ Some b
    → last_slot b.slots ≤ place.slot → length bundles ≤ place.bundle + 1 → (q : Place) → IsPlaceOf bundles q → IsBefore place q → ⊥
no_next bundles place b is h end q p (inl after) = let s = bundle_small bundles q p in omega arith
no_next bundles place b is h end q p (inr after) = let l = not_after_last bundles place.bundle b q is (sym after.0) p in omega arith

get_beyond : (bundles : List Bundle) (n : ℕ) → slice_get bundles n ≡ None → length bundles ≤ n
get_beyond [] n e = omega arith
get_beyond (x ∷ xs) zero e = absurd cc
get_beyond (x ∷ xs) (suc n) e = let h = get_beyond xs n e in omega arith

pub none_beyond : (bundles : List Bundle) (place : Place) → slice_get bundles place.bundle ≡ None → (q : Place) → IsPlaceOf bundles q
    → IsBefore place q → ⊥
none_beyond bundles place none q p (inl after) =
    let s = bundle_small bundles q p in let l = get_beyond bundles place.bundle none in omega arith
none_beyond bundles place none q p (inr after) =
    let s = bundle_small bundles q p in let l = get_beyond bundles place.bundle none in omega arith
