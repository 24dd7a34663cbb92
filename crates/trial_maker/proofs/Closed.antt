-- Bundles that don't reach one another make a program.
use Rattle.std.proofs.Common.{◌≡◌, ◌⊎◌, ℕ, ◌+◌, ◌<◌, ◌≤◌, inl, inr, List, [], ◌∷◌, length, Option, Some, None, subst, sym, refl, arith}
use Rattle.std.proofs.lemmas.Bool.{cases_lt}
use Rattle.std.specs.Prelude.{IfSome, IsSomeAnd, slice_get}
use Rattle.ia_insn.specs.declared.insn.Insn.{Insn}
use Rattle.ia_insn.specs.Displacements.{displacement}
use Rattle.ia_program.specs.declared.limits.TheConstants.{BUNDLE_LIMIT}
use Rattle.ia_program.specs.declared.place.Place.{Place}
use Rattle.ia_program.specs.Bundles.{Bundle, IsBundle, slot_insn, last_slot, IsStopAfter}
use Rattle.ia_program.specs.Places.{bundle_insn, insn_at, IsPlaceOf, IsBefore, IsNext, EachPlace}
use Rattle.ia_program.specs.Runs.{EndsRun, StandBefore, IsWithinRun}
use Rattle.ia_program.specs.Targets.{IsBundleAt, IsTargetInside}
use Rattle.ia_program.specs.Programs.{IsProgram}
use Rattle.ia_program.proofs.InOrder.{lies_in, is_place, slot_small}

-- The bundle's instructions fit, none of them has a target, and a stop follows the third.
pub record IsClosed (b : Bundle) : Type 0 where
  pub fit : IsBundle b
  pub three : last_slot b.slots ≡ 2
  pub stop : IsStopAfter b.template b.slots 2
  pub free : (slot : ℕ) → IfSome (slot_insn b.slots slot) (λ i. displacement i.op ≡ None)

-- Each of the bundles is closed.
abbrev pub AreClosed : List Bundle → Type 0
AreClosed bundles = (n : ℕ) → IfSome (slice_get bundles n) IsClosed

closed_at : (bundles : List Bundle) → AreClosed bundles → (n : ℕ) (b : Bundle) → slice_get bundles n ≡ Some b → IsClosed b
closed_at bundles closed n b e = let P : Option Bundle → Type 0 = λ o. IfSome o IsClosed in subst P e (closed n)

-- A run ends at each slot 2.
ends_at_2 : (bundles : List Bundle) → AreClosed bundles → (place : Place) → IsPlaceOf bundles place → 2 ≤ place.slot → EndsRun bundles place
ends_at_2 bundles closed place is h =
    let l = lies_in bundles place is in
    let small = slot_small bundles place is in
    let at : 2 ≡ place.slot = omega arith in
    let stop = subst (IsStopAfter l.bundle.template l.bundle.slots) at (closed_at bundles closed place.bundle l.bundle l.is).stop in
    inl (subst (λ (o : Option Bundle). IsSomeAnd o (λ b. IsStopAfter b.template b.slots place.slot)) (sym l.is) stop)

-- The slot after one that doesn't end a run is of the same bundle.
same_bundle : (bundles : List Bundle) → AreClosed bundles → (place next : Place) → IsPlaceOf bundles place → ¬ EndsRun bundles place
    → IsNext bundles place next → place.slot < next.slot
same_bundle bundles closed place next is on follows = of (cases_lt place.slot 2) follows.after
  where
    of : (place.slot < 2) ⊎ (2 ≤ place.slot) → IsBefore place next → place.slot < next.slot
    of (inr last) before = absurd (on (ends_at_2 bundles closed place is last))
    of (inl less) (inr same) = same.1
    of (inl less) (inl later) =
        let l = lies_in bundles place is in
        let three = (closed_at bundles closed place.bundle l.bundle l.is).three in
        let q : Place = record { bundle = place.bundle; slot = place.slot + 1 } in
        absurd (follows.first q (is_place bundles q l.bundle l.is (omega arith)) (inr (refl, omega arith)) (inl later))

-- At most two slots of a run stand before another.
few_before : (bundles : List Bundle) → AreClosed bundles → (slots : List Place) (place : Place) → StandBefore bundles slots place
    → length slots ≤ place.slot
few_before bundles closed [] place stand = omega arith
few_before bundles closed (p ∷ ps) place stand =
    omega (arith, few_before bundles closed ps p stand.3, same_bundle bundles closed p place stand.0 stand.2 stand.1)

within_run : (bundles : List Bundle) → AreClosed bundles → EachPlace bundles (IsWithinRun bundles)
within_run bundles closed place is slots stand =
    omega (arith, few_before bundles closed slots place stand, slot_small bundles place is)

-- No place has a target.
none_inside : (bundles : List Bundle) → AreClosed bundles → EachPlace bundles (IsTargetInside bundles)
unfolding insn_at
none_inside bundles closed place is = of_bundle (slice_get bundles place.bundle) (closed place.bundle)
  where
    of_insn : (o : Option Insn) → IfSome o (λ i. displacement i.op ≡ None)
        → IfSome o (λ i. IfSome (displacement i.op) (IsBundleAt (length bundles) place.bundle))
    of_insn None free = tt
    of_insn (Some i) free = rw free tt

    of_bundle : (o : Option Bundle) → IfSome o IsClosed → IfSome (bundle_insn o place.slot)
        (λ i. IfSome (displacement i.op) (IsBundleAt (length bundles) place.bundle))
    of_bundle None c = tt
    of_bundle (Some b) c = of_insn (slot_insn b.slots place.slot) (c.free place.slot)

pub closed_program : (bundles : List Bundle) → AreClosed bundles → 1 ≤ length bundles → length bundles ≤ BUNDLE_LIMIT
    → IsProgram (record { bundles = bundles; entries = []; bytes = []; relations = [] })
closed_program bundles closed some most = record {
  fit = λ n. fit (slice_get bundles n) (closed n);
  counts = record { some = some; bundles = most; entries = omega arith; bytes = omega arith; words = refl; relations = omega arith };
  entries = λ n h. absurd (omega arith);
  targets = none_inside bundles closed;
  runs = within_run bundles closed;
  bytes = λ i. omega arith;
  relations = λ n h. absurd (omega arith);
}
  where
    fit : (o : Option Bundle) → IfSome o IsClosed → IfSome o IsBundle
    fit None c = tt
    fit (Some b) c = c.fit
