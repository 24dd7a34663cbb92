-- Bundles of which no long stretch is without a stop have short runs of slots.
use Rattle.std.proofs.Common.{arith, ◌≡◌, ℕ, suc, ◌+◌, ◌-◌, ◌<◌, ◌≤◌, ◌⊎◌, inl, inr, refl, sym, ◌∙◌, ap, subst, Bool, true, false, not, ◌&&◌, List, [], ◌∷◌, length, Option, Some, None, IsSome, slice_get}
use Rattle.std.specs.Prelude.{IsSomeAnd}
use Rattle.std.proofs.lemmas.Option.{slice_get_within}
use Rattle.ia_insn.specs.declared.insn.Insn.{Insn}
use Rattle.ia_program.specs.declared.limits.TheConstants.{RUN_LIMIT}
use Rattle.ia_program.specs.declared.place.Place.{Place}
use Rattle.ia_program.specs.Bundles.{Bundle, slot_insn, last_slot}
use Rattle.ia_program.specs.Places.{bundle_insn, insn_at, IsPlaceOf, place_number}
use Rattle.ia_program.specs.Runs.{EndsRun, IsWithinRun}
use Rattle.ia_program.proofs.InOrder.{lies_in, is_place, bundle_small, slot_small}
use Rattle.ia_meaning.specs.Sequence.{is_stopped, stopped_in, StopTest}
use Rattle.slot_layouts.specs.declared.layout.Wanted.{Wanted}
use Rattle.slot_layouts.specs.Filled.{filled}
use Rattle.slot_layouts.specs.Laws.{has_stop, HasStopWhere, HasOneStop, HoldsInOrder, HasStopsAsWanted, LaidOutHasStopsAsWanted}
use Rattle.loose_text.specs.LooseTexts.{Loose}
use Rattle.bundling.specs.declared.chunk.TheConstants.{QUIET_LIMIT}
use Rattle.bundling.specs.Chunk.{Chunk}
use Rattle.bundling.specs.Chunks.{AreChunksOf, has_no_gap, is_quiet, HasNoLongQuiet}
use Rattle.bundling.specs.Bundled.{layout_of, bundle_of, targeted, program_of}
use Rattle.bundling.proofs.Lists.{element}
use Rattle.bundling.proofs.Locating.{AreLayouts, part_of, in_bundle, put_at, bundle_at, length-bundles}
use Rattle.bundling.proofs.Runs.{few_stand, near_goes_on}

-- A gap that is wanted inside a bundle.
record HasGap (ws : List Wanted) : Type 0 where
  pub before : ℕ
  pub wanted : Wanted
  pub there : slice_get ws (suc before) ≡ Some wanted
  pub gap : wanted.gap ≡ true

gap_there : (ws : List Wanted) → has_no_gap ws ≡ false → HasGap ws
gap_there [] h = absurd (cc)
gap_there (w ∷ []) h = absurd (cc)
gap_there (w ∷ x ∷ ws) h = of x.gap refl h (gap_there (x ∷ ws))
  where
    of : (gap : Bool) → x.gap ≡ gap → (not gap && has_no_gap (x ∷ ws)) ≡ false → (has_no_gap (x ∷ ws) ≡ false → HasGap (x ∷ ws))
        → HasGap (w ∷ x ∷ ws)
    of true is h later = record { before = 0; wanted = x; there = refl; gap = is }
    of false is h later =
        let rest = later h in
        record { before = suc rest.before; wanted = rest.wanted; there = rest.there; gap = rest.gap }

-- A stop of a bundle with a place from there on.
record HasStop (b : Bundle) : Type 0 where
  pub slot : ℕ
  pub place : ℕ
  pub within : slot ≤ place
  pub is : IsSome (slot_insn b.slots place)
  pub stop : has_stop b slot ≡ true

last_is_place : (b : Bundle) → IsSome (slot_insn b.slots (last_slot b.slots))
last_is_place b = grind arith

-- A bundle that isn't quiet has one.
stop_inside : (c : Chunk) (code : ℕ) (ks : List ℕ) (is : List Insn) → HoldsInOrder c.wanted code ks is
    → HasStopsAsWanted c.wanted c.end ks (filled code ks is)
    → has_no_gap c.wanted ≡ false → HasStop (filled code ks is)
stop_inside c code ks is holds stops h =
    let gap = gap_there c.wanted h in
    let less : suc gap.before < length c.wanted = slice_get_within c.wanted (suc gap.before) gap.wanted gap.there in
    let count = holds.count in
    let first = element ks gap.before (omega arith) in
    let second = element ks (suc gap.before) (omega arith) in
    let next : suc gap.before ≡ gap.before + 1 = omega arith in
    let between : HasStopWhere gap.wanted.gap (filled code ks is) first.0 second.0 =
    stops.between gap.before first.0 second.0 gap.wanted first.1 (subst (λ n. slice_get ks n ≡ Some second.0) next second.1)
    (subst (λ n. slice_get c.wanted n ≡ Some gap.wanted) next gap.there) in
    let one : HasOneStop (filled code ks is) first.0 second.0 =
    subst (λ wanted. HasStopWhere wanted (filled code ks is) first.0 second.0) gap.gap between in
    let below = one.below in
    record {
      slot = one.slot;
      place = second.0;
      within = omega (arith, below);
      is = holds.places (suc gap.before) second.0 second.1;
      stop = one.here;
    }

stop_there : (c : Chunk) (code : ℕ) (ks : List ℕ) (is : List Insn) → HoldsInOrder c.wanted code ks is
    → HasStopsAsWanted c.wanted c.end ks (filled code ks is)
    → is_quiet c ≡ false → HasStop (filled code ks is)
stop_there c code ks is holds stops h = of c.end refl h
  where
    of : (end : Bool) → c.end ≡ end → (not end && has_no_gap c.wanted) ≡ false → HasStop (filled code ks is)
    of true ends h =
        let b = filled code ks is in
        record { slot = last_slot b.slots; place = last_slot b.slots; within = omega arith; is = last_is_place b; stop = stops.last ∙ ends }
    of false ends h = stop_inside c code ks is holds stops h

-- The end of a run in a bundle.
record HasEnd (bundles : List Bundle) (k : ℕ) : Type 0 where
  pub slot : ℕ
  pub is : IsPlaceOf bundles (in_bundle k slot)
  pub ends : EndsRun bundles (in_bundle k slot)

end_there : StopTest → (bundles : List Bundle) (k : ℕ) (b : Bundle) → slice_get bundles k ≡ Some b → HasStop b → HasEnd bundles k
unfolding insn_at is_stopped
end_there test bundles k b there stop =
    let later : IsPlaceOf bundles (in_bundle k stop.place) =
    subst (λ (o : Option Bundle). IsSome (bundle_insn o stop.place)) (sym there) stop.is in
    let lies = lies_in bundles (in_bundle k stop.place) later in
    let within = lies.within in
    let below = stop.within in
    let stopped : is_stopped bundles (in_bundle k stop.slot) ≡ true = ap (λ o. stopped_in o stop.slot) there ∙ stop.stop in
    record {
      slot = stop.slot;
      is = is_place bundles (in_bundle k stop.slot) lies.bundle lies.is (omega (arith, within, below));
      ends = inl ((test bundles (in_bundle k stop.slot)).0 stopped);
    }

chunk_there : (o : Option Chunk) → IsSomeAnd o (λ c. is_quiet c ≡ false) → (c : Chunk) × (o ≡ Some c) × (is_quiet c ≡ false)
chunk_there None h = absurd h
chunk_there (Some c) h = (c, refl, h)

few_or_many : (a b : ℕ) → (a < b) ⊎ (b ≤ a)
few_or_many a b = grind arith

-- Each run is within its limit.
pub runs_short : AreLayouts → LaidOutHasStopsAsWanted → StopTest → (s : Loose) (cs : List Chunk) → AreChunksOf s cs → HasNoLongQuiet cs
    → (place : Place)
    → IsPlaceOf (program_of s cs).bundles place → IsWithinRun (program_of s cs).bundles place
runs_short laws stops test s cs are quiet place is slots stands = of (few_or_many (length slots) RUN_LIMIT)
  where
    of : (length slots < RUN_LIMIT) ⊎ (RUN_LIMIT ≤ length slots) → length slots < RUN_LIMIT
    of (inl few) = few
    of (inr many) =
        let insns = targeted (bundle_of cs) s in
        let count : length (program_of s cs).bundles ≡ length cs = length-bundles cs insns in
        let inside : place.bundle < length (program_of s cs).bundles = bundle_small (program_of s cs).bundles place is in
        let small : place.slot < 3 = slot_small (program_of s cs).bundles place is in
        let numbered : length slots ≤ place_number place = few_stand (program_of s cs).bundles slots place stands in
        let far : QUIET_LIMIT ≤ place.bundle = omega (arith, many, numbered, small) in
        let some = quiet (place.bundle - QUIET_LIMIT) (omega (arith, far, inside, count)) in
        let chunk = chunk_there (slice_get cs some.0) some.3 in
        let put = put_at laws cs s.items some.0 chunk.0 are.chunks chunk.1 in
        let layout = layout_of chunk.0 in
        let part = part_of cs some.0 chunk.0 insns in
        let holds = laws.holds chunk.0.wanted chunk.0.end layout.0 layout.1 part put.laid in
        let wanted = stops chunk.0.wanted chunk.0.end layout.0 layout.1 part put.laid in
        let end =
        end_there test (program_of s cs).bundles some.0 (filled layout.0 layout.1 part) (bundle_at cs insns some.0 chunk.0 chunk.1)
        (stop_there chunk.0 layout.0 layout.1 part holds wanted chunk.2) in
        let before : some.0 < place.bundle = omega (arith, some.2, far) in
        let near : place_number place ≤ place_number (in_bundle some.0 end.slot) + length slots = omega (arith, some.1, far, many, small) in
        absurd (near_goes_on (program_of s cs).bundles slots place (in_bundle some.0 end.slot) stands end.is (inl before) near end.ends)
