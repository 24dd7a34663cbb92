-- The program of a packing has no violation, and has one without a stop that stands for a pair.
use Rattle.std.proofs.Common.{◌≡◌, ◌≤◌, ◌<◌, ◌+◌, ◌⊎◌, inl, inr, ℕ, Bool, true, false, not, ◌&&◌, ◌==◌, List, [], ◌∷◌, take, length, get_or, refl, sym, ap, ◌∙◌, subst, arith}
use Rattle.std.specs.Prelude.{Option, Some, None, is_some, slice_get}
use Rattle.std.proofs.lemmas.Bool.{cases_eq, cases_lt, cases_order}
use Rattle.std.proofs.lemmas.Bool.Decides.{nat_tests}
use Rattle.std.proofs.lemmas.List.{length_push, get_or_append_left}
use Rattle.std.proofs.lemmas.Option.{slice_get_within, get_or_from_slice_get}
use Rattle.ia_program.specs.declared.limits.TheConstants.{BUNDLE_LIMIT}
use Rattle.ia_program.specs.declared.place.Place.{Place}
use Rattle.ia_program.specs.Places.{IsBefore}
use Rattle.ia_program.specs.Programs.{Program, IsProgram}
use Rattle.ia_program.proofs.Reaching.{same_place}
use Rattle.ia_meaning.specs.Sequence.{first_of, is_stopped}
use Rattle.predicate_rel.specs.declared.edge.Edge.TheVariants.{Falls}
use Rattle.flow_facts.specs.Graphs.{InsnSequence, over_program, over_sequence, IsEdgeIn}
use Rattle.flow_facts.specs.Walks.{end_of}
use Rattle.order_laws.specs.declared.violation.Violation.{Violation}
use Rattle.order_laws.specs.Violations.{ViolatesIn}
use Rattle.order_laws.specs.Violations.{HasNoViolation}
use Rattle.group_checker.specs.WindowLaws.{AgreeBefore}
use Rattle.order_laws.proofs.Falling.{before_trans, not_before_itself, place_cases, comes_from}
use Rattle.group_checker.proofs.Stops.{violations_agree}
use Rattle.sequence_laws.specs.Spreads.{IsSpread, IsBetween, AreStops}
use Rattle.sequence_laws.proofs.Rows.{sequence_fall_is, sequence_walk_place}
use Rattle.sequence_laws.proofs.InTheSequence.{violated_in_the_sequence}
use Rattle.sequence_laws.proofs.InTheProgram.{violated_in_the_program}
use Rattle.loose_text.specs.LooseTexts.{Loose, IsLoose}
use Rattle.bundling.specs.Bundled.{sequence_of, place_of, program_of}
use Rattle.bundling.specs.Chunk.{Chunk}
use Rattle.bundling.specs.Chunks.{AreChunksOf}
use Rattle.bundling.specs.Laws.{sequence_stop, HasStopsApart}
use Rattle.bundling.proofs.Lists.{slice_get-append_left, slice_get-append_right, element}
use Rattle.bundling.proofs.Targeting.{length-targeted}
use Rattle.stop_placer.specs.declared.packing.Cause.{Cause}
use Rattle.stop_placer.specs.declared.packing.Cause.TheVariants.{Pair}
use Rattle.stop_placer.specs.Packings.{Packing}
use Rattle.stop_placer.specs.Packs.{stopped_by, IsPairAt, IsPack, end_cause, ends_written, all_causes, all_chunks}
use Rattle.stop_placer.specs.Placing.{without_stop}
use Rattle.stop_placer.proofs.BundleLaws.{bundled_is_program, quiet_is_short, bundled_is_spread, bundled_has_stops, bundled_has_one_stop, bundled_keeps_slot_rules}
use Rattle.stop_placer.proofs.PackChunks.{pack_are_chunks, pack_is_quiet, pack_causes}
use Rattle.stop_placer.proofs.Decided.{decided_at, sequence_stop_is, front_agrees}

-- The sequence has each of the text's instructions.
pub sequence_length : (s : Loose) → IsLoose s → length (sequence_of s).insns ≡ length s.items
sequence_length s is = length-targeted (λ n. n) 0 s.items s.targets is.targets

-- The bundles of a packing are a program.
pub pack_is_program : (s : Loose) (k : Packing) → IsLoose s → IsPack s k → length (all_chunks s k) ≤ BUNDLE_LIMIT
    → IsProgram (program_of s (all_chunks s k))
pack_is_program s k is pack few =
    let chunks = pack_are_chunks s k is pack few in
    bundled_is_program s (all_chunks s k) is chunks (quiet_is_short s (all_chunks s k) is chunks (pack_is_quiet s k pack))

-- How a violation of a sequence comes about: by a fall from the instruction before, behind which no stop stands.
record IsFallenTo (sequence : InsnSequence) (has_stop : Place → Bool) (second : Place) : Type 0 where
  number : ℕ
  inside : number + 1 < length sequence.insns
  is : second ≡ first_of (number + 1)
  unstopped : has_stop (first_of number) ≡ false

fallen_to : (sequence : InsnSequence) (has_stop : Place → Bool) (u : Violation) → ViolatesIn (over_sequence sequence) has_stop u
    → IsFallenTo sequence has_stop u.second
fallen_to sequence has_stop u x =
    let from = comes_from (over_sequence sequence) has_stop x.walk u.first x.there.walks x.inside in
    let numbered = sequence_walk_place sequence from.before from.walks in
    let fall =
    sequence_fall_is sequence numbered.number (end_of x.walk) (subst
    (λ (k : Place). IsEdgeIn (over_sequence sequence) k Falls (end_of x.walk)) numbered.is from.edge) in
    record {
      number = numbered.number;
      inside = fall.inside;
      is = sym x.there.ends ∙ fall.leads;
      unstopped = ap has_stop (sym numbered.is) ∙ from.unstopped;
    }

module _ (s : Loose) (k : Packing) (is : IsLoose s) (pack : IsPack s k) where
  -- The gap behind the n-th instruction, with another one behind it.
  record IsGap (n : ℕ) : Type 0 where
    cause : Option Cause
    room : n < length k.causes
    there : slice_get k.causes n ≡ Some cause
    of_all : get_or (all_causes s k) n None ≡ cause

  gap_at : (n : ℕ) → n + 1 < length s.items → IsGap n
  gap_at n inside =
      let end = end_cause (ends_written s.items) in
      let room : n < length k.causes = omega (arith, pack_causes s k pack, length_push k.causes end) in
      let found = element k.causes n room in
      record {
        cause = found.0;
        room = room;
        there = found.1;
        of_all = get_or_append_left k.causes (end ∷ []) None n room ∙ get_or_from_slice_get k.causes n found.0 None found.1;
      }

  -- A violation at an instruction is one under the causes before its gap, where this has no stop.
  pair_of : (n : ℕ) (has_stop : Place → Bool) (u : Violation) → n ≤ length k.causes
      → ((place : Place) → place.bundle < n → has_stop place ≡ stopped_by (all_causes s k) place)
      → ((place : Place) → place.bundle ≡ n → has_stop place ≡ false) → ViolatesIn (over_sequence (sequence_of s)) has_stop u
      → u.second ≡ first_of (n + 1) → IsPairAt s (take n k.causes) (n + 1)
  pair_of n has_stop u room before here x second =
      let agree = front_agrees k.causes (end_cause (ends_written s.items) ∷ []) n has_stop room before here in (
        u,
        violations_agree (over_sequence (sequence_of s)) has_stop (stopped_by (take n k.causes)) u
            (subst (λ (q : Place). AgreeBefore q has_stop (stopped_by (take n k.causes))) (sym second) agree) x,
        second,
      )

  sequence_free : (u : Violation) → ¬ ViolatesIn (over_sequence (sequence_of s)) (sequence_stop (all_chunks s k)) u
  sequence_free u x =
      let fallen = fallen_to (sequence_of s) (sequence_stop (all_chunks s k)) u x in
      let n = fallen.number in
      let inside : n + 1 < length s.items = subst (λ (m : ℕ). n + 1 < m) (sequence_length s is) fallen.inside in
      let gap = gap_at n inside in
      let quiet : is_some gap.cause ≡ false =
      ap is_some (sym gap.of_all) ∙ sym (sequence_stop_is s k (first_of n) pack) ∙ fallen.unstopped in
      (decided_at s k n gap.cause pack gap.there).none (no_cause gap.cause quiet)
      (pair_of n (sequence_stop (all_chunks s k)) u (let room = gap.room in omega arith) (λ place less. sequence_stop_is s k place pack)
      (λ place e. sequence_stop_is s k place pack ∙ ap (λ (m : ℕ). is_some (get_or (all_causes s k) m None)) e ∙ ap is_some gap.of_all
      ∙ quiet) x fallen.is)
    where
      no_cause : (c : Option Cause) → is_some c ≡ false → c ≡ None
      no_cause None e = refl
      no_cause (Some c) e = absurd cc

pub pack_has_no_violation : (s : Loose) (k : Packing) → IsLoose s → IsPack s k → length (all_chunks s k) ≤ BUNDLE_LIMIT
    → HasNoViolation (program_of s (all_chunks s k))
pack_has_no_violation s k is pack few v x =
    let cs = all_chunks s k in
    let chunks = pack_are_chunks s k is pack few in
    let u =
    violated_in_the_sequence (sequence_of s) (program_of s cs) (place_of cs) (sequence_stop cs) (is_stopped (program_of s cs).bundles)
    (pack_is_program s k is pack few) (bundled_is_spread s cs is chunks)
    (bundled_has_stops s cs is chunks) (bundled_keeps_slot_rules s cs is chunks) v x in
    sequence_free s k is pack u.0 u.1

-- What is before the next instruction is before each later one.
not_from_later : (sequence : InsnSequence) (p : Program) (at : ℕ → Place) (m n : ℕ) (x : Place) → IsSpread sequence p at → m < n
    → n < length sequence.insns → IsBefore x (at (m + 1)) → ¬ IsBefore x (at n) → ⊥
not_from_later sequence p at m n x spread less inside below from = of (cases_lt (m + 1) n)
  where
    of : (m + 1 < n) ⊎ (n ≤ m + 1) → ⊥
    of (inl h) = from (before_trans x (at (m + 1)) (at n) below (spread.rises (m + 1) n h inside))
    of (inr h) = from (subst (λ (c : ℕ). IsBefore x (at c)) (let same : m + 1 ≡ n = omega arith in same) below)

-- A place between two neighbours is between no other two.
between_one : (sequence : InsnSequence) (p : Program) (at : ℕ → Place) (m n : ℕ) (x : Place) → IsSpread sequence p at
    → m + 1 < length sequence.insns → n + 1 < length sequence.insns → IsBetween p at m x → IsBetween p at n x → m ≡ n
between_one sequence p at m n x spread inside room one two = of (cases_order m n)
  where
    of : (m ≡ n) ⊎ ((m < n) ⊎ (n < m)) → m ≡ n
    of (inl e) = e
    of (inr (inl h)) = absurd (not_from_later sequence p at m n x spread h (omega arith) one.below two.from)
    of (inr (inr h)) = absurd (not_from_later sequence p at n m x spread h (omega arith) two.below one.from)

-- The stops but for the one behind a place.
without_here : (p : Program) (q place : Place) → place ≡ q → without_stop p q place ≡ false
without_here p q place e = of (is_stopped p.bundles place) (place.bundle == q.bundle) (place.slot == q.slot) refl refl
  where
    of : (a b c : Bool) → (place.bundle == q.bundle) ≡ b → (place.slot == q.slot) ≡ c → (a && not (b && c)) ≡ false
    of false b c x y = refl
    of true true true x y = refl
    of true false c x y = let same : place.bundle ≡ q.bundle = ap (λ (k : Place). k.bundle) e in absurd (grind (arith, nat_tests))
    of true true false x y = let same : place.slot ≡ q.slot = ap (λ (k : Place). k.slot) e in absurd (grind (arith, nat_tests))

-- At another place there are those of the program.
pub without_elsewhere : (p : Program) (q place : Place) → (place ≡ q → ⊥) → without_stop p q place ≡ is_stopped p.bundles place
without_elsewhere p q place other = of (is_stopped p.bundles place) (place.bundle == q.bundle) (place.slot == q.slot) refl refl
  where
    of : (a b c : Bool) → (place.bundle == q.bundle) ≡ b → (place.slot == q.slot) ≡ c → (a && not (b && c)) ≡ a
    of false b c x y = refl
    of true false c x y = refl
    of true true false x y = refl
    of true true true x y = absurd (other (same_place place q bundle slot))
      where
        bundle : place.bundle ≡ q.bundle
        bundle = grind (arith, nat_tests)

        slot : place.slot ≡ q.slot
        slot = grind (arith, nat_tests)

-- The sequence's stops but for the one behind the n-th instruction.
abbrev but_for : ℕ → (Place → Bool) → Place → Bool
but_for n has_stop place = has_stop place && not (place.bundle == n)

but_for_here : (n : ℕ) (has_stop : Place → Bool) (place : Place) → place.bundle ≡ n → but_for n has_stop place ≡ false
but_for_here n has_stop place e = of (has_stop place) (place.bundle == n) refl
  where
    of : (a b : Bool) → (place.bundle == n) ≡ b → (a && not b) ≡ false
    of false b x = refl
    of true true x = refl
    of true false x = absurd (grind (arith, nat_tests))

but_for_elsewhere : (n : ℕ) (has_stop : Place → Bool) (place : Place) → (place.bundle ≡ n → ⊥) → but_for n has_stop place ≡ has_stop place
but_for_elsewhere n has_stop place other = of (has_stop place) (place.bundle == n) refl
  where
    of : (a b : Bool) → (place.bundle == n) ≡ b → (a && not b) ≡ a
    of false b x = refl
    of true false x = refl
    of true true x = absurd (other (grind (arith, nat_tests)))

-- Without one stop of the program the sequence has its stops but for that.
stops_without : (sequence : InsnSequence) (p : Program) (at : ℕ → Place) (has_stop : Place → Bool) (n : ℕ) (q : Place)
    → IsSpread sequence p at → AreStops sequence p at has_stop (is_stopped p.bundles) → HasStopsApart p at
    → n + 1 < length sequence.insns → IsBetween p at n q → is_stopped p.bundles q ≡ true
    → AreStops sequence p at (but_for n has_stop) (without_stop p q)
stops_without sequence p at has_stop n q spread stops one room between stopped = record {
  stopped = λ m inside e.
      let other : m ≡ n → ⊥ = λ f. let gone = but_for_here n has_stop (first_of m) f in absurd cc in
      let found = stops.stopped m inside (sym (but_for_elsewhere n has_stop (first_of m) other) ∙ e) in (
        found.0,
        found.1,
        without_elsewhere p q found.0 (λ f. other
            (between_one sequence p at m n q spread inside room (subst (IsBetween p at m) f found.1) between)) ∙ found.2,
      );
  unstopped = λ m inside e place there. of m (cases_eq m n) inside e place there;
}
  where
    of : (m : ℕ) → (m ≡ n) ⊎ (m ≡ n → ⊥) → m + 1 < length sequence.insns → but_for n has_stop (first_of m) ≡ false → (place : Place)
        → IsBetween p at m place → without_stop p q place ≡ false
    of m (inl e) inside quiet place there = by (is_stopped p.bundles place) refl
      where
        by : (b : Bool) → is_stopped p.bundles place ≡ b → without_stop p q place ≡ false
        by true s = without_here p q place (one.one n place q (subst (λ (a : ℕ). IsBetween p at a place) e there) between s stopped)
        by false s = rw s refl
    of m (inr other) inside none place there =
        let quiet = stops.unstopped m inside (sym (but_for_elsewhere n has_stop (first_of m) other) ∙ none) place there in rw quiet refl

-- A pair stands at a gap between two instructions.
pair_inside : (s : Loose) (k : Packing) (n : ℕ) → slice_get (all_causes s k) n ≡ Some (Some Pair)
    → (n < length k.causes) × (slice_get k.causes n ≡ Some (Some Pair))
pair_inside s k n there = of (cases_lt n (length k.causes))
  where
    end : Option Cause
    end = end_cause (ends_written s.items)

    no_pair : (b : Bool) → Some (end_cause b) ≡ Some (Some Pair) → ⊥
    no_pair true e = cc
    no_pair false e = cc

    of : (n < length k.causes) ⊎ (length k.causes ≤ n) → (n < length k.causes) × (slice_get k.causes n ≡ Some (Some Pair))
    of (inl less) = (less, sym (slice_get-append_left k.causes (end ∷ []) n less) ∙ there)
    of (inr up) =
        let same : length k.causes + 0 ≡ n =
        omega (arith, slice_get_within (all_causes s k) n (Some Pair) there, length_push k.causes end) in
        absurd (no_pair (ends_written s.items) (sym (slice_get-append_right k.causes (end ∷ []) 0) ∙ ap (slice_get (all_causes s k)) same
        ∙ there))

-- Without the stop of a pair there is a violation.
pub pair_has_violation : (s : Loose) (k : Packing) (n : ℕ) (q : Place) → IsLoose s → IsPack s k → length (all_chunks s k) ≤ BUNDLE_LIMIT
    → slice_get (all_causes s k) n ≡ Some (Some Pair) → IsBetween (program_of s (all_chunks s k)) (place_of (all_chunks s k)) n q
    → is_stopped (program_of s (all_chunks s k)).bundles q ≡ true
    → (v : Violation) × ViolatesIn (over_program (program_of s (all_chunks s k))) (without_stop (program_of s (all_chunks s k)) q) v
pair_has_violation s k n q is pack few cause between stops =
    violated_in_the_program (sequence_of s) p at (but_for n (sequence_stop cs)) (without_stop p q) (pack_is_program s k is pack few) spread
    (stops_without (sequence_of s) p at (sequence_stop cs) n q spread (bundled_has_stops s cs is chunks)
    (bundled_has_one_stop s cs is chunks) room between stops)
    pair.0 (violations_agree (over_sequence (sequence_of s)) (stopped_by (take n k.causes))
    (but_for n (sequence_stop cs)) pair.0 (λ place less. sym (agree place (subst (IsBefore place) pair.2 less))) pair.1)
  where
    cs : List Chunk
    cs = all_chunks s k

    p : Program
    p = program_of s cs

    at : ℕ → Place
    at = place_of cs

    chunks : AreChunksOf s cs
    chunks = pack_are_chunks s k is pack few

    spread : IsSpread (sequence_of s) p at
    spread = bundled_is_spread s cs is chunks

    inside : (n < length k.causes) × (slice_get k.causes n ≡ Some (Some Pair))
    inside = pair_inside s k n cause

    pair : IsPairAt s (take n k.causes) (n + 1)
    pair = (decided_at s k n (Some Pair) pack inside.1).pair refl

    room : n + 1 < length (sequence_of s).insns
    room =
        let less = inside.0 in omega (
          arith,
          pack_causes s k pack,
          length_push k.causes (end_cause (ends_written s.items)),
          sequence_length s is,
        )

    agree : AgreeBefore (first_of (n + 1)) (but_for n (sequence_stop cs)) (stopped_by (take n k.causes))
    agree =
        front_agrees k.causes (end_cause (ends_written s.items) ∷ []) n (but_for n (sequence_stop cs)) (let less = inside.0 in omega arith)
        (λ place less. but_for_elsewhere n (sequence_stop cs) place (λ e. omega arith) ∙ sequence_stop_is s k place pack)
        (λ place e. but_for_here n (sequence_stop cs) place e)

-- A violation of a program without one of its stops comes behind the stop, where the program has none.
pub violated_behind : (p : Program) (q : Place) (v : Violation) → IsProgram p → HasNoViolation p
    → ViolatesIn (over_program p) (without_stop p q) v → IsBefore q v.second
violated_behind p q v is free violates = of (place_cases q v.second)
  where
    same_stops : ¬ IsBefore q v.second → IsBefore q v.second
    same_stops up =
        absurd (free v (violations_agree (over_program p) (without_stop p q) (is_stopped p.bundles) v
        (λ place less. without_elsewhere p q place (λ e. up (subst (λ (k : Place). IsBefore k v.second) e less))) violates))

    of : IsBefore q v.second ⊎ ((q ≡ v.second) ⊎ IsBefore v.second q) → IsBefore q v.second
    of (inl h) = h
    of (inr (inl e)) = same_stops (λ h. not_before_itself q (subst (IsBefore q) (sym e) h))
    of (inr (inr h)) = same_stops (λ up. not_before_itself q (before_trans q v.second q up h))
