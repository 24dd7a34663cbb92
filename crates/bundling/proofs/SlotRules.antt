-- `alloc` and `clrrrb` stand as the rules on slots ask.
use Rattle.std.proofs.Common.{arith, ◌≡◌, ℕ, suc, ◌+◌, ◌<◌, ◌≤◌, inl, inr, refl, sym, ◌∙◌, ap, subst, add-one, Bool, true, false, List, [], ◌∷◌, length, Option, Some, None, slice_get}
use Rattle.std.proofs.lemmas.Option.{same_Some, slice_get_within}
use Rattle.ia_insn.specs.declared.insn.Insn.{Insn}
use Rattle.ia_insn.specs.declared.insn.Op.{Op}
use Rattle.ia_insn.specs.declared.insn.Op.TheVariants as op
use Rattle.ia_insn.specs.declared.choices.BranchKind.TheVariants as branch
use Rattle.ia_program.specs.declared.place.Place.{Place}
use Rattle.ia_program.specs.Bundles.{Bundle, last_slot}
use Rattle.ia_program.specs.Places.{IsBefore, IsNext}
use Rattle.ia_program.proofs.InOrder.{next_slot, next_bundle, no_next}
use Rattle.ia_meaning.specs.Actions.{insn_action, action_of, is_alloc, allocates}
use Rattle.ia_meaning.specs.Sequence.{first_of, next_of, is_stopped}
use Rattle.ia_meaning.proofs.Sequences.{next_same}
use Rattle.flow_facts.specs.Graphs.{over_sequence, sequence_insn}
use Rattle.order_laws.specs.Violations.{clears, clears_in, allocates_at, clears_at}
use Rattle.slot_layouts.specs.declared.classes.SlotClass.{SlotClass}
use Rattle.slot_layouts.specs.declared.classes.SlotClass.TheVariants.{M, B}
use Rattle.slot_layouts.specs.declared.layout.Wanted.{Wanted}
use Rattle.slot_layouts.specs.Classes.{class_of}
use Rattle.slot_layouts.specs.Layouts.{laid_out}
use Rattle.slot_layouts.specs.Laws.{HasStopWhere, has_stop, FirstStandsInSlot0, StopIsRightBeforeM, LastBStandsLast, NextStandsRightBehindB}
use Rattle.sequence_laws.specs.Spreads.{IsHead, IsBetween, KeepsSlotRules}
use Rattle.loose_text.specs.LooseTexts.{Loose, IsLoose}
use Rattle.bundling.specs.Chunk.{Chunk}
use Rattle.bundling.specs.Chunks.{AreChunks, AreChunksOf}
use Rattle.bundling.specs.Bundled.{sequence_of, targeted, layout_of, place_of, bundle_of, program_of}
use Rattle.bundling.proofs.Lists.{element}
use Rattle.bundling.proofs.Locating.{part_of, IsAt, put_at, in_chunk, length-bundles, bundle_at, in_bundle, placed, class_there, last_of_all, head_is_first}
use Rattle.bundling.proofs.Targeting.{length-targeted, IsItemAt, item_at, within_items}
use Rattle.bundling.proofs.Likeness.{allocates_put, clears_put}
use Rattle.bundling.proofs.Spreading.{itself, bundles_of}
use Rattle.bundling.proofs.Neighbours.{AreStopLaws, filled_at, stops_of_chunk, slot_within, InOne, IsLast, InTwo, is_last, neighbours, IsBetweenSlots, within_one, stop_at, stop_of_first, stops_to_end, stops_to_next}

-- The laws of layouts from which it follows what stands beside an instruction.
pub record ArePlaceLaws : Type 0 where
  pub stops : AreStopLaws
  pub first : FirstStandsInSlot0
  pub stop_before : StopIsRightBeforeM
  pub last : LastBStandsLast
  pub next : NextStandsRightBehindB

-- The classes of the two.
alloc_is_m : (x : Op) → is_alloc (action_of x) ≡ true → class_of x ≡ M
alloc_is_m (op.Alloc r1 sof sol sor) h = refl
alloc_is_m (op.Br branch.Cond wh many clr disp) h = absurd (cc)
alloc_is_m (op.Br kind wh many clr disp) h = absurd (cc)
alloc_is_m x h = absurd (cc)

clear_is_b : (x : Op) → clears (action_of x) ≡ true → class_of x ≡ B
clear_is_b (op.Clrrrb pred_only) h = refl
clear_is_b (op.Br branch.Cond wh many clr disp) h = absurd (cc)
clear_is_b (op.Br kind wh many clr disp) h = absurd (cc)
clear_is_b x h = absurd (cc)

-- An instruction of the sequence that is one of them is of its class.
pub record IsOfClass (s : Loose) (n : ℕ) (class : SlotClass) : Type 0 where
  pub inside : n < length s.items
  pub item : IsItemAt s n
  pub is : class_of item.item.insn.op ≡ class

of_class : (s : Loose) (n : ℕ) (class : SlotClass) (test : Option Insn → Bool) → IsLoose s → (test None ≡ false)
    → ((it : IsItemAt s n) (i : Insn) → slice_get (targeted itself s) n ≡ Some i → test (Some i) ≡ true → class_of it.item.insn.op ≡ class)
    → test (slice_get (targeted itself s) n) ≡ true → IsOfClass s n class
of_class s n class test loose none some here = of (slice_get (targeted itself s) n) refl here
  where
    of : (o : Option Insn) → slice_get (targeted itself s) n ≡ o → test o ≡ true → IsOfClass s n class
    of None is h = absurd (cc)
    of (Some i) is h =
        let less = within_items s itself n i loose is in
        let it = item_at s n loose less in
        record { inside = less; item = it; is = some it i is h }

allocates_here : (s : Loose) (n : ℕ) → IsLoose s → allocates_at (over_sequence (sequence_of s)) (first_of n) ≡ true → IsOfClass s n M
unfolding allocates_at sequence_insn
allocates_here s n loose here = of_class s n M allocates loose refl (λ it i is h. alloc_is_m it.item.insn.op
    (sym (allocates_put itself n it.item.insn it.target) ∙ ap (λ (i : Insn). is_alloc (insn_action i))
    (same_Some _ i (sym (it.put_in itself) ∙ is)) ∙ h)) here

clears_here : (s : Loose) (n : ℕ) → IsLoose s → clears_at (over_sequence (sequence_of s)) (first_of n) ≡ true → IsOfClass s n B
unfolding clears_at sequence_insn
clears_here s n loose here = of_class s n B clears_in loose refl (λ it i is h. clear_is_b it.item.insn.op
    (sym (clears_put itself n it.item.insn it.target) ∙ ap (λ (i : Insn). clears (insn_action i))
    (same_Some _ i (sym (it.put_in itself) ∙ is)) ∙ h)) here

-- What its chunk wants at it.
pub record WantsClass (c : Chunk) (j : ℕ) (class : SlotClass) : Type 0 where
  pub wanted : Wanted
  pub there : slice_get c.wanted j ≡ Some wanted
  pub is : wanted.class ≡ class

wants : ArePlaceLaws → (s : Loose) (cs : List Chunk) (n k j : ℕ) (c : Chunk) (class : SlotClass) → AreChunks cs s.items → IsAt cs n k j c
    → IsOfClass s n class → WantsClass c j class
wants laws s cs n k j c class are at of =
    let w = element c.wanted j at.inside in
    record {
      wanted = w.0;
      there = w.1;
      is = class_there laws.stops.layouts cs s.items n k j c w.0 of.item.item are at w.1 of.item.there
          ∙ of.is;
    }

-- An M instruction that is the first of its bundle stands in slot 0.
first_in_slot_0 : ArePlaceLaws → (ws : List Wanted) (end : Bool) (code : ℕ) (ks : List ℕ) (w : Wanted) → laid_out ws end ≡ Some (code, ks)
    → slice_get ws 0 ≡ Some w → w.class ≡ M
    → slice_get ks 0 ≡ Some 0
first_in_slot_0 laws [] end code ks w laid at is = absurd (cc)
first_in_slot_0 laws (x ∷ ws) end code ks w laid at is =
    let same : x ≡ w = same_Some x w at in
    laws.first x ws end code ks laid (inl (ap (λ (w : Wanted). w.class) same ∙ is))

m_first : ArePlaceLaws → (s : Loose) (cs : List Chunk) (n k slot : ℕ) (c : Chunk) → AreChunks cs s.items → IsAt cs n k 0 c → IsOfClass s n M
    → slice_get (layout_of c).1 0 ≡ Some slot → slot ≡ 0
m_first laws s cs n k slot c are at of there =
    let want = wants laws s cs n k 0 c M are at of in
    let put = put_at laws.stops.layouts cs s.items k c are at.there in
    same_Some slot 0 (sym there ∙ first_in_slot_0 laws c.wanted c.end (layout_of c).0 (layout_of c).1 want.wanted put.laid want.there
    want.is)

-- The next place.
next_there : (bundles : List Bundle) (place next : Place) → IsNext bundles place next → next_of bundles place ≡ Some next
next_there bundles place next is = sym (next_same bundles place (Some next) is)

-- Where a stop is in a part of a bundle, one is wanted.
wanted_there : (gap : Bool) (b : Bundle) (from before slot : ℕ) → HasStopWhere gap b from before → from ≤ slot → slot < before
    → has_stop b slot ≡ true → gap ≡ true
wanted_there true b from before slot h above less stop = refl
wanted_there false b from before slot h above less stop = let none = h slot above less in absurd (cc)

-- A stop in a part of a bundle where one is wanted is the one that is known.
same_stop : (gap : Bool) (b : Bundle) (from before slot other : ℕ) → HasStopWhere gap b from before → from ≤ slot → slot < before
    → has_stop b slot ≡ true
    → from ≤ other → other < before → has_stop b other ≡ true → slot ≡ other
same_stop true b from before slot other h above less stop above_too less_too stop_too =
    h.only slot above less stop ∙ sym (h.only other above_too less_too stop_too)
same_stop false b from before slot other h above less stop above_too less_too stop_too = let none = h slot above less in absurd (cc)

-- An `alloc` that is first in its bundle stands in slot 0.
alloc_head : ArePlaceLaws → (s : Loose) (cs : List Chunk) → AreChunks cs s.items → (n : ℕ) → IsOfClass s n M → IsHead (place_of cs) n
    → (place_of cs n).slot ≡ 0
alloc_head laws s cs are n of head =
    let one = in_chunk cs s.items n are of.inside in
    let first = head_is_first cs s.items n one.bundle one.offset one.chunk laws.stops.layouts are one.at head in
    let at : IsAt cs n one.bundle 0 one.chunk = subst (λ j. IsAt cs n one.bundle j one.chunk) first one.at in
    let place = placed laws.stops.layouts cs s.items n one.bundle 0 one.chunk are at in
    ap (λ (p : Place). p.slot) place.place ∙ m_first laws s cs n one.bundle place.slot one.chunk are at of place.there

-- A stop between neighbours: its place, and the bundle that has it.
record IsStopOfOne (s : Loose) (cs : List Chunk) (n : ℕ) (one : InOne cs n) (x : Place) (w : Wanted) : Type 0 where
  pub within : IsBetweenSlots one.bundle one.slot one.other x
  pub here : slice_get (bundles_of s cs) x.bundle ≡ Some (filled_at cs (targeted (bundle_of cs) s) one.bundle one.chunk)
  pub stop : has_stop (filled_at cs (targeted (bundle_of cs) s) one.bundle one.chunk) x.slot ≡ true
  pub stops : HasStopWhere w.gap (filled_at cs (targeted (bundle_of cs) s) one.bundle one.chunk) one.slot one.other
  pub gap : w.gap ≡ true

stop_of_one : ArePlaceLaws → (s : Loose) (cs : List Chunk) → AreChunks cs s.items → (n : ℕ) (one : InOne cs n) (x : Place) (w : Wanted)
    → IsBetween (program_of s cs) (place_of cs) n x
    → is_stopped (bundles_of s cs) x ≡ true → slice_get one.chunk.wanted (suc one.offset) ≡ Some w → IsStopOfOne s cs n one x w
stop_of_one laws s cs are n one x w between stopped wanted =
    let insns = targeted (bundle_of cs) s in
    let below = subst (IsBefore x) (ap (place_of cs) (add-one n) ∙ one.next_place) between.below in
    let within = within_one one.bundle one.slot one.other x (subst (λ p. ¬ IsBefore x p) one.place between.from) below in
    let stop = stop_at cs insns one.bundle one.chunk x one.at.there within.bundle stopped in
    let stops = stops_to_next laws.stops cs s.items insns n one w are wanted in
    record {
      within = within;
      here = ap (slice_get (bundles_of s cs)) within.bundle ∙ bundle_at cs insns one.bundle one.chunk one.at.there;
      stop = stop;
      stops = stops;
      gap = wanted_there w.gap (filled_at cs insns one.bundle one.chunk) one.slot one.other x.slot stops within.above within.below stop;
    }

record IsStopOfTwo (s : Loose) (cs : List Chunk) (n : ℕ) (two : InTwo cs n) (x : Place) : Type 0 where
  pub bundle : x.bundle ≡ two.first.bundle
  pub here : slice_get (bundles_of s cs) x.bundle ≡ Some (filled_at cs (targeted (bundle_of cs) s) two.first.bundle two.first.chunk)
  pub above : two.first.slot ≤ x.slot
  pub last : x.slot ≡ last_slot (filled_at cs (targeted (bundle_of cs) s) two.first.bundle two.first.chunk).slots

stop_of_two : ArePlaceLaws → (s : Loose) (cs : List Chunk) → AreChunks cs s.items → (n : ℕ) (two : InTwo cs n) (x : Place)
    → IsBetween (program_of s cs) (place_of cs) n x
    → is_stopped (bundles_of s cs) x ≡ true → IsStopOfTwo s cs n two x
stop_of_two laws s cs are n two x between stopped =
    let insns = targeted (bundle_of cs) s in
    let first = two.first in
    let b = filled_at cs insns first.bundle first.chunk in
    let within =
    stop_of_first laws.stops cs s.items insns n two x are between.is between.from
    (subst (IsBefore x) (ap (place_of cs) (add-one n)) between.below) stopped in
    let stop = stop_at cs insns first.bundle first.chunk x first.at.there within.bundle stopped in
    let stops = stops_to_end laws.stops cs s.items insns n first are in
    let gap = wanted_there first.chunk.end b first.slot (suc (last_slot b.slots)) x.slot stops within.above within.below stop in
    let end = (stops_of_chunk laws.stops cs s.items insns first.bundle first.chunk are first.at.there).last ∙ gap in
    let inside =
    slot_within laws.stops.layouts cs s.items insns first.bundle first.offset first.slot first.chunk are first.at.there
    first.slot_there in
    record {
      bundle = within.bundle;
      here = ap (slice_get (bundles_of s cs)) within.bundle ∙ bundle_at cs insns first.bundle first.chunk first.at.there;
      above = within.above;
      last =
          same_stop first.chunk.end b first.slot (suc (last_slot b.slots)) x.slot (last_slot b.slots) stops within.above within.below stop
          inside (omega arith) end;
    }

-- A stop between an `alloc` and the instruction before it follows the place right before it.
alloc_stop : ArePlaceLaws → (s : Loose) (cs : List Chunk) → AreChunks cs s.items → (n : ℕ) → IsOfClass s (suc n) M → (x : Place)
    → IsBetween (program_of s cs) (place_of cs) n x
    → is_stopped (bundles_of s cs) x ≡ true → next_of (bundles_of s cs) x ≡ Some (place_of cs (suc n))
alloc_stop laws s cs are n of x between stopped = elim (neighbours laws.stops.layouts cs s.items n are of.inside) [
  | inl one ↦ in_one one
  | inr two ↦ in_two two
]
  where
    insns : List Insn
    insns = targeted (bundle_of cs) s

    in_one : InOne cs n → next_of (bundles_of s cs) x ≡ Some (place_of cs (suc n))
    in_one one =
        let c = one.chunk in
        let b = filled_at cs insns one.bundle c in
        let want = wants laws s cs (suc n) one.bundle (suc one.offset) c M are one.next of in
        let there = stop_of_one laws s cs are n one x want.wanted between stopped want.there in
        let put = put_at laws.stops.layouts cs s.items one.bundle c are one.at.there in
        let next = add-one one.offset in
        let before =
        laws.stop_before c.wanted c.end (layout_of c).0 (layout_of c).1 (part_of cs one.bundle c insns) one.offset one.other want.wanted
        put.laid
        (ap (slice_get c.wanted) next ∙ want.there) want.is there.gap (ap (slice_get (layout_of c).1) next ∙ one.other_there)
        in
        let above = there.within.above in
        let below = there.within.below in
        let follows = before.1 in
        let same : x.slot ≡ before.0 =
        same_stop want.wanted.gap b one.slot one.other x.slot before.0 there.stops above below there.stop (omega arith)
        (omega arith) before.2 in
        let slot : x.slot + 1 ≡ one.other = omega arith in
        let last =
        slot_within laws.stops.layouts cs s.items insns one.bundle (suc one.offset) one.other c are one.at.there one.other_there in
        next_there (bundles_of s cs) x (in_bundle x.bundle (x.slot + 1)) (next_slot (bundles_of s cs) x b there.here (omega arith))
        ∙ ap (λ k. Some (in_bundle k (x.slot + 1))) there.within.bundle ∙ ap (λ slot. Some (in_bundle one.bundle slot)) slot
        ∙ ap (λ (p : Place). Some p) (sym one.next_place)

    in_two : InTwo cs n → next_of (bundles_of s cs) x ≡ Some (place_of cs (suc n))
    in_two two =
        let there = stop_of_two laws s cs are n two x between stopped in
        let bundle = there.bundle in
        let last = there.last in
        let zero_slot = m_first laws s cs (suc n) (suc two.first.bundle) two.other two.chunk are two.next of two.other_there in
        let more = slice_get_within cs (suc two.first.bundle) two.chunk two.next.there in
        let next : x.bundle + 1 ≡ suc two.first.bundle = omega arith in
        next_there (bundles_of s cs) x (in_bundle (x.bundle + 1) 0)
        (next_bundle (bundles_of s cs) x (filled_at cs insns two.first.bundle two.first.chunk) there.here (omega arith)
        (omega (arith, length-bundles cs insns)))
        ∙ ap (λ k. Some (in_bundle k 0)) next ∙ ap (λ slot. Some (in_bundle (suc two.first.bundle) slot)) (sym zero_slot)
        ∙ ap (λ (p : Place). Some p) (sym two.next_place)

-- A `clrrrb` that is the last of its bundle stands in the last slot.
b_last : ArePlaceLaws → (s : Loose) (cs : List Chunk) → AreChunks cs s.items → (n : ℕ) → IsOfClass s n B → (last : IsLast cs n)
    → last.slot ≡ last_slot (filled_at cs (targeted (bundle_of cs) s) last.bundle last.chunk).slots
b_last laws s cs are n of last =
    let c = last.chunk in
    let want = wants laws s cs n last.bundle last.offset c B are last.at of in
    let put = put_at laws.stops.layouts cs s.items last.bundle c are last.at.there in
    laws.last c.wanted c.end (layout_of c).0 (layout_of c).1 (part_of cs last.bundle c (targeted (bundle_of cs) s)) last.offset last.slot
    want.wanted put.laid want.there want.is
    (add-one last.offset ∙ last.last) last.slot_there

-- A stop behind it follows it right away.
clear_stop : ArePlaceLaws → (s : Loose) (cs : List Chunk) → AreChunks cs s.items → (n : ℕ) → suc n < length s.items → IsOfClass s n B
    → (x : Place) → IsBetween (program_of s cs) (place_of cs) n x
    → is_stopped (bundles_of s cs) x ≡ true → x ≡ place_of cs n
clear_stop laws s cs are n more of x between stopped = elim (neighbours laws.stops.layouts cs s.items n are more) [
  | inl one ↦ in_one one
  | inr two ↦ in_two two
]
  where
    in_one : InOne cs n → x ≡ place_of cs n
    in_one one =
        let c = one.chunk in
        let want = wants laws s cs n one.bundle one.offset c B are one.at of in
        let after = element c.wanted (suc one.offset) one.next.inside in
        let there = stop_of_one laws s cs are n one x after.0 between stopped after.1 in
        let put = put_at laws.stops.layouts cs s.items one.bundle c are one.at.there in
        let next = add-one one.offset in
        let none =
        (laws.next c.wanted c.end (layout_of c).0 (layout_of c).1 one.offset one.slot one.other want.wanted after.0 put.laid want.there
        want.is
        (ap (slice_get c.wanted) next ∙ after.1) one.slot_there (ap (slice_get (layout_of c).1) next ∙ one.other_there)).1
        in
        let wanted = there.gap in absurd (cc)

    in_two : InTwo cs n → x ≡ place_of cs n
    in_two two =
        let there = stop_of_two laws s cs are n two x between stopped in
        let slot : x.slot ≡ two.first.slot = there.last ∙ sym (b_last laws s cs are n of two.first) in
        ap (λ k. in_bundle k x.slot) there.bundle ∙ ap (in_bundle two.first.bundle) slot ∙ sym two.first.place

-- After the last instruction of the sequence, a branch has no place behind it.
clear_last : ArePlaceLaws → (s : Loose) (cs : List Chunk) → AreChunks cs s.items → (n : ℕ) → suc n ≡ length s.items → IsOfClass s n B
    → next_of (bundles_of s cs) (place_of cs n) ≡ None
clear_last laws s cs are n end of =
    let one = in_chunk cs s.items n are of.inside in
    let all = last_of_all cs s.items n one.bundle one.offset one.chunk laws.stops.layouts are one.at end in
    none_behind (is_last laws.stops.layouts cs s.items n one.bundle one.offset one.chunk are one.at all.0)
  where
    insns : List Insn
    insns = targeted (bundle_of cs) s

    none_behind : IsLast cs n → next_of (bundles_of s cs) (place_of cs n) ≡ None
    none_behind last =
        let inside = (last_of_all cs s.items n last.bundle last.offset last.chunk laws.stops.layouts are last.at end).1 in
        let slot = b_last laws s cs are n of last in
        ap (next_of (bundles_of s cs)) last.place
        ∙ sym (next_same (bundles_of s cs) (in_bundle last.bundle last.slot) None
        (no_next (bundles_of s cs) (in_bundle last.bundle last.slot) (filled_at cs insns last.bundle last.chunk)
        (bundle_at cs insns last.bundle last.chunk last.at.there) (omega arith) (omega (arith, length-bundles cs insns))))

-- The rules on slots.
pub keeps_slot_rules : ArePlaceLaws → (s : Loose) (cs : List Chunk) → IsLoose s → AreChunksOf s cs
    → KeepsSlotRules (sequence_of s) (program_of s cs) (place_of cs) (is_stopped (bundles_of s cs))
keeps_slot_rules laws s cs loose are = record {
  alloc_head = λ n here head. alloc_head laws s cs are.chunks n (allocates_here s n loose here) head;
  alloc_stop = λ n more here x between stopped.
      subst (λ (m : ℕ). next_of (bundles_of s cs) x ≡ Some (place_of cs m)) (sym (add-one n))
      (alloc_stop laws s cs are.chunks n (subst (λ m. IsOfClass s m M) (add-one n) (allocates_here s (n + 1) loose here)) x between
      stopped);
  clear_stop =
      λ n more here x between stopped. clear_stop laws s cs are.chunks n (let same = count in omega arith)
      (clears_here s n loose here) x between stopped;
  clear_last = λ n end here. clear_last laws s cs are.chunks n (let same = count in omega arith) (clears_here s n loose here);
}
  where
    count : length (targeted itself s) ≡ length s.items
    count = length-targeted itself 0 s.items s.targets loose.targets
