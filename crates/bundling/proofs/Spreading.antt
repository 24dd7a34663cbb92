-- The program has the instructions of the sequence at their places and in their order, with nops beside them.
use Rattle.std.proofs.Common.{arith, ◌≡◌, ◌≢◌, ℕ, zero, suc, ◌+◌, ◌<◌, ◌⊎◌, inl, inr, refl, sym, ◌∙◌, ap, subst, add-one, Bool, true, false, eqb, List, [], ◌∷◌, length, Option, Some, None, IsSome, slice_get}
use Rattle.std.specs.Prelude.{option_map}
use Rattle.std.proofs.lemmas.Bool.{eqb-true}
use Rattle.std.proofs.lemmas.Bool.Decides.{Decides-eqb}
use Rattle.std.proofs.lemmas.Option.{same_Some, slice_get_within}
use Rattle.ia_insn.specs.declared.insn.Insn.{Insn}
use Rattle.ia_insn.specs.declared.choices.Unit.{Unit as ExecutionUnit}
use Rattle.ia_insn.specs.declared.choices.Unit.TheVariants as units
use Rattle.ia_program.specs.declared.place.Place.{Place}
use Rattle.ia_program.specs.Templates.{units_of}
use Rattle.ia_program.specs.Bundles.{Bundle, slot_insn}
use Rattle.ia_program.specs.Places.{insn_at, IsBefore}
use Rattle.ia_program.proofs.InOrder.{lies_in}
use Rattle.slot_layouts.specs.Filled.{nop_of, filled}
use Rattle.sequence_laws.specs.Spreads.{DoesLike, IsFiller}
use Rattle.loose_items.specs.declared.item.Item.{Item}
use Rattle.loose_text.specs.LooseTexts.{Loose, IsLoose}
use Rattle.bundling.specs.Chunk.{Chunk}
use Rattle.bundling.specs.Chunks.{AreChunks}
use Rattle.bundling.specs.Bundled.{targeted, layout_of, place_of, bundle_of, bundles_from}
use Rattle.bundling.proofs.Lists.{element}
use Rattle.bundling.proofs.Locating.{AreLayouts, held, part_of, IsAt, IsPut, put_at, in_chunk, chunks_rise, length-bundles, in_bundle, placed, below_all}
use Rattle.bundling.proofs.Targeting.{put, item_at, within_items, insn_there, has_instructions}
use Rattle.bundling.proofs.Likeness.{like_puts}

-- The number of an instruction itself.
abbrev pub itself : ℕ → ℕ
itself n = n

abbrev pub bundles_of : Loose → List Chunk → List Bundle
bundles_of s cs = bundles_from cs (targeted (bundle_of cs) s)

-- Each does the same there.
pub there : AreLayouts → (s : Loose) (cs : List Chunk) → IsLoose s → AreChunks cs s.items → (n : ℕ) (i : Insn)
    → slice_get (targeted itself s) n ≡ Some i
    → (j : Insn) × (insn_at (bundles_of s cs) (place_of cs n) ≡ Some j) × DoesLike i j
there laws s cs loose are n i at =
    let less = within_items s itself n i loose at in
    let it = item_at s n loose less in
    let same : put itself n it.item it.target ≡ i = same_Some _ i (sym (it.put_in itself) ∙ at) in (
      put (bundle_of cs) n it.item it.target,
      has_instructions laws s cs (bundle_of cs) n loose are less ∙ it.put_in (bundle_of cs),
      subst (λ (i : Insn). DoesLike i (put (bundle_of cs) n it.item it.target)) same
          (like_puts itself (bundle_of cs) n (bundle_of cs n) it.item.insn it.target),
    )

-- They are in order.
slots_rise : (ks : List ℕ) → ((n k l : ℕ) → slice_get ks n ≡ Some k → slice_get ks (n + 1) ≡ Some l → k < l)
    → (j i k l : ℕ) → j < i → slice_get ks j ≡ Some k → slice_get ks i ≡ Some l → k < l
slots_rise ks rising j zero k l less one two = absurd (omega arith)
slots_rise ks rising j (suc i) k l less one two =
    let within = slice_get_within ks (suc i) l two in
    let before = element ks i (omega arith) in
    let next : slice_get ks (i + 1) ≡ Some l = ap (slice_get ks) (add-one i) ∙ two in
    let last : before.0 < l = rising i before.0 l before.1 next in
    of before.0 before.1 last (cases j i less) (λ h. slots_rise ks rising j i k before.0 h one before.1)
  where
    cases : (a b : ℕ) → a < suc b → (a < b) ⊎ (a ≡ b)
    cases a b h = grind arith

    of : (m : ℕ) → slice_get ks i ≡ Some m → m < l → (j < i) ⊎ (j ≡ i) → (j < i → k < m) → k < l
    of m at last (inl h) earlier = let first = earlier h in omega arith
    of m at last (inr h) earlier = let same : k ≡ m = same_Some k m (sym one ∙ ap (slice_get ks) h ∙ at) in omega arith

pub rises : AreLayouts → (cs : List Chunk) (items : List Item) → AreChunks cs items → (n m : ℕ) → n < m → m < length items
    → IsBefore (place_of cs n) (place_of cs m)
rises laws cs items are n m less small =
    let one = in_chunk cs items n are (omega arith) in
    let two = in_chunk cs items m are small in
    let first = placed laws cs items n one.bundle one.offset one.chunk are one.at in
    let second = placed laws cs items m two.bundle two.offset two.chunk are two.at in
    let rise = chunks_rise cs n m one.bundle two.bundle one.offset two.offset one.chunk two.chunk one.at two.at less in
    rw (first.place, second.place) (of one.bundle two.bundle one.offset two.offset first.slot second.slot one.chunk two.chunk one.at two.at
    first.there second.there rise)
  where
    of : (k l j i slot other : ℕ) (c d : Chunk) → IsAt cs n k j c → IsAt cs m l i d → slice_get (layout_of c).1 j ≡ Some slot
        → slice_get (layout_of d).1 i ≡ Some other
        → (k < l) ⊎ ((k ≡ l) × (j < i)) → IsBefore (in_bundle k slot) (in_bundle l other)
    of k l j i slot other c d one two at next (inl h) = inl h
    of k l j i slot other c d one two at next (inr (same, h)) =
        let chunk : d ≡ c = same_Some d c (sym two.there ∙ ap (slice_get cs) (sym same) ∙ one.there) in
        let later : slice_get (layout_of c).1 i ≡ Some other = ap (λ (c : Chunk). slice_get (layout_of c).1 i) (sym chunk) ∙ next in
        let put = put_at laws cs items k c are one.there in
        let order = laws.holds c.wanted c.end (layout_of c).0 (layout_of c).1 [] put.laid in
        inr (same, slots_rise (layout_of c).1 order.rising j i slot other h at later)

-- Every other place has a nop.
find_slot : (ks : List ℕ) (slot : ℕ) → ((n : ℕ) × (slice_get ks n ≡ Some slot)) ⊎ ((n : ℕ) → slice_get ks n ≢ Some slot)
find_slot [] slot = inr (λ n h. cc)
find_slot (k ∷ ks) slot = of (eqb k slot) refl (find_slot ks slot)
  where
    of : (b : Bool) → eqb k slot ≡ b → ((n : ℕ) × (slice_get ks n ≡ Some slot)) ⊎ ((n : ℕ) → slice_get ks n ≢ Some slot)
        → ((n : ℕ) × (slice_get (k ∷ ks) n ≡ Some slot)) ⊎ ((n : ℕ) → slice_get (k ∷ ks) n ≢ Some slot)
    of true is rest = inl (0, ap (λ (k : ℕ). Some k) (eqb-true k slot is))
    of false is (inl (n, at)) = inl (suc n, at)
    of false is (inr none) = inr other
      where
        other : (n : ℕ) → slice_get (k ∷ ks) n ≢ Some slot
        other zero h = let same : k ≡ slot = same_Some k slot h in let yes = (Decides-eqb k slot).1 same in cc
        other (suc n) h = none n h

filler : (o : Option ExecutionUnit) (j : Insn) → option_map nop_of o ≡ Some j → IsFiller j
filler None j h = absurd (cc)
filler (Some units.L) j h = (units.X, sym (same_Some _ j h))
filler (Some unit) j h = (unit, sym (same_Some _ j h))

-- What stands at a place of the program is an instruction of the text, or a nop.
pub fillers : AreLayouts → (cs : List Chunk) (items : List Item) (insns : List Insn) → AreChunks cs items → (place : Place) (j : Insn)
    → insn_at (bundles_from cs insns) place ≡ Some j
    → ((n : ℕ) × (n < length items) × (place ≡ place_of cs n)) ⊎ IsFiller j
fillers laws cs items insns are place j here =
    let lies = lies_in (bundles_from cs insns) place (subst IsSome (sym here) refl) in
    let less = slice_get_within (bundles_from cs insns) place.bundle lies.bundle lies.is in
    let chunk = element cs place.bundle (subst (λ m. place.bundle < m) (length-bundles cs insns) less) in
    let put = put_at laws cs items place.bundle chunk.0 are chunk.1 in
    of chunk.0 chunk.1 put (sym (insn_there cs insns place.bundle place.slot chunk.0 chunk.1) ∙ here)
    (find_slot (layout_of chunk.0).1 place.slot)
  where
    of : (c : Chunk) → slice_get cs place.bundle ≡ Some c → IsPut cs items place.bundle c
        → slot_insn (filled (layout_of c).0 (layout_of c).1 (part_of cs place.bundle c insns)).slots place.slot ≡ Some j
        → ((n : ℕ) × (slice_get (layout_of c).1 n ≡ Some place.slot)) ⊎ ((n : ℕ) → slice_get (layout_of c).1 n ≢ Some place.slot)
        → ((n : ℕ) × (n < length items) × (place ≡ place_of cs n)) ⊎ IsFiller j
    of c chunk put is (inl (offset, at)) =
        let within = slice_get_within (layout_of c).1 offset place.slot at in
        let count = put.count in
        let in_chunk : IsAt cs (held cs place.bundle + offset) place.bundle offset c =
        record { there = chunk; inside = omega arith; number = refl } in
        let other = placed laws cs items (held cs place.bundle + offset) place.bundle offset c are in_chunk in
        let same : other.slot ≡ place.slot = same_Some other.slot place.slot (sym other.there ∙ at) in
        inl (
          held cs place.bundle + offset,
          below_all cs items (held cs place.bundle + offset) place.bundle offset c laws are in_chunk,
          sym (other.place ∙ ap (in_bundle place.bundle) same),
        )
    of c chunk put is (inr none) =
        let order = laws.holds c.wanted c.end (layout_of c).0 (layout_of c).1 (part_of cs place.bundle c insns) put.laid in
        inr (filler (slice_get (units_of (layout_of c).0) place.slot) j (order.nops place.slot j is none))
