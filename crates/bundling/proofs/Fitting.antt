-- The bundles of a loose text's instructions: they fit their templates, and their targets are inside.
use Rattle.std.proofs.Common.{arith, ◌≡◌, ◌⊎◌, ℕ, suc, ◌+◌, ◌<◌, ◌≤◌, inl, inr, refl, sym, ◌∙◌, ap, subst, Bool, true, false, if◌then◌else◌, ◌==◌, List, [], ◌∷◌, length, drop, Option, Some, None, slice_get}
use Rattle.std.specs.Prelude.{IfSome}
use Rattle.std.proofs.lemmas.Bool.{cases_lt}
use Rattle.std.proofs.lemmas.List.{length-drop, length-take}
use Rattle.std.proofs.lemmas.Option.{same_Some, slice_get_within, slice_get_past}
use Rattle.ia_insn.specs.declared.insn.Insn.{Insn}
use Rattle.ia_insn.specs.declared.choices.Unit.{Unit as ExecutionUnit}
use Rattle.ia_insn.specs.declared.choices.Unit.TheVariants as units
use Rattle.ia_insn.specs.Displacements.{displacement}
use Rattle.ia_program.specs.declared.bundle.Slots.{Slots}
use Rattle.ia_program.specs.declared.bundle.Slots.TheVariants.{Three, Long}
use Rattle.ia_program.specs.Bundles.{Bundle, IsBundle, AreBundles, slot_insn}
use Rattle.ia_program.specs.Listed.{IsListed}
use Rattle.ia_program.specs.Places.{insn_at, EachPlace}
use Rattle.ia_program.specs.Targets.{IsBundleAt, IsTargetInside}
use Rattle.ia_program.specs.Templates.{units_of}
use Rattle.ia_program.proofs.InOrder.{bundle_small}
use Rattle.slot_layouts.specs.declared.layout.Wanted.{Wanted}
use Rattle.slot_layouts.specs.Classes.{class_of}
use Rattle.slot_layouts.specs.Filled.{nop_of, slot_content, contents, filled, AreOf}
use Rattle.slot_layouts.specs.Laws.{PlaceIsFit, FilledIsBundle}
use Rattle.loose_items.specs.declared.item.Item.{Item}
use Rattle.loose_text.specs.LooseTexts.{Loose, IsLoose}
use Rattle.bundling.specs.Chunk.{Chunk}
use Rattle.bundling.specs.Chunks.{Holds, AreChunksOf}
use Rattle.bundling.specs.Bundled.{targeted, layout_of, bundle_of, program_of}
use Rattle.bundling.proofs.Lists.{element}
use Rattle.bundling.proofs.Locating.{AreLayouts, held, part_of, IsAt, put_at, in_chunk, length-bundles, bundle_at, bundle_there, part_there}
use Rattle.bundling.proofs.Putting.{IsPutIn, is_put_in}
use Rattle.bundling.proofs.Targeting.{put, item_at, within_items, length-targeted, insn_there}

-- What is known of a loose text and of its chunks.
pub record IsBundling (s : Loose) (cs : List Chunk) : Type 0 where
  pub laws : AreLayouts
  pub places : PlaceIsFit
  pub filled : FilledIsBundle
  pub loose : IsLoose s
  pub are : AreChunksOf s cs

-- Each instruction is in one of the bundles.
pub bundle_inside : (s : Loose) (cs : List Chunk) (n : ℕ) → IsBundling s cs → n < length s.items → bundle_of cs n < length cs
bundle_inside s cs n h less =
    let one = in_chunk cs s.items n h.are.chunks less in
    let is = bundle_there h.laws cs s.items n one.bundle one.offset one.chunk h.are.chunks one.at in
    let within = slice_get_within cs one.bundle one.chunk one.at.there in omega (arith, is, within)

-- The n-th instruction with its target put in.
pub record IsInBundle (s : Loose) (cs : List Chunk) (n : ℕ) : Type 0 where
  pub item : Item
  pub insn : Insn
  pub there : slice_get s.items n ≡ Some item
  pub put : slice_get (targeted (bundle_of cs) s) n ≡ Some insn
  pub is : IsPutIn (length cs) (bundle_of cs n) item.insn.op insn

pub in_bundle_at : (s : Loose) (cs : List Chunk) (n : ℕ) → IsBundling s cs → n < length s.items → IsInBundle s cs n
in_bundle_at s cs n h less =
    let one = item_at s n h.loose less in
    let few = h.are.few in
    let inside = bundle_inside s cs n h less in
    record {
      item = one.item;
      insn = put (bundle_of cs) n one.item one.target;
      there = one.there;
      put = one.put_in (bundle_of cs);
      is = is_put_in h.places s.items (length cs) (bundle_of cs n) (bundle_of cs) one.item.insn one.target one.listed one.aimed
          (omega (arith, inside, few)) (omega (arith, few)) (λ m within. bundle_inside s cs m h within);
    }

-- The number of an instruction of a bundle.
part_at : {X : Type 0} (cs : List Chunk) (xs : List X) (k j : ℕ) (c : Chunk) (x : X) → slice_get cs k ≡ Some c
    → slice_get (part_of cs k c xs) j ≡ Some x → IsAt cs (held cs k + j) k j c
part_at cs xs k j c x there at =
    let within = slice_get_within (part_of cs k c xs) j x at in
    record { there = there; inside = omega (arith, within, length-take (length c.wanted) (drop (held cs k) xs)); number = refl }

-- The instructions of a bundle are of the classes that are wanted.
are_of : (ws : List Wanted) (items : List Item) (is : List Insn) → Holds ws items → length is ≡ length items
    → ((j : ℕ) (item : Item) (i : Insn) → slice_get items j ≡ Some item → slice_get is j ≡ Some i
    → IsListed i × (class_of i.op ≡ class_of item.insn.op)) → AreOf ws is
are_of [] [] [] holds same all = tt
are_of [] [] (i ∷ is) holds same all = absurd (omega arith)
are_of [] (item ∷ items) is holds same all = absurd holds
are_of (w ∷ ws) [] is holds same all = absurd holds
are_of (w ∷ ws) (item ∷ items) [] holds same all = absurd (omega arith)
are_of (w ∷ ws) (item ∷ items) (i ∷ is) (class, holds) same all =
    let here = all 0 item i refl refl in
    (here.0, here.1 ∙ sym class, are_of ws items is holds (omega arith) (λ j x y at there. all (suc j) x y at there))

part_length : {X Y : Type 0} (cs : List Chunk) (k : ℕ) (c : Chunk) (xs : List X) (ys : List Y) → length xs ≡ length ys
    → length (part_of cs k c xs) ≡ length (part_of cs k c ys)
part_length cs k c xs ys same =
    omega (
      arith,
      length-take (length c.wanted) (drop (held cs k) xs),
      length-take (length c.wanted) (drop (held cs k) ys),
      length-drop (held cs k) xs,
      length-drop (held cs k) ys,
    )

part_is_of : (s : Loose) (cs : List Chunk) (k : ℕ) (c : Chunk) → IsBundling s cs → slice_get cs k ≡ Some c
    → AreOf c.wanted (part_of cs k c (targeted (bundle_of cs) s))
part_is_of s cs k c h there =
    let insns = targeted (bundle_of cs) s in
    let chunk = (put_at h.laws cs s.items k c h.are.chunks there).chunk in
    let same = part_length cs k c insns s.items (length-targeted (bundle_of cs) 0 s.items s.targets h.loose.targets) in
    are_of c.wanted (part_of cs k c s.items) (part_of cs k c insns) chunk.holds same each
  where
    each : (j : ℕ) (item : Item) (i : Insn) → slice_get (part_of cs k c s.items) j ≡ Some item
        → slice_get (part_of cs k c (targeted (bundle_of cs) s)) j ≡ Some i
        → IsListed i × (class_of i.op ≡ class_of item.insn.op)
    each j item i at put =
        let n = held cs k + j in
        let in_chunk = part_at cs s.items k j c item there at in
        let one : slice_get s.items n ≡ Some item = sym (part_there cs s.items n k j c in_chunk) ∙ at in
        let two : slice_get (targeted (bundle_of cs) s) n ≡ Some i =
        sym (part_there cs (targeted (bundle_of cs) s) n k j c in_chunk) ∙ put in
        let good = in_bundle_at s cs n h (slice_get_within s.items n item one) in
        let same : good.item ≡ item = same_Some good.item item (sym good.there ∙ one) in
        let alike : good.insn ≡ i = same_Some good.insn i (sym good.put ∙ two) in (
          subst (λ (i : Insn). IsListed i) alike good.is.listed,
          ap (λ (i : Insn). class_of i.op) (sym alike) ∙ good.is.class ∙ ap (λ (item : Item). class_of item.insn.op) same,
        )

fit_at : (s : Loose) (cs : List Chunk) (k : ℕ) (c : Chunk) → IsBundling s cs → slice_get cs k ≡ Some c
    → IsBundle (filled (layout_of c).0 (layout_of c).1 (part_of cs k c (targeted (bundle_of cs) s)))
fit_at s cs k c h there =
    let put = put_at h.laws cs s.items k c h.are.chunks there in
    let layout = layout_of c in
    (h.filled c.wanted c.end layout.0 layout.1 (part_of cs k c (targeted (bundle_of cs) s))
    (h.laws.is_layout c.wanted c.end layout.0 layout.1 put.laid) (part_is_of s cs k c h there)).1

-- Each bundle fits its template.
pub bundles_fit : (s : Loose) (cs : List Chunk) → IsBundling s cs → AreBundles (program_of s cs).bundles
bundles_fit s cs h n = of (cases_lt n (length cs))
  where
    of : (n < length cs) ⊎ (length cs ≤ n) → IfSome (slice_get (program_of s cs).bundles n) IsBundle
    of (inl less) =
        let c = element cs n less in
        subst (λ (o : Option Bundle). IfSome o IsBundle) (sym (bundle_at cs (targeted (bundle_of cs) s) n c.0 c.1))
        (fit_at s cs n c.0 h c.1)
    of (inr past) =
        let count = length-bundles cs (targeted (bundle_of cs) s) in
        subst (λ (o : Option Bundle). IfSome o IsBundle) (sym (slice_get_past (program_of s cs).bundles n (omega (arith, count, past)))) tt

-- What holds of each instruction and of each nop holds of what stands in a slot.
either : (P : Insn → Type 0) (first : Bool) (i j : Insn) → P i → P j → P (if first then i else j)
either P true i j p q = p
either P false i j p q = q

content_all : (P : Insn → Type 0) → ((u : ExecutionUnit) → P (nop_of u)) → (slot : ℕ) (u : ExecutionUnit) (ks : List ℕ) (is : List Insn)
    → ((j : ℕ) (i : Insn) → slice_get is j ≡ Some i → P i) → P (slot_content slot u ks is)
content_all P nop slot u [] is all = nop u
content_all P nop slot u (k ∷ ks) [] all = nop u
content_all P nop slot u (k ∷ ks) (i ∷ is) all =
    either P (slot == k) i (slot_content slot u ks is) (all 0 i refl) (content_all P nop slot u ks is (λ j x at. all (suc j) x at))

abbrev AllSlots : (Insn → Type 0) → Slots → Type 0
AllSlots P (Three a b c) = P a × P b × P c
AllSlots P (Long first long) = P first × P long

contents_all : (P : Insn → Type 0) → ((u : ExecutionUnit) → P (nop_of u)) → (us : List ExecutionUnit) (ks : List ℕ) (is : List Insn)
    → ((j : ℕ) (i : Insn) → slice_get is j ≡ Some i → P i) → AllSlots P (contents us ks is)
contents_all P nop (u ∷ units.L ∷ x ∷ []) ks is all = (content_all P nop 0 u ks is all, content_all P nop 1 units.L ks is all)
contents_all P nop (u ∷ v ∷ w ∷ []) ks is all =
    (content_all P nop 0 u ks is all, content_all P nop 1 v ks is all, content_all P nop 2 w ks is all)
contents_all P nop us ks is all = (nop units.M, nop units.M, nop units.M)

if_slot : (P : Insn → Type 0) (here : Bool) (i : Insn) (other : Option Insn) → P i → IfSome other P
    → IfSome (if here then Some i else other) P
if_slot P true i other p q = p
if_slot P false i other p q = q

slot_all : (P : Insn → Type 0) (slots : Slots) (slot : ℕ) → AllSlots P slots → IfSome (slot_insn slots slot) P
slot_all P (Three a b c) slot h = if_slot P (slot == 0) a _ h.0 (if_slot P (slot == 1) b _ h.1 (if_slot P (slot == 2) c None h.2 tt))
slot_all P (Long first long) slot h = if_slot P (slot == 0) first _ h.0 (if_slot P (slot == 1) long None h.1 tt)

nop_inside : (count own : ℕ) (u : ExecutionUnit) → IfSome (displacement (nop_of u).op) (IsBundleAt count own)
nop_inside count own units.L = tt
nop_inside count own u = tt

-- The target of each instruction of a bundle is below a count.
part_inside : (s : Loose) (cs : List Chunk) (k j : ℕ) (c : Chunk) (i : Insn) → IsBundling s cs → slice_get cs k ≡ Some c
    → slice_get (part_of cs k c (targeted (bundle_of cs) s)) j ≡ Some i → IfSome (displacement i.op) (IsBundleAt (length cs) k)
part_inside s cs k j c i h there at =
    let insns = targeted (bundle_of cs) s in
    let n = held cs k + j in
    let in_chunk = part_at cs insns k j c i there at in
    let put : slice_get insns n ≡ Some i = sym (part_there cs insns n k j c in_chunk) ∙ at in
    let good = in_bundle_at s cs n h (within_items s (bundle_of cs) n i h.loose put) in
    let alike : good.insn ≡ i = same_Some good.insn i (sym good.put ∙ put) in
    let own : bundle_of cs n ≡ k = bundle_there h.laws cs s.items n k j c h.are.chunks in_chunk in
    subst (λ (own : ℕ). IfSome (displacement i.op) (IsBundleAt (length cs) own)) own
    (subst (λ (i : Insn). IfSome (displacement i.op) (IsBundleAt (length cs) (bundle_of cs n))) alike good.is.target)

-- Each target is one of the bundles.
pub targets_inside : (s : Loose) (cs : List Chunk) → IsBundling s cs
    → EachPlace (program_of s cs).bundles (IsTargetInside (program_of s cs).bundles)
targets_inside s cs h place is =
    let insns = targeted (bundle_of cs) s in
    let count : length (program_of s cs).bundles ≡ length cs = length-bundles cs insns in
    let small = bundle_small (program_of s cs).bundles place is in
    let c = element cs place.bundle (omega (arith, small, count)) in
    let layout = layout_of c.0 in
    let Inside = λ (i : Insn). IfSome (displacement i.op) (IsBundleAt (length cs) place.bundle) in
    let all =
    contents_all Inside (nop_inside (length cs) place.bundle) (units_of layout.0) layout.1 (part_of cs place.bundle c.0 insns)
    (λ j i at. part_inside s cs place.bundle j c.0 i h c.1 at) in
    subst (λ (n : ℕ). IfSome (insn_at (program_of s cs).bundles place) (λ i. IfSome (displacement i.op) (IsBundleAt n place.bundle)))
    (sym count)
    (subst (λ (o : Option Insn). IfSome o Inside) (sym (insn_there cs insns place.bundle place.slot c.0 c.1))
    (slot_all Inside (filled layout.0 layout.1 (part_of cs place.bundle c.0 insns)).slots place.slot all))
