-- Where the instructions of a loose text stand: the n-th is at some offset in some chunk, and in the bundle of that
-- chunk at a slot of its layout.
use Rattle.std.proofs.Common.{arith, ◌≡◌, ℕ, zero, suc, ◌+◌, ◌<◌, ◌≤◌, ◌⊎◌, inl, inr, refl, sym, ◌∙◌, ap, subst, Bool, true, false, List, [], ◌∷◌, ◌++◌, map, length, take, drop, Option, Some, None, IsSome, slice_get, length-append}
use Rattle.std.specs.Prelude.{option_map, unwrap_or, IsSomeAnd}
use Rattle.std.proofs.lemmas.Bool.{cases_lt, cases_order}
use Rattle.std.proofs.lemmas.List.{drop-drop, length-drop, length-map, length-take}
use Rattle.std.proofs.lemmas.Option.{same_Some, slice_get_within, slice_get-map, get_or_from_slice_get}
use Rattle.ia_insn.specs.declared.insn.Insn.{Insn}
use Rattle.ia_program.specs.declared.place.Place.{Place}
use Rattle.ia_program.specs.Programs.{IsCall}
use Rattle.ia_meaning.specs.Sequence.{first_of}
use Rattle.slot_layouts.specs.declared.layout.Wanted.{Wanted}
use Rattle.slot_layouts.specs.Classes.{class_of}
use Rattle.slot_layouts.specs.Layouts.{laid_out, is_layout}
use Rattle.slot_layouts.specs.Filled.{filled}
use Rattle.slot_layouts.specs.Laws.{LaidOutIsLayout, LaidOutHoldsInOrder}
use Rattle.loose_items.specs.declared.item.Item.{Item}
use Rattle.loose_text.specs.LooseTexts.{BreaksAt}
use Rattle.sequence_laws.specs.Spreads.{IsHead}
use Rattle.bundling.specs.Chunk.{Chunk}
use Rattle.bundling.specs.Chunks.{Holds, KeepTogether, IsChunk, AreChunks, gaps_in, gaps_of}
use Rattle.bundling.specs.Bundled.{layout_of, places_from, places_of, place_of, bundle_of, bundles_from}
use Rattle.bundling.proofs.Lists.{slice_get-part, slice_get-append_left, slice_get-append_right, element}

-- The laws of layouts from which it follows where instructions stand.
pub record AreLayouts : Type 0 where
  pub is_layout : LaidOutIsLayout
  pub holds : LaidOutHoldsInOrder

-- How many instructions the chunks before the k-th have.
abbrev pub held : List Chunk → ℕ → ℕ
held [] k = 0
held (c ∷ cs) zero = 0
held (c ∷ cs) (suc k) = length c.wanted + held cs k

-- The instructions of the k-th chunk.
abbrev pub part_of : {X : Type 0} → List Chunk → ℕ → Chunk → List X → List X
part_of cs k c xs = take (length c.wanted) (drop (held cs k) xs)

-- The n-th instruction is the j-th of the k-th chunk.
pub record IsAt (cs : List Chunk) (n k j : ℕ) (c : Chunk) : Type 0 where
  pub there : slice_get cs k ≡ Some c
  pub inside : j < length c.wanted
  pub number : held cs k + j ≡ n

pub record InChunk (cs : List Chunk) (n : ℕ) : Type 0 where
  pub bundle : ℕ
  pub offset : ℕ
  pub chunk : Chunk
  pub at : IsAt cs n bundle offset chunk

-- The chunks before one that comes later have all of one's instructions.
pub held-suc : (cs : List Chunk) (k : ℕ) (c : Chunk) → slice_get cs k ≡ Some c → held cs (suc k) ≡ held cs k + length c.wanted
held-suc [] k c there = absurd (cc)
held-suc (d ∷ []) zero c there = let same : d ≡ c = same_Some d c there in ap (λ (c : Chunk). length c.wanted + 0) same ∙ omega arith
held-suc (d ∷ e ∷ cs) zero c there = let same : d ≡ c = same_Some d c there in ap (λ (c : Chunk). length c.wanted + 0) same ∙ omega arith
held-suc (d ∷ cs) (suc k) c there = let rest = held-suc cs k c there in omega arith

pub held_later : (cs : List Chunk) (k l : ℕ) (c : Chunk) → slice_get cs k ≡ Some c → k < l → held cs k + length c.wanted ≤ held cs l
held_later [] k l c there less = absurd (cc)
held_later (d ∷ cs) k zero c there less = absurd (omega arith)
held_later (d ∷ cs) zero (suc l) c there less =
    let same : length d.wanted ≡ length c.wanted = ap (λ (c : Chunk). length c.wanted) (same_Some d c there) in omega arith
held_later (d ∷ cs) (suc k) (suc l) c there less = let rest = held_later cs k l c there (omega arith) in omega arith

-- A chunk has instructions, and a slot for each.
list_held : (ws : List Wanted) (items : List Item) → Holds ws items → length items ≡ length ws
list_held [] [] h = refl
list_held [] (item ∷ items) h = absurd h
list_held (w ∷ ws) [] h = absurd h
list_held (w ∷ ws) (item ∷ items) (is, h) = ap suc (list_held ws items h)

-- The layout of the k-th chunk.
pub record IsPut (cs : List Chunk) (items : List Item) (k : ℕ) (c : Chunk) : Type 0 where
  pub chunk : IsChunk c (part_of cs k c items)
  pub laid : laid_out c.wanted c.end ≡ Some ((layout_of c).0, (layout_of c).1)
  pub count : length (layout_of c).1 ≡ length c.wanted
  pub some : 1 ≤ length c.wanted
  pub within : held cs k + length c.wanted ≤ length items

laid : (c : Chunk) → IsSome (laid_out c.wanted c.end) → laid_out c.wanted c.end ≡ Some (layout_of c)
laid c some = of (laid_out c.wanted c.end) some
  where
    of : (o : Option (ℕ × List ℕ)) → IsSome o → o ≡ Some (unwrap_or o (0, []))
    of None h = absurd (cc)
    of (Some l) h = refl

some_slot : (code : ℕ) (ws : List Wanted) (end : Bool) (ks : List ℕ) → is_layout code ws end ks ≡ true → 1 ≤ length ks
some_slot code [] end [] h = absurd (cc)
some_slot code (w ∷ ws) end [] h = absurd (cc)
some_slot code ws end (k ∷ ks) h = omega arith

counted : AreLayouts → (c : Chunk) → IsSome (laid_out c.wanted c.end) → (length (layout_of c).1 ≡ length c.wanted) × (1 ≤ length c.wanted)
counted laws c some =
    let l = laid c some in
    let count = (laws.holds c.wanted c.end (layout_of c).0 (layout_of c).1 [] l).count in
    let one = some_slot (layout_of c).0 c.wanted c.end (layout_of c).1 (laws.is_layout c.wanted c.end (layout_of c).0 (layout_of c).1 l) in
    (count, omega arith)

fits : (c : Chunk) (items : List Item) → IsChunk c (take (length c.wanted) items) → length c.wanted ≤ length items
fits c items is =
    let same = list_held c.wanted (take (length c.wanted) items) is.holds in
    omega (arith, length-take (length c.wanted) items)

chunk_there : (cs : List Chunk) (items : List Item) (k : ℕ) (c : Chunk) → AreChunks cs items → slice_get cs k ≡ Some c
    → IsChunk c (part_of cs k c items) × (held cs k + length c.wanted ≤ length items)
chunk_there [] items k c are there = absurd (cc)
chunk_there (d ∷ cs) items zero c (is, are) there =
    let same : d ≡ c = same_Some d c there in
    subst (λ (c : Chunk). IsChunk c (take (length c.wanted) items) × (0 + length c.wanted ≤ length items)) same
    (is, (let room = fits d items is in omega arith))
chunk_there (d ∷ cs) items (suc k) c (is, are) there =
    let room = fits d items is in
    let rest = chunk_there cs (drop (length d.wanted) items) k c are there in (
      subst (λ xs. IsChunk c (take (length c.wanted) xs)) (drop-drop (held cs k) (length d.wanted) items) rest.0,
      (let less = rest.1 in omega (arith, length-drop (length d.wanted) items)),
    )

pub put_at : AreLayouts → (cs : List Chunk) (items : List Item) (k : ℕ) (c : Chunk) → AreChunks cs items → slice_get cs k ≡ Some c
    → IsPut cs items k c
put_at laws cs items k c are there =
    let is = chunk_there cs items k c are there in
    let count = counted laws c is.0.laid in
    record { chunk = is.0; laid = laid c is.0.laid; count = count.0; some = count.1; within = is.1 }

-- A number is below another, or that and some more.
below_or : (a b : ℕ) → (a < b) ⊎ ((m : ℕ) × (b + m ≡ a))
below_or a zero = inr (a, omega arith)
below_or zero (suc b) = inl (omega arith)
below_or (suc a) (suc b) = elim (below_or a b) [
  | inl h ↦ inl (omega arith)
  | inr (m, e) ↦ inr (m, omega arith)
]

-- Each instruction is in a chunk.
pub in_chunk : (cs : List Chunk) (items : List Item) (n : ℕ) → AreChunks cs items → n < length items → InChunk cs n
in_chunk [] [] n are less = absurd (omega arith)
in_chunk [] (item ∷ items) n are less = absurd are
in_chunk (c ∷ cs) items n (is, are) less = of (below_or n (length c.wanted)) (λ m. in_chunk cs (drop (length c.wanted) items) m are)
  where
    of : (n < length c.wanted) ⊎ ((m : ℕ) × (length c.wanted + m ≡ n))
        → ((m : ℕ) → m < length (drop (length c.wanted) items) → InChunk cs m) → InChunk (c ∷ cs) n
    of (inl h) later = record { bundle = 0; offset = n; chunk = c; at = record { there = refl; inside = h; number = omega arith } }
    of (inr (m, e)) later =
        let room = fits c items is in
        let rest = later m (omega (arith, length-drop (length c.wanted) items)) in
        record {
          bundle = suc rest.bundle;
          offset = rest.offset;
          chunk = rest.chunk;
          at = record { there = rest.at.there; inside = rest.at.inside; number = (let number = rest.at.number in omega arith) };
        }

-- Chunks rise with the numbers.
pub chunks_rise : (cs : List Chunk) (n m k l j i : ℕ) (c d : Chunk) → IsAt cs n k j c → IsAt cs m l i d → n < m
    → (k < l) ⊎ ((k ≡ l) × (j < i))
chunks_rise cs n m k l j i c d one two less = of (cases_order k l)
  where
    of : (k ≡ l) ⊎ ((k < l) ⊎ (l < k)) → (k < l) ⊎ ((k ≡ l) × (j < i))
    of (inr (inl h)) = inl h
    of (inl h) =
        let same : held cs k ≡ held cs l = ap (held cs) h in
        let first = one.number in
        let second = two.number in inr (h, omega arith)
    of (inr (inr h)) =
        let later = held_later cs l k d two.there h in
        let first = one.number in
        let second = two.number in
        let inside = two.inside in absurd (omega arith)

-- The program's bundles are those of the chunks.
pub length-bundles : (cs : List Chunk) (insns : List Insn) → length (bundles_from cs insns) ≡ length cs
length-bundles [] insns = refl
length-bundles (c ∷ cs) insns = ap suc (length-bundles cs (drop (length c.wanted) insns))

pub bundle_at : (cs : List Chunk) (insns : List Insn) (k : ℕ) (c : Chunk) → slice_get cs k ≡ Some c
    → slice_get (bundles_from cs insns) k ≡ Some (filled (layout_of c).0 (layout_of c).1 (part_of cs k c insns))
bundle_at [] insns k c there = absurd (cc)
bundle_at (d ∷ cs) insns zero c there =
    ap (λ (c : Chunk). Some (filled (layout_of c).0 (layout_of c).1 (take (length c.wanted) insns))) (same_Some d c there)
bundle_at (d ∷ cs) insns (suc k) c there =
    bundle_at cs (drop (length d.wanted) insns) k c there
    ∙ ap (λ xs. Some (filled (layout_of c).0 (layout_of c).1 (take (length c.wanted) xs))) (drop-drop (held cs k) (length d.wanted) insns)

-- A slot of a bundle.
abbrev pub in_bundle : ℕ → ℕ → Place
in_bundle k slot = record { bundle = k; slot = slot }

-- The place of an instruction is the slot of its chunk's layout.
pub record IsInLayout (cs : List Chunk) (n k j : ℕ) (c : Chunk) : Type 0 where
  pub slot : ℕ
  pub there : slice_get (layout_of c).1 j ≡ Some slot
  pub place : place_of cs n ≡ in_bundle k slot

place_there : AreLayouts → (cs : List Chunk) (items : List Item) (first k j slot : ℕ) (c : Chunk) → AreChunks cs items
    → slice_get cs k ≡ Some c → slice_get (layout_of c).1 j ≡ Some slot
    → slice_get (places_from first cs) (held cs k + j) ≡ Some (in_bundle (first + k) slot)
place_there laws [] items first k j slot c are there at = absurd (cc)
place_there laws (d ∷ cs) items first zero j slot c (is, are) there at =
    let same : d ≡ c = same_Some d c there in
    let here : slice_get (layout_of d).1 j ≡ Some slot = ap (λ (c : Chunk). slice_get (layout_of c).1 j) same ∙ at in
    let less = slice_get_within (layout_of d).1 j slot here in
    let places : List Place = map (in_bundle first) (layout_of d).1 in
    ap (slice_get (places ++ places_from (first + 1) cs)) (let zero_and : 0 + j ≡ j = omega arith in zero_and)
    ∙ slice_get-append_left places (places_from (first + 1) cs) j
    (subst (λ m. j < m) (sym (length-map (layout_of d).1 (in_bundle first))) less)
    ∙ slice_get-map (in_bundle first) (layout_of d).1 j
    ∙ ap (option_map (in_bundle first)) here
    ∙ ap (λ (n : ℕ). Some (in_bundle n slot)) (let and_zero : first ≡ first + 0 = omega arith in and_zero)
place_there laws (d ∷ cs) items first (suc k) j slot c (is, are) there at =
    let places : List Place = map (in_bundle first) (layout_of d).1 in
    let count : length d.wanted ≡ length places = sym (length-map (layout_of d).1 (in_bundle first) ∙ (counted laws d is.laid).0) in
    ap (slice_get (places ++ places_from (first + 1) cs)) (let number : length d.wanted + held cs k + j
    ≡ length places + (held cs k + j) = omega arith in number)
    ∙ slice_get-append_right places (places_from (first + 1) cs) (held cs k + j)
    ∙ place_there laws cs (drop (length d.wanted) items) (first + 1) k j slot c are there at
    ∙ ap (λ (n : ℕ). Some (in_bundle n slot)) (let next : first + 1 + k ≡ first + suc k = omega arith in next)

pub placed : AreLayouts → (cs : List Chunk) (items : List Item) (n k j : ℕ) (c : Chunk) → AreChunks cs items → IsAt cs n k j c
    → IsInLayout cs n k j c
unfolding place_of
placed laws cs items n k j c are at =
    let put = put_at laws cs items k c are at.there in
    let found = element (layout_of c).1 j (subst (λ m. j < m) (sym put.count) at.inside) in
    let place = place_there laws cs items 0 k j found.0 c are at.there found.1 in
    record {
      slot = found.0;
      there = found.1;
      place = get_or_from_slice_get (places_of cs) n (in_bundle k found.0) (first_of 0)
          (ap (slice_get (places_of cs)) (sym at.number) ∙ place ∙ ap (λ (n : ℕ). Some (in_bundle n found.0))
          (let zero_and : 0 + k ≡ k = omega arith in zero_and));
    }

-- There are as many places as instructions.
pub length-places : AreLayouts → (cs : List Chunk) (items : List Item) (first : ℕ) → AreChunks cs items
    → length (places_from first cs) ≡ length items
length-places laws [] [] first are = refl
length-places laws [] (item ∷ items) first are = absurd are
length-places laws (c ∷ cs) items first (is, are) =
    let places : List Place = map (in_bundle first) (layout_of c).1 in
    let count : length places ≡ length c.wanted = length-map (layout_of c).1 (in_bundle first) ∙ (counted laws c is.laid).0 in
    let rest = length-places laws cs (drop (length c.wanted) items) (first + 1) are in
    let room = fits c items is in
    omega (arith, length-append places (places_from (first + 1) cs), length-drop (length c.wanted) items)

-- Whose bundle is that of its chunk.
pub bundle_there : AreLayouts → (cs : List Chunk) (items : List Item) (n k j : ℕ) (c : Chunk) → AreChunks cs items → IsAt cs n k j c
    → bundle_of cs n ≡ k
bundle_there laws cs items n k j c are at = ap (λ (p : Place). p.bundle) (placed laws cs items n k j c are at).place

-- What the chunk says of it.
pub part_there : {X : Type 0} (cs : List Chunk) (xs : List X) (n k j : ℕ) (c : Chunk) → IsAt cs n k j c
    → slice_get (part_of cs k c xs) j ≡ slice_get xs n
part_there cs xs n k j c at = slice_get-part (length c.wanted) (held cs k) xs j at.inside ∙ ap (slice_get xs) at.number

class_at : (ws : List Wanted) (items : List Item) (j : ℕ) (w : Wanted) (item : Item) → Holds ws items → slice_get ws j ≡ Some w
    → slice_get items j ≡ Some item
    → w.class ≡ class_of item.insn.op
class_at [] items j w item h at there = absurd (cc)
class_at (v ∷ ws) [] j w item h at there = absurd h
class_at (v ∷ ws) (x ∷ items) zero w item (is, h) at there =
    let first : v ≡ w = same_Some v w at in
    let second : x ≡ item = same_Some x item there in
    ap (λ (w : Wanted). w.class) (sym first) ∙ is ∙ ap (λ (item : Item). class_of item.insn.op) second
class_at (v ∷ ws) (x ∷ items) (suc j) w item (is, h) at there = class_at ws items j w item h at there

pub class_there : AreLayouts → (cs : List Chunk) (items : List Item) (n k j : ℕ) (c : Chunk) (w : Wanted) (item : Item) → AreChunks cs items
    → IsAt cs n k j c
    → slice_get c.wanted j ≡ Some w → slice_get items n ≡ Some item → w.class ≡ class_of item.insn.op
class_there laws cs items n k j c w item are at wanted there =
    class_at c.wanted (part_of cs k c items) j w item (put_at laws cs items k c are at.there).chunk.holds wanted
    (part_there cs items n k j c at ∙ there)

together_at : (items : List Item) (j : ℕ) (x y : Item) → KeepTogether items → slice_get items j ≡ Some x → slice_get items (suc j) ≡ Some y
    → (y.breaks ≡ false) × ¬ IsCall x.insn.op
together_at [] j x y h at next = absurd (cc)
together_at (a ∷ []) zero x y h at next = absurd (cc)
together_at (a ∷ []) (suc j) x y h at next = absurd (cc)
together_at (a ∷ b ∷ items) zero x y (whole, goes_on, h) at next =
    let first : a ≡ x = same_Some a x at in
    let second : b ≡ y = same_Some b y next in
    (subst (λ (y : Item). y.breaks ≡ false) second whole, subst (λ (x : Item). ¬ IsCall x.insn.op) first goes_on)
together_at (a ∷ b ∷ items) (suc j) x y (whole, goes_on, h) at next = together_at (b ∷ items) j x y h at next

-- The one behind another in a bundle doesn't begin one, and the other is no call.
pub together : AreLayouts → (cs : List Chunk) (items : List Item) (n k j : ℕ) (c : Chunk) (x y : Item) → AreChunks cs items
    → IsAt cs (suc n) k (suc j) c
    → slice_get items n ≡ Some x → slice_get items (suc n) ≡ Some y → (y.breaks ≡ false) × ¬ IsCall x.insn.op
together laws cs items n k j c x y are at there next =
    let number = at.number in
    let inside = at.inside in
    let before : IsAt cs n k j c = record { there = at.there; inside = omega arith; number = omega arith } in
    together_at (part_of cs k c items) j x y (put_at laws cs items k c are at.there).chunk.together
    (part_there cs items n k j c before ∙ there) (part_there cs items (suc n) k (suc j) c at ∙ next)

-- Neighbours stand in one bundle, or the one is the last of its bundle and the other the first of the next.
pub next_inside : (cs : List Chunk) (n k j : ℕ) (c : Chunk) → IsAt cs n k j c → suc j < length c.wanted → IsAt cs (suc n) k (suc j) c
next_inside cs n k j c at inside = let number = at.number in record { there = at.there; inside = inside; number = omega arith }

whole : (cs : List Chunk) (items : List Item) → AreChunks cs items → held cs (length cs) ≡ length items
whole [] [] are = refl
whole [] (item ∷ items) are = absurd are
whole (c ∷ cs) items (is, are) =
    let rest = whole cs (drop (length c.wanted) items) are in
    let room = fits c items is in omega (arith, length-drop (length c.wanted) items)

pub next_first : (cs : List Chunk) (items : List Item) (n k j : ℕ) (c : Chunk) → AreLayouts → AreChunks cs items → IsAt cs n k j c
    → suc j ≡ length c.wanted → suc n < length items
    → (d : Chunk) × IsAt cs (suc n) (suc k) 0 d
next_first cs items n k j c laws are at last more =
    let number = at.number in
    let within = slice_get_within cs k c at.there in
    let all = whole cs items are in
    let behind = held-suc cs k c at.there in
    let found = element cs (suc k) (below (cases_lt (suc k) (length cs)) within all behind number) in
    (found.0, record { there = found.1; inside = (put_at laws cs items (suc k) found.0 are found.1).some; number = omega arith })
  where
    below : (suc k < length cs) ⊎ (length cs ≤ suc k) → k < length cs → held cs (length cs) ≡ length items
        → held cs (suc k) ≡ held cs k + length c.wanted → held cs k + j ≡ n → suc k < length cs
    below (inl h) within all behind number = h
    below (inr h) within all behind number =
        let end : length cs ≡ suc k = omega arith in
        let same : held cs (length cs) ≡ held cs (suc k) = ap (held cs) end in absurd (omega arith)

-- The last instruction is the last of the last bundle.
pub last_of_all : (cs : List Chunk) (items : List Item) (n k j : ℕ) (c : Chunk) → AreLayouts → AreChunks cs items → IsAt cs n k j c
    → suc n ≡ length items
    → (suc j ≡ length c.wanted) × (suc k ≡ length cs)
last_of_all cs items n k j c laws are at last =
    let number = at.number in
    let inside = at.inside in
    let room = (put_at laws cs items k c are at.there).within in
    let within = slice_get_within cs k c at.there in
    (omega arith, end (cases_lt (suc k) (length cs)) within number inside (held-suc cs k c at.there))
  where
    end : (suc k < length cs) ⊎ (length cs ≤ suc k) → k < length cs → held cs k + j ≡ n → j < length c.wanted
        → held cs (suc k) ≡ held cs k + length c.wanted → suc k ≡ length cs
    end (inl h) within number inside behind =
        let next = element cs (suc k) h in
        let put = put_at laws cs items (suc k) next.0 are next.1 in
        let room = put.within in
        let some = put.some in absurd (omega arith)
    end (inr h) within number inside behind = omega arith

-- Which instruction is the first of its bundle: one that begins a bundle, and one behind a call.
pub first_there : (cs : List Chunk) (items : List Item) (k : ℕ) (c : Chunk) → AreLayouts → AreChunks cs items → slice_get cs k ≡ Some c
    → IsAt cs (held cs k) k 0 c
first_there cs items k c laws are there = record { there = there; inside = (put_at laws cs items k c are there).some; number = omega arith }

pub below_all : (cs : List Chunk) (items : List Item) (n k j : ℕ) (c : Chunk) → AreLayouts → AreChunks cs items → IsAt cs n k j c
    → n < length items
below_all cs items n k j c laws are at =
    let room = (put_at laws cs items k c are at.there).within in
    let number = at.number in
    let inside = at.inside in omega arith

pub first_is_head : (cs : List Chunk) (items : List Item) (n k : ℕ) (c : Chunk) → AreLayouts → AreChunks cs items → IsAt cs n k 0 c
    → IsHead (place_of cs) n
first_is_head cs items n k c laws are at m less =
    let small = below_all cs items n k 0 c laws are at in
    let one = in_chunk cs items m are (omega arith) in
    let bundle = bundle_there laws cs items m one.bundle one.offset one.chunk are one.at in
    let other = bundle_there laws cs items n k 0 c are at in
    of bundle other (chunks_rise cs m n one.bundle k one.offset 0 one.chunk c one.at at less)
  where
    of : {l i : ℕ} → bundle_of cs m ≡ l → bundle_of cs n ≡ k → (l < k) ⊎ ((l ≡ k) × (i < 0)) → bundle_of cs m < bundle_of cs n
    of is other (inl h) = omega arith
    of is other (inr h) = let none = h.1 in absurd (omega arith)

pub head_is_first : (cs : List Chunk) (items : List Item) (n k j : ℕ) (c : Chunk) → AreLayouts → AreChunks cs items → IsAt cs n k j c
    → IsHead (place_of cs) n → j ≡ 0
head_is_first cs items n k zero c laws are at head = refl
head_is_first cs items n k (suc j) c laws are at head =
    let number = at.number in
    let inside = at.inside in
    let before : IsAt cs (held cs k + j) k j c = record { there = at.there; inside = omega arith; number = refl } in
    let one = bundle_there laws cs items (held cs k + j) k j c are before in
    let other = bundle_there laws cs items n k (suc j) c are at in
    let less = head (held cs k + j) (omega arith) in absurd (omega arith)

-- What breaks is one of the items.
pub breaks_inside : (items : List Item) (n : ℕ) → BreaksAt items n → n < length items
breaks_inside items n breaks = of (slice_get items n) refl breaks
  where
    of : (o : Option Item) → slice_get items n ≡ o → IsSomeAnd o (λ i. i.breaks ≡ true) → n < length items
    of None is h = absurd h
    of (Some i) is h = slice_get_within items n i is

pub begins_first : (cs : List Chunk) (items : List Item) (n k j : ℕ) (c : Chunk) → AreLayouts → AreChunks cs items → IsAt cs n k j c
    → BreaksAt items n → j ≡ 0
begins_first cs items n k zero c laws are at begins = refl
begins_first cs items zero k (suc j) c laws are at begins = let number = at.number in absurd (omega arith)
begins_first cs items (suc n) k (suc j) c laws are at begins =
    let less = breaks_inside items (suc n) begins in
    let one = element items n (omega arith) in
    let two = element items (suc n) less in
    of two.0 two.1 (together laws cs items n k j c one.0 two.0 are at one.1 two.1).0 begins
  where
    of : (y : Item) → slice_get items (suc n) ≡ Some y → y.breaks ≡ false → IsSomeAnd (slice_get items (suc n)) (λ i. i.breaks ≡ true)
        → suc j ≡ 0
    of y there goes_on breaks =
        let yes : y.breaks ≡ true = subst (λ (o : Option Item). IsSomeAnd o (λ i. i.breaks ≡ true)) there breaks in absurd (cc)

pub behind_call_first : (cs : List Chunk) (items : List Item) (n k j : ℕ) (c : Chunk) (x : Item) → AreLayouts → AreChunks cs items
    → IsAt cs (suc n) k j c → slice_get items n ≡ Some x
    → IsCall x.insn.op → j ≡ 0
behind_call_first cs items n k zero c x laws are at there call = refl
behind_call_first cs items n k (suc j) c x laws are at there call =
    let next = element items (suc n) (below_all cs items (suc n) k (suc j) c laws are at) in
    absurd ((together laws cs items n k j c x next.0 are at there next.1).1 call)

pub call_is_last : (cs : List Chunk) (items : List Item) (n k j : ℕ) (c : Chunk) (x : Item) → AreLayouts → AreChunks cs items
    → IsAt cs n k j c → slice_get items n ≡ Some x
    → IsCall x.insn.op → suc j ≡ length c.wanted
call_is_last cs items n k j c x laws are at there call = of (cases_lt (suc j) (length c.wanted)) at.inside
  where
    of : (suc j < length c.wanted) ⊎ (length c.wanted ≤ suc j) → j < length c.wanted → suc j ≡ length c.wanted
    of (inl h) inside =
        let first = behind_call_first cs items n k (suc j) c x laws are (next_inside cs n k j c at h) there call in absurd (omega arith)
    of (inr h) inside = omega arith

-- The first instruction is the first of the first bundle.
pub first_of_all : (cs : List Chunk) (k j : ℕ) (c : Chunk) → IsAt cs 0 k j c → AreLayouts → (items : List Item) → AreChunks cs items
    → (k ≡ 0) × (j ≡ 0)
first_of_all cs zero j c at laws items are = (refl, (let number = at.number in omega arith))
first_of_all [] (suc k) j c at laws items are = let there = at.there in absurd (cc)
first_of_all (d ∷ cs) (suc k) j c at laws items are =
    let number = at.number in
    let some = (put_at laws (d ∷ cs) items 0 d are refl).some in absurd (omega arith)

-- Whether a stop is wanted behind an instruction.
pub gap_inside : (ws : List Wanted) (end : Bool) (j : ℕ) (x : Wanted) → slice_get ws (suc j) ≡ Some x
    → slice_get (gaps_in ws end) j ≡ Some x.gap
gap_inside [] end j x at = absurd (cc)
gap_inside (w ∷ []) end zero x at = absurd (cc)
gap_inside (w ∷ []) end (suc j) x at = absurd (cc)
gap_inside (w ∷ y ∷ ws) end zero x at = ap (λ (x : Wanted). Some x.gap) (same_Some y x at)
gap_inside (w ∷ y ∷ ws) end (suc j) x at = gap_inside (y ∷ ws) end j x at

pub gap_last : (ws : List Wanted) (end : Bool) (j : ℕ) → suc j ≡ length ws → slice_get (gaps_in ws end) j ≡ Some end
gap_last [] end j last = absurd (omega arith)
gap_last (w ∷ []) end zero last = refl
gap_last (w ∷ []) end (suc j) last = absurd (omega arith)
gap_last (w ∷ y ∷ ws) end zero last = absurd (omega arith)
gap_last (w ∷ y ∷ ws) end (suc j) last = gap_last (y ∷ ws) end j (omega arith)

length-gaps_in : (ws : List Wanted) (end : Bool) → length (gaps_in ws end) ≡ length ws
length-gaps_in [] end = refl
length-gaps_in (w ∷ []) end = refl
length-gaps_in (w ∷ x ∷ ws) end = ap suc (length-gaps_in (x ∷ ws) end)

pub gap_there : (cs : List Chunk) (k j : ℕ) (c : Chunk) → slice_get cs k ≡ Some c → j < length c.wanted
    → slice_get (gaps_of cs) (held cs k + j) ≡ slice_get (gaps_in c.wanted c.end) j
gap_there [] k j c there inside = absurd (cc)
gap_there (d ∷ cs) zero j c there inside =
    let same : d ≡ c = same_Some d c there in
    let less : j < length (gaps_in d.wanted d.end) =
    subst (λ m. j < m) (sym (length-gaps_in d.wanted d.end ∙ ap (λ (c : Chunk). length c.wanted) same)) inside in
    ap (slice_get (gaps_in d.wanted d.end ++ gaps_of cs)) (let zero_and : 0 + j ≡ j = omega arith in zero_and)
    ∙ slice_get-append_left (gaps_in d.wanted d.end) (gaps_of cs) j less
    ∙ ap (λ (c : Chunk). slice_get (gaps_in c.wanted c.end) j) same
gap_there (d ∷ cs) (suc k) j c there inside =
    let count = length-gaps_in d.wanted d.end in
    ap (slice_get (gaps_in d.wanted d.end ++ gaps_of cs)) (let number : length d.wanted + held cs k + j
    ≡ length (gaps_in d.wanted d.end) + (held cs k + j) = omega arith in number)
    ∙ slice_get-append_right (gaps_in d.wanted d.end) (gaps_of cs) (held cs k + j)
    ∙ gap_there cs k j c there inside
