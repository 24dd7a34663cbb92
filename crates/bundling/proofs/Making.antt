-- What is made of a loose text: its layouts, its instructions with their targets put in, and its bundles.
use Rattle.std.proofs.Common.{arith, ◌≡◌, ◌⊎◌, ℕ, zero, suc, ◌+◌, ◌*◌, ◌<◌, ◌≤◌, inl, inr, refl, sym, ◌∙◌, ap, subst, List, [], ◌∷◌, ◌++◌, length, take, drop, get_or, sum, Option, Some, None, IsSome, slice_get}
use Rattle.std.specs.Prelude.{IfSome, map, option_map, slice_index_or, sum_by}
use Rattle.std.proofs.lemmas.Bool.{cases_lt}
use Rattle.std.proofs.lemmas.List.{get_or-map, get_or_past, length-drop}
use Rattle.std.proofs.lemmas.List.Sums.{sum-map, sum_by-cons}
use Rattle.std.proofs.lemmas.Option.{slice_get_within, slice_get-get_or, get_or_from_slice_get}
use Rattle.ia_insn.specs.declared.insn.Insn.{Insn}
use Rattle.ia_insn.specs.declared.insn.Op.{Op}
use Rattle.ia_program.specs.declared.limits.TheConstants.{BUNDLE_LIMIT}
use Rattle.ia_program.specs.declared.place.Place.{Place}
use Rattle.ia_program.specs.declared.relations.Relation.{Relation}
use Rattle.ia_program.specs.Bundles.{Bundle, IsBundle, AreBundles}
use Rattle.ia_program.specs.Programs.{Program}
use Rattle.ia_meaning.specs.Sequence.{first_of}
use Rattle.slot_layouts.specs.Layouts.{laid_out}
use Rattle.slot_layouts.specs.Filled.{filled}
use Rattle.asm_build.specs.declared.address.Address.{Address}
use Rattle.asm_build.specs.declared.address.Address.TheVariants.{Bundle as BundleAddress, Byte}
use Rattle.asm_build.specs.Addresses.{IsReachable}
use Rattle.loose_items.specs.declared.item.Item.{Item}
use Rattle.loose_text.specs.LooseTexts.{Loose, IsLoose, IsTargetOf}
use Rattle.bundling.specs.Chunk.{Chunk}
use Rattle.bundling.specs.Chunks.{AreChunks}
use Rattle.bundling.specs.Bundled.{relocated, targeted, layout_of, places_of, place_of, bundle_of, bundle_in, bundles_from, relation_moved, program_of}
use Rattle.bundling.proofs.Lists.{slice_get-append_right}
use Rattle.bundling.proofs.Targeting.{item_at}
use Rattle.bundling.proofs.Locating.{breaks_inside, AreLayouts, put_at, in_chunk, bundle_there, length-places}

-- Each chunk has a layout.
pub each_laid : AreLayouts → (cs : List Chunk) (items : List Item) → AreChunks cs items → (n : ℕ)
    → IfSome (slice_get cs n) (λ c. IsSome (laid_out c.wanted c.end))
each_laid laws cs items are n = of (slice_get cs n) refl
  where
    of : (o : Option Chunk) → slice_get cs n ≡ o → IfSome o (λ c. IsSome (laid_out c.wanted c.end))
    of None there = tt
    of (Some c) there = (put_at laws cs items n c are there).chunk.laid

-- Together they hold all instructions.
held_by_all : AreLayouts → (cs : List Chunk) (items : List Item) → AreChunks cs items
    → sum_by (λ (c : Chunk). length c.wanted) cs ≡ length items
held_by_all laws [] [] are = refl
held_by_all laws [] (item ∷ items) are = absurd are
held_by_all laws (c ∷ cs) items are =
    let room = (put_at laws (c ∷ cs) items 0 c are refl).within in
    let rest = held_by_all laws cs (drop (length c.wanted) items) are.1 in
    omega (arith, sum_by-cons (λ (c : Chunk). length c.wanted) c cs, room, rest, length-drop (length c.wanted) items)

pub wanted_in_all : AreLayouts → (cs : List Chunk) (items : List Item) → AreChunks cs items
    → sum (map (λ c. length c.wanted) cs) ≡ length items
wanted_in_all laws cs items are = sum-map (λ (c : Chunk). length c.wanted) cs ∙ held_by_all laws cs items are

-- The bundle of each place is one that a program may have.
pub places_small : AreLayouts → (cs : List Chunk) (items : List Item) → AreChunks cs items → length cs ≤ BUNDLE_LIMIT → (n : ℕ)
    → bundle_in (places_of cs) n < BUNDLE_LIMIT
unfolding place_of
places_small laws cs items are few n = of (cases_lt n (length items))
  where
    of : (n < length items) ⊎ (length items ≤ n) → bundle_in (places_of cs) n < BUNDLE_LIMIT
    of (inl less) =
        let one = in_chunk cs items n are less in
        let is : bundle_in (places_of cs) n ≡ one.bundle = bundle_there laws cs items n one.bundle one.offset one.chunk are one.at in
        let within = slice_get_within cs one.bundle one.chunk one.at.there in omega (arith, is, within, few)
    of (inr past) =
        let count = length-places laws cs items 0 are in
        let none : bundle_in (places_of cs) n ≡ 0 =
        ap (λ (p : Place). p.bundle) (get_or_past (places_of cs) n (first_of 0) (omega (arith, count, past))) in omega (arith, none)

-- What a target names is near enough.
aimed_within : (items : List Item) (x : Op) (target : Option Address) → length items ≤ 3 * BUNDLE_LIMIT → IsTargetOf items x target
    → IfSome target IsReachable
aimed_within items x None few aimed = tt
aimed_within items x (Some (BundleAddress m)) few (some, begins) = let less = breaks_inside items m begins in omega (arith, less, few)
aimed_within items x (Some (Byte at)) few (some, small) = small

pub target_within : (s : Loose) (n : ℕ) → IsLoose s → n < length s.items → IfSome (slice_index_or s.targets n None) IsReachable
target_within s n loose less =
    let is = item_at s n loose less in
    subst (λ (t : Option Address). IfSome t IsReachable) (sym (get_or_from_slice_get s.targets n is.target None is.aim))
    (aimed_within s.items is.item.insn.op is.target loose.few is.aimed)

pub moved_within : (f : ℕ → ℕ) (target : Option Address) → ((n : ℕ) → f n < BUNDLE_LIMIT) → IfSome target IsReachable
    → IfSome (option_map (relocated f) target) IsReachable
moved_within f None near within = tt
moved_within f (Some (BundleAddress m)) near within = let less = near m in omega (arith, less)
moved_within f (Some (Byte at)) near within = within

-- The next bundle fits its template.
middle_fits : (front : List Bundle) (b : Bundle) (rest all : List Bundle) → AreBundles all → front ++ b ∷ rest ≡ all → IsBundle b
middle_fits front b rest all fit is =
    let at : slice_get all (length front + 0) ≡ Some b =
    ap (λ bs. slice_get bs (length front + 0)) (sym is) ∙ slice_get-append_right front (b ∷ rest) 0 in
    subst (λ (o : Option Bundle). IfSome o IsBundle) at (fit (length front + 0))

drop_there : {X : Type 0} (xs : List X) (n : ℕ) (x : X) → slice_get xs n ≡ Some x → drop n xs ≡ x ∷ drop (n + 1) xs
drop_there [] n x there = absurd (cc)
drop_there (y ∷ xs) zero x there = let same : y ≡ x = cc in ap (λ y. y ∷ xs) same
drop_there (y ∷ xs) (suc n) x there =
    drop_there xs n x there ∙ ap (λ m. x ∷ drop m (y ∷ xs)) (let next : suc (n + 1) ≡ suc n + 1 = omega arith in next)

read_there : {X : Type 0} (xs : List X) (n : ℕ) (x : X) → n < length xs → x ≡ get_or xs n x → slice_get xs n ≡ Some x
read_there xs n x less is = slice_get-get_or xs n x less ∙ ap Some (sym is)

pub next_fits : (chunks : List Chunk) (insns rest : List Insn) (front : List Bundle) (n : ℕ) (c : Chunk)
    → AreBundles (bundles_from chunks insns)
    → front ++ bundles_from (drop n chunks) rest ≡ bundles_from chunks insns → slice_get chunks n ≡ Some c
    → IsBundle (filled (layout_of c).0 (layout_of c).1 (take (length c.wanted) rest))
next_fits chunks insns rest front n c fit is there =
    let this = filled (layout_of c).0 (layout_of c).1 (take (length c.wanted) rest) in
    let others = bundles_from (drop (n + 1) chunks) (drop (length c.wanted) rest) in
    let same : front ++ this ∷ others ≡ front ++ bundles_from (drop n chunks) rest =
    ap (λ cs. front ++ bundles_from cs rest) (sym (drop_there chunks n c there)) in
    middle_fits front this others (bundles_from chunks insns) fit (same ∙ is)

pub next_layout_fits : (chunks : List Chunk) (layouts : List (ℕ × List ℕ)) (insns rest held : List Insn) (front : List Bundle) (n count : ℕ)
    (c : Chunk) (layout : ℕ × List ℕ) → AreBundles (bundles_from chunks insns)
    → front ++ bundles_from (drop n chunks) rest ≡ bundles_from chunks insns → layouts ≡ map layout_of chunks → n < length chunks
    → c ≡ get_or chunks n c → layout ≡ get_or layouts n layout
    → count ≡ length c.wanted → held ≡ take count rest → IsBundle (filled layout.0 layout.1 held)
next_layout_fits chunks layouts insns rest held front n count c layout fit is laid less at put many front_is =
    let there = read_there chunks n c less at in
    let same : layout_of c ≡ layout =
    ap layout_of at ∙ sym (get_or-map layout_of chunks n c layout less) ∙ ap (λ ls. get_or ls n layout) (sym laid) ∙ sym put in
    let part : take (length c.wanted) rest ≡ held = ap (λ m. take m rest) (sym many) ∙ sym front_is in
    subst (λ (l : ℕ × List ℕ). IsBundle (filled l.0 l.1 held)) same
    (subst (λ (is : List Insn). IsBundle (filled (layout_of c).0 (layout_of c).1 is)) part
    (next_fits chunks insns rest front n c fit is there))

-- What is put in by places is what is put in by chunks.
pub same_insns : (s : Loose) (cs : List Chunk) (places : List Place) → places ≡ places_of cs
    → targeted (bundle_in places) s ≡ targeted (bundle_of cs) s
unfolding place_of
same_insns s cs places is = ap (λ (ps : List Place). targeted (bundle_in ps) s) is

same_entries : (cs : List Chunk) (places : List Place) (entries : List ℕ) → places ≡ places_of cs
    → map (bundle_in places) entries ≡ map (bundle_of cs) entries
unfolding place_of
same_entries cs places entries is = ap (λ (ps : List Place). map (bundle_in ps) entries) is

same_relations : (cs : List Chunk) (places : List Place) (relations : List Relation) → places ≡ places_of cs
    → map (relation_moved (bundle_in places)) relations ≡ map (relation_moved (bundle_of cs)) relations
unfolding place_of
same_relations cs places relations is = ap (λ (ps : List Place). map (relation_moved (bundle_in ps)) relations) is

-- These parts are those of the program.
abbrev pub of_parts : List Bundle → List ℕ → List ℕ → List Relation → Program
of_parts bundles entries bytes relations = record { bundles = bundles; entries = entries; bytes = bytes; relations = relations }

same_parts : {a b : List Bundle} {c d e f : List ℕ} {g h : List Relation} → a ≡ b → c ≡ d → e ≡ f → g ≡ h
    → of_parts a c e g ≡ of_parts b d f h
same_parts one two three four = cc

pub parts_are : (s : Loose) (cs : List Chunk) (ps qs rs : List Place) (insns : List Insn) (bundles : List Bundle)
    (given entries bytes : List ℕ) (others relations : List Relation)
    → ps ≡ places_of cs → qs ≡ places_of cs → rs ≡ places_of cs → insns ≡ targeted (bundle_in ps) s → bundles ≡ bundles_from cs insns
    → given ≡ s.entries → entries ≡ map (bundle_in qs) given
    → bytes ≡ s.bytes → others ≡ s.relations → relations ≡ map (relation_moved (bundle_in rs)) others
    → of_parts bundles entries bytes relations ≡ program_of s cs
parts_are s cs ps qs rs insns bundles given entries bytes others relations p q r put made declared mapped copied related carried =
    let one : bundles ≡ (program_of s cs).bundles = made ∙ ap (bundles_from cs) (put ∙ same_insns s cs ps p) in
    let two : entries ≡ (program_of s cs).entries = mapped ∙ ap (map (bundle_in qs)) declared ∙ same_entries cs qs s.entries q in
    let four : relations ≡ (program_of s cs).relations =
    carried ∙ ap (map (relation_moved (bundle_in rs))) related ∙ same_relations cs rs s.relations r in
    same_parts one two copied four
