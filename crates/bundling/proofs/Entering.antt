-- The entries of the program are the bundles of those of the sequence, and declare the same.
use Rattle.std.proofs.Common.{arith, ◌≡◌, ℕ, zero, suc, ◌-◌, ◌<◌, ◌≤◌, ◌⊎◌, inl, inr, refl, sym, ◌∙◌, ap, subst, Bool, true, false, ◌==◌, cond, List, [], ◌∷◌, map, length, Option, Some, None, slice_get, if◌then◌else◌, Contains}
use Rattle.std.specs.Prelude.{IsSomeAnd}
use Rattle.std.proofs.lemmas.Bool.Decides.{same_from_decides, Decides-eqb}
use Rattle.std.proofs.lemmas.Option.{same_Some, slice_get_within}
use Rattle.ia_insn.specs.declared.insn.Insn.{Insn}
use Rattle.ia_program.specs.declared.place.Place.{Place}
use Rattle.ia_program.specs.declared.relations.Relation.{Relation}
use Rattle.ia_program.specs.declared.bundle.Slots.{Slots}
use Rattle.ia_program.specs.declared.bundle.Slots.TheVariants.{Three, Long}
use Rattle.ia_program.specs.Bundles.{Bundle, slot_insn}
use Rattle.ia_program.specs.Places.{bundle_insn, insn_at}
use Rattle.ia_program.specs.Programs.{IsCall, HasCall, IsAfterCall, IsEntryOf, no_relation, relation_at, relations_at}
use Rattle.resource_sets.proofs.Members.{in_map, from_map}
use Rattle.predicate_rel.specs.Pairs.{Pairs, no_pairs, with_pair}
use Rattle.flow_facts.specs.Graphs.{IsSequenceEntry, with_relations, known_at_entry}
use Rattle.slot_layouts.specs.Filled.{filled}
use Rattle.sequence_laws.specs.Spreads.{IsFiller, IsHead}
use Rattle.loose_items.specs.declared.item.Item.{Item}
use Rattle.loose_text.specs.LooseTexts.{Loose, IsLoose, BreaksAt}
use Rattle.bundling.specs.Chunk.{Chunk}
use Rattle.bundling.specs.Chunks.{AreChunks}
use Rattle.bundling.specs.Bundled.{sequence_of, targeted, layout_of, place_of, bundle_of, relation_moved}
use Rattle.bundling.proofs.Lists.{element}
use Rattle.std.proofs.lemmas.List.Elements.{Contains-get_or}
use Rattle.bundling.proofs.Locating.{breaks_inside, AreLayouts, held, part_of, IsAt, in_chunk, held-suc, length-bundles, bundle_at, in_bundle, placed, bundle_there, next_first, first_there, below_all, first_is_head, head_is_first, begins_first, behind_call_first, call_is_last, first_of_all}
use Rattle.bundling.proofs.Targeting.{put, length-targeted, item_at, insn_there, has_instructions, call_put}
use Rattle.bundling.proofs.Spreading.{itself, bundles_of, fillers}

-- Calls of a bundle.
call_there : (slots : Slots) (slot : ℕ) (i : Insn) → slot_insn slots slot ≡ Some i → IsCall i.op → HasCall slots
call_there (Three a b c) slot i at call = of (slot == 0) (slot == 1) (slot == 2) at
  where
    here : (x : Insn) → Some x ≡ Some i → IsCall x.op
    here x h = subst (λ (i : Insn). IsCall i.op) (sym (same_Some x i h)) call

    of : (x y z : Bool) → (if x then Some a else if y then Some b else if z then Some c else None) ≡ Some i → HasCall (Three a b c)
    of true y z h = inl (here a h)
    of false true z h = inr (inl (here b h))
    of false false true h = inr (inr (here c h))
    of false false false h = absurd (cc)
call_there (Long a b) slot i at call = of (slot == 0) (slot == 1) at
  where
    here : (x : Insn) → Some x ≡ Some i → IsCall x.op
    here x h = subst (λ (i : Insn). IsCall i.op) (sym (same_Some x i h)) call

    of : (x y : Bool) → (if x then Some a else if y then Some b else None) ≡ Some i → HasCall (Long a b)
    of true y h = inl (here a h)
    of false true h = inr (here b h)
    of false false h = absurd (cc)

record CallIn (slots : Slots) : Type 0 where
  pub slot : ℕ
  pub insn : Insn
  pub there : slot_insn slots slot ≡ Some insn
  pub call : IsCall insn.op

which_call : (slots : Slots) → HasCall slots → CallIn slots
which_call (Three a b c) (inl h) = record { slot = 0; insn = a; there = refl; call = h }
which_call (Three a b c) (inr (inl h)) = record { slot = 1; insn = b; there = refl; call = h }
which_call (Three a b c) (inr (inr h)) = record { slot = 2; insn = c; there = refl; call = h }
which_call (Long a b) (inl h) = record { slot = 0; insn = a; there = refl; call = h }
which_call (Long a b) (inr h) = record { slot = 1; insn = b; there = refl; call = h }

-- A call with its target put in is one, by whatever it counts.
call_of_item : (f g : ℕ → ℕ) (s : Loose) (n : ℕ) → IsLoose s → n < length s.items
    → IsSomeAnd (slice_get (targeted f s) n) (λ i. IsCall i.op)
    → IsSomeAnd (slice_get (targeted g s) n) (λ i. IsCall i.op)
call_of_item f g s n loose less call =
    let it = item_at s n loose less in
    let here : IsCall (put f n it.item it.target).op = subst (λ (o : Option Insn). IsSomeAnd o (λ i. IsCall i.op)) (it.put_in f) call in
    subst (λ (o : Option Insn). IsSomeAnd o (λ i. IsCall i.op)) (sym (it.put_in g))
    ((call_put g (g n) it.item.insn.op it.target).0 ((call_put f (f n) it.item.insn.op it.target).1 here))

item_calls : (f : ℕ → ℕ) (s : Loose) (n : ℕ) (item : Item) → IsLoose s → slice_get s.items n ≡ Some item
    → IsSomeAnd (slice_get (targeted f s) n) (λ i. IsCall i.op) → IsCall item.insn.op
item_calls f s n item loose there call =
    let it = item_at s n loose (slice_get_within s.items n item there) in
    let here : IsCall (put f n it.item it.target).op = subst (λ (o : Option Insn). IsSomeAnd o (λ i. IsCall i.op)) (it.put_in f) call in
    let same : it.item ≡ item = same_Some it.item item (sym it.there ∙ there) in
    subst (λ x. IsCall x.insn.op) same ((call_put f (f n) it.item.insn.op it.target).1 here)

-- A bundle with a call ends with it.
pub record EndsWithCall (s : Loose) (cs : List Chunk) (k : ℕ) : Type 0 where
  pub last : ℕ
  pub inside : last < length s.items
  pub call : IsSomeAnd (slice_get (targeted itself s) last) (λ i. IsCall i.op)
  pub next : held cs (suc k) ≡ suc last

nop_calls_not : (i : Insn) → IsFiller i → IsCall i.op → ⊥
nop_calls_not i (unit, nop) call = subst (λ (i : Insn). IsCall i.op) nop call

ends_with_call : AreLayouts → (s : Loose) (cs : List Chunk) → IsLoose s → AreChunks cs s.items → (k : ℕ) (b : Bundle)
    → slice_get (bundles_of s cs) k ≡ Some b → HasCall b.slots
    → EndsWithCall s cs k
unfolding insn_at
ends_with_call laws s cs loose are k b is has =
    of (fillers laws cs s.items (targeted (bundle_of cs) s) are (in_bundle k found.slot) found.insn here)
  where
    found : CallIn b.slots
    found = which_call b.slots has

    here : insn_at (bundles_of s cs) (in_bundle k found.slot) ≡ Some found.insn
    here = ap (λ o. bundle_insn o found.slot) is ∙ found.there

    of : ((n : ℕ) × (n < length s.items) × (in_bundle k found.slot ≡ place_of cs n)) ⊎ IsFiller found.insn → EndsWithCall s cs k
    of (inr nop) = absurd (nop_calls_not found.insn nop found.call)
    of (inl (n, less, same)) =
        let one = in_chunk cs s.items n are less in
        let bundle : k ≡ one.bundle =
        ap (λ (p : Place). p.bundle) same ∙ bundle_there laws cs s.items n one.bundle one.offset one.chunk are one.at in
        let there : slice_get (targeted (bundle_of cs) s) n ≡ Some found.insn =
        sym (has_instructions laws s cs (bundle_of cs) n loose are less) ∙ ap (insn_at (bundles_of s cs)) (sym same) ∙ here
        in
        let call : IsSomeAnd (slice_get (targeted (bundle_of cs) s) n) (λ i. IsCall i.op) =
        subst (λ (o : Option Insn). IsSomeAnd o (λ i. IsCall i.op)) (sym there) found.call in
        let item = element s.items n less in
        let last =
        call_is_last cs s.items n one.bundle one.offset one.chunk item.0 laws are one.at item.1
        (item_calls (bundle_of cs) s n item.0 loose item.1 call) in
        let behind = held-suc cs one.bundle one.chunk one.at.there in
        let number = one.at.number in
        record {
          last = n;
          inside = less;
          call = call_of_item (bundle_of cs) itself s n loose less call;
          next = ap (λ (k : ℕ). held cs (suc k)) bundle ∙ (let next : held cs (suc one.bundle) ≡ suc n = omega arith in next);
        }

-- An entry of the program is the bundle of an entry of the sequence.
held_none : (cs : List Chunk) → held cs 0 ≡ 0
held_none [] = refl
held_none (c ∷ cs) = refl

pub entry_from : AreLayouts → (s : Loose) (cs : List Chunk) → IsLoose s → AreChunks cs s.items → (bundle : ℕ)
    → IsEntryOf (bundles_of s cs) (map (bundle_of cs) s.entries) bundle
    → (n : ℕ) × IsSequenceEntry (sequence_of s) n × (bundle_of cs n ≡ bundle) × IsHead (place_of cs) n
entry_from laws s cs loose are bundle entry =
    let chunk = element cs bundle (subst (λ m. bundle < m) (length-bundles cs (targeted (bundle_of cs) s)) entry.inside) in
    let first = first_there cs s.items bundle chunk.0 laws are chunk.1 in (
      held cs bundle,
      record {
        inside = subst (λ m. held cs bundle < m) (sym (length-targeted itself 0 s.items s.targets loose.targets))
            (below_all cs s.items (held cs bundle) bundle 0 chunk.0 laws are first);
        kind = kind bundle entry.kind;
      },
      bundle_there laws cs s.items (held cs bundle) bundle 0 chunk.0 are first,
      first_is_head cs s.items (held cs bundle) bundle chunk.0 laws are first,
    )
  where
    declared : (bundle n : ℕ) → Contains s.entries n → bundle_of cs n ≡ bundle → Contains s.entries (held cs bundle)
    declared bundle n contains is =
        let begins = loose.entries_break n contains in
        let one = in_chunk cs s.items n are (breaks_inside s.items n begins) in
        let first = begins_first cs s.items n one.bundle one.offset one.chunk laws are one.at begins in
        let same : one.bundle ≡ bundle = sym (bundle_there laws cs s.items n one.bundle one.offset one.chunk are one.at) ∙ is in
        let number = one.at.number in
        let number_of_first : n ≡ held cs one.bundle = omega arith in
        subst (Contains s.entries) (number_of_first ∙ ap (held cs) same) contains

    kind : (bundle : ℕ) → (bundle ≡ 0) ⊎ (Contains (map (bundle_of cs) s.entries) bundle ⊎ IsAfterCall (bundles_of s cs) bundle)
        → (held cs bundle ≡ 0) ⊎ (Contains s.entries (held cs bundle)
        ⊎ ((1 ≤ held cs bundle) × IsSomeAnd (slice_get (targeted itself s) (held cs bundle - 1)) (λ i. IsCall i.op)))
    kind bundle (inl first) = inl (ap (held cs) first ∙ held_none cs)
    kind bundle (inr (inl contains)) =
        let found = from_map (bundle_of cs) s.entries bundle contains in inr (inl (declared bundle found.0 found.1 found.2))
    kind zero (inr (inr after)) = absurd (let some = after.0 in omega arith)
    kind (suc k) (inr (inr (some, call))) =
        let before : suc k - 1 ≡ k = omega arith in
        inr (inr (behind (slice_get (bundles_of s cs) k) refl (subst (λ m. IsSomeAnd (slice_get (bundles_of s cs) m) (λ b. HasCall b.slots))
        before call)))
      where
        behind : (o : Option Bundle) → slice_get (bundles_of s cs) k ≡ o → IsSomeAnd o (λ b. HasCall b.slots)
            → (1 ≤ held cs (suc k)) × IsSomeAnd (slice_get (targeted itself s) (held cs (suc k) - 1)) (λ i. IsCall i.op)
        behind None is has = absurd has
        behind (Some b) is has =
            let ends = ends_with_call laws s cs loose are k b is has in
            let next = ends.next in
            let last : held cs (suc k) - 1 ≡ ends.last = omega arith in
            (omega arith, subst (λ m. IsSomeAnd (slice_get (targeted itself s) m) (λ i. IsCall i.op)) (sym last) ends.call)

-- The instruction behind a call of the sequence stands in a bundle behind one with a call.
behind_call : AreLayouts → (s : Loose) (cs : List Chunk) → IsLoose s → AreChunks cs s.items → (m : ℕ) → suc m < length s.items
    → IsSomeAnd (slice_get (targeted itself s) m) (λ i. IsCall i.op) → IsAfterCall (bundles_of s cs) (bundle_of cs (suc m))
behind_call laws s cs loose are m more call =
    let less : m < length s.items = omega arith in
    let one = in_chunk cs s.items m are less in
    let item = item_at s m loose less in
    let calls = item_calls itself s m item.item loose item.there call in
    let last = call_is_last cs s.items m one.bundle one.offset one.chunk item.item laws are one.at item.there calls in
    let next = next_first cs s.items m one.bundle one.offset one.chunk laws are one.at last more in
    let bundle = bundle_there laws cs s.items (suc m) (suc one.bundle) 0 next.0 are next.1 in
    let place = placed laws cs s.items m one.bundle one.offset one.chunk are one.at in
    let insns = targeted (bundle_of cs) s in
    let there : slot_insn (filled (layout_of one.chunk).0 (layout_of one.chunk).1 (part_of cs one.bundle one.chunk insns)).slots place.slot
    ≡ Some (put (bundle_of cs) m item.item item.target) =
    sym (insn_there cs insns one.bundle place.slot one.chunk one.at.there) ∙ ap (insn_at (bundles_of s cs)) (sym place.place)
    ∙ has_instructions laws s cs (bundle_of cs) m loose are less ∙ item.put_in (bundle_of cs)
    in
    let has = call_there _ place.slot _ there ((call_put (bundle_of cs) (bundle_of cs m) item.item.insn.op item.target).0 calls) in
    let before : suc one.bundle - 1 ≡ one.bundle = omega arith in
    let here : IsSomeAnd (slice_get (bundles_of s cs) one.bundle) (λ b. HasCall b.slots) =
    subst (λ (o : Option Bundle). IsSomeAnd o (λ b. HasCall b.slots)) (sym (bundle_at cs insns one.bundle one.chunk one.at.there)) has
    in
    subst (IsAfterCall (bundles_of s cs)) (sym bundle) (
      omega arith,
      subst (λ m. IsSomeAnd (slice_get (bundles_of s cs) m) (λ b. HasCall b.slots)) (sym before) here,
    )

pub entry_of : AreLayouts → (s : Loose) (cs : List Chunk) → IsLoose s → AreChunks cs s.items → (n : ℕ) → IsSequenceEntry (sequence_of s) n
    → IsEntryOf (bundles_of s cs) (map (bundle_of cs) s.entries) (bundle_of cs n) × IsHead (place_of cs) n
entry_of laws s cs loose are n entry =
    let less : n < length s.items = subst (λ m. n < m) (length-targeted itself 0 s.items s.targets loose.targets) entry.inside in
    let one = in_chunk cs s.items n are less in
    let bundle = bundle_there laws cs s.items n one.bundle one.offset one.chunk are one.at in
    let known = kind n less one.bundle one.offset one.chunk one.at bundle entry.kind in
    let first : IsAt cs n one.bundle 0 one.chunk = subst (λ j. IsAt cs n one.bundle j one.chunk) known.0 one.at in (
      record {
        inside =
            subst (λ m. bundle_of cs n < m) (sym (length-bundles cs (targeted (bundle_of cs) s)))
            (subst (λ m. m < length cs) (sym bundle) (slice_get_within cs one.bundle one.chunk one.at.there));
        kind = known.1;
      },
      first_is_head cs s.items n one.bundle one.chunk laws are first,
    )
  where
    kind : (n : ℕ) → n < length s.items → (k j : ℕ) (c : Chunk) → IsAt cs n k j c → bundle_of cs n ≡ k
        → (n ≡ 0) ⊎ (Contains s.entries n ⊎ ((1 ≤ n) × IsSomeAnd (slice_get (targeted itself s) (n - 1)) (λ i. IsCall i.op)))
        → (j ≡ 0) × ((bundle_of cs n ≡ 0) ⊎ (Contains (map (bundle_of cs) s.entries) (bundle_of cs n)
        ⊎ IsAfterCall (bundles_of s cs) (bundle_of cs n)))
    kind n less k j c at bundle (inl first) =
        let all = first_of_all cs k j c (subst (λ n. IsAt cs n k j c) first at) laws s.items are in (all.1, inl (bundle ∙ all.0))
    kind n less k j c at bundle (inr (inl contains)) = (
      begins_first cs s.items n k j c laws are at (loose.entries_break n contains),
      inr (inl (in_map (bundle_of cs) s.entries n contains)),
    )
    kind zero less k j c at bundle (inr (inr after)) = absurd (let some = after.0 in omega arith)
    kind (suc m) less k j c at bundle (inr (inr (some, call))) =
        let before : suc m - 1 ≡ m = omega arith in
        let here : IsSomeAnd (slice_get (targeted itself s) m) (λ i. IsCall i.op) =
        subst (λ m. IsSomeAnd (slice_get (targeted itself s) m) (λ i. IsCall i.op)) before call in
        let item = element s.items m (omega arith) in (
          behind_call_first cs s.items m k j c item.0 laws are at item.1 (item_calls itself s m item.0 loose item.1 here),
          inr (inr (behind_call laws s cs loose are m less here)),
        )

-- It declares the same: relations are of instructions that begin bundles, which are told apart by their bundles.
apart : AreLayouts → (s : Loose) (cs : List Chunk) → AreChunks cs s.items → (m n : ℕ) → BreaksAt s.items m → n < length s.items
    → IsHead (place_of cs) n
    → (m == n) ≡ (bundle_of cs m == bundle_of cs n)
apart laws s cs are m n begins less head =
    same_from_decides (m == n) (bundle_of cs m == bundle_of cs n) (Decides-eqb m n) (
      (λ h. back ((Decides-eqb (bundle_of cs m) (bundle_of cs n)).0 h)),
      (λ h. (Decides-eqb (bundle_of cs m) (bundle_of cs n)).1 (ap (bundle_of cs) h)),
    )
  where
    back : bundle_of cs m ≡ bundle_of cs n → m ≡ n
    back same =
        let one = in_chunk cs s.items m are (breaks_inside s.items m begins) in
        let two = in_chunk cs s.items n are less in
        let first = begins_first cs s.items m one.bundle one.offset one.chunk laws are one.at begins in
        let second = head_is_first cs s.items n two.bundle two.offset two.chunk laws are two.at head in
        let bundle : one.bundle ≡ two.bundle =
        sym (bundle_there laws cs s.items m one.bundle one.offset one.chunk are one.at) ∙ same
        ∙ bundle_there laws cs s.items n two.bundle two.offset two.chunk are two.at
        in
        let held_same = ap (held cs) bundle in
        let number = one.at.number in
        let other = two.at.number in omega arith

relations_same : (f : ℕ → ℕ) (n : ℕ) (g : Pairs) (rs : List Relation)
    → ((k : ℕ) → k < length rs → ((relation_at rs k).bundle == n) ≡ (f (relation_at rs k).bundle == f n))
    → with_relations g (relations_at rs n) ≡ with_relations g (relations_at (map (relation_moved f) rs) (f n))
relations_same f n g [] same = refl
relations_same f n g (r ∷ rs) same =
    of (r.bundle == n) (f r.bundle == f n) (same 0 (omega arith)) (λ g. relations_same f n g rs (λ k less. same (suc k) (omega arith)))
  where
    of : (a b : Bool) → a ≡ b → ((g : Pairs) → with_relations g (relations_at rs n)
        ≡ with_relations g (relations_at (map (relation_moved f) rs) (f n)))
        → with_relations g (cond a (r ∷ relations_at rs n) (relations_at rs n))
        ≡ with_relations g (cond b (relation_moved f r ∷ relations_at (map (relation_moved f) rs) (f n))
        (relations_at (map (relation_moved f) rs) (f n)))
    of true true e rest = rest (with_pair g r.p r.q)
    of false false e rest = rest g
    of true false e rest = absurd (cc)
    of false true e rest = absurd (cc)

relation_there : (rs : List Relation) (k : ℕ) → k < length rs → Contains rs (relation_at rs k)
relation_there rs k inside = Contains-get_or rs k no_relation inside

pub knows_same : AreLayouts → (s : Loose) (cs : List Chunk) → IsLoose s → AreChunks cs s.items → (n : ℕ) → IsSequenceEntry (sequence_of s) n
    → known_at_entry s.relations n ≡ known_at_entry (map (relation_moved (bundle_of cs)) s.relations) (bundle_of cs n)
unfolding known_at_entry
knows_same laws s cs loose are n entry =
    let less : n < length s.items = subst (λ m. n < m) (length-targeted itself 0 s.items s.targets loose.targets) entry.inside in
    let head = (entry_of laws s cs loose are n entry).1 in
    relations_same (bundle_of cs) n no_pairs s.relations (λ k inside.
    apart laws s cs are (relation_at s.relations k).bundle n (loose.relations_break (relation_at s.relations k)
    (relation_there s.relations k inside)) less head)
