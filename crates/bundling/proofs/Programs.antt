-- The bundles of a loose text's instructions are a program: entries and relations, of bundles that the instructions
-- begin, rise as those of the instructions do.
use Rattle.std.proofs.Common.{arith, ◌≡◌, ◌⊎◌, ℕ, zero, suc, ◌-◌, ◌<◌, ◌≤◌, inl, inr, sym, ◌∙◌, ap, subst, List, length, Option, slice_get}
use Rattle.std.specs.Prelude.{map, Contains, IsSomeAnd, slice_index}
use Rattle.std.proofs.lemmas.List.{get_or-map, length-map}
use Rattle.std.proofs.lemmas.List.Elements.{Contains-get_or}
use Rattle.ia_insn.specs.declared.insn.Insn.{Insn}
use Rattle.ia_program.specs.declared.limits.TheConstants.{ENTRY_LIMIT, RELATION_LIMIT}
use Rattle.ia_program.specs.declared.relations.Relation.{Relation}
use Rattle.ia_program.specs.Places.{EachPlace}
use Rattle.ia_program.specs.Runs.{IsWithinRun}
use Rattle.ia_program.specs.Programs.{IsProgram, AreInRange, floor, IsEntryAt, AreEntries, IsCall, IsEntryOf, IsRelationBefore, IsDeclarable, no_relation, relation_at, relation_before, AreRelations}
use Rattle.loose_items.specs.declared.item.Item.{Item}
use Rattle.loose_text.specs.LooseTexts.{Loose, IsLoose, BreaksAt, IsItemEntry}
use Rattle.asm_build.specs.Relations.{IsFit}
use Rattle.flow_facts.specs.Graphs.{IsSequenceEntry}
use Rattle.sequence_laws.specs.Spreads.{IsHead}
use Rattle.bundling.specs.Chunk.{Chunk}
use Rattle.bundling.specs.Bundled.{sequence_of, targeted, place_of, bundle_of, relation_moved, program_of}
use Rattle.bundling.proofs.Locating.{breaks_inside, IsAt, in_chunk, length-bundles, bundle_there, first_is_head, begins_first, first_of_all}
use Rattle.bundling.proofs.Targeting.{length-targeted, item_at, call_put}
use Rattle.bundling.proofs.Spreading.{itself}
use Rattle.bundling.proofs.Entering.{entry_of}
use Rattle.bundling.proofs.Fitting.{IsBundling, bundle_inside, bundles_fit, targets_inside}

-- The first instruction is in the first bundle.
first_bundle : (s : Loose) (cs : List Chunk) → IsBundling s cs → bundle_of cs 0 ≡ 0
first_bundle s cs h =
    let one = in_chunk cs s.items 0 h.are.chunks h.loose.some in
    bundle_there h.laws cs s.items 0 one.bundle one.offset one.chunk h.are.chunks one.at
    ∙ (first_of_all cs one.bundle one.offset one.chunk one.at h.laws s.items h.are.chunks).0

-- One that begins a bundle is in a later bundle than those before it.
begins_head : (s : Loose) (cs : List Chunk) (n : ℕ) → IsBundling s cs → BreaksAt s.items n → IsHead (place_of cs) n
begins_head s cs n h begins =
    let one = in_chunk cs s.items n h.are.chunks (breaks_inside s.items n begins) in
    let first : one.offset ≡ 0 = begins_first cs s.items n one.bundle one.offset one.chunk h.laws h.are.chunks one.at begins in
    first_is_head cs s.items n one.bundle one.chunk h.laws h.are.chunks (subst (λ (j : ℕ). IsAt cs n one.bundle j one.chunk) first one.at)

-- Entries rise.
floor_moved : (f : ℕ → ℕ) (entries : List ℕ) (n : ℕ) → f 0 ≡ 0 → n < length entries → floor (map f entries) n ≡ f (floor entries n)
floor_moved f entries zero first less = sym first
floor_moved f entries (suc n) first less = get_or-map f entries n 0 0 (omega arith)

entries_rise : (s : Loose) (cs : List Chunk) → IsBundling s cs → AreEntries (length (program_of s cs).bundles) (program_of s cs).entries
entries_rise s cs h n inside =
    let f = bundle_of cs in
    let less : n < length s.entries = subst (λ m. n < m) (length-map s.entries f) inside in
    let entry = slice_index s.entries n in
    let is : IsEntryAt (length s.items) s.entries n = h.loose.entries n less in
    let here : slice_index (map f s.entries) n ≡ f entry = get_or-map f s.entries n 0 0 less in
    let before : floor (map f s.entries) n ≡ f (floor s.entries n) = floor_moved f s.entries n (first_bundle s cs h) less in
    let count : length (program_of s cs).bundles ≡ length cs = length-bundles cs (targeted f s) in
    let rises : f (floor s.entries n) < f entry =
    begins_head s cs entry h (h.loose.entries_break entry (Contains-get_or s.entries n 0 less)) (floor s.entries n) is.rises in
    let room : f entry < length cs = bundle_inside s cs entry h is.inside in
    record { rises = omega (arith, here, before, rises); inside = omega (arith, here, count, room) }

-- The bundle of an entry is one.
call_put_in : (s : Loose) (n : ℕ) → IsLoose s → n < length s.items → IsSomeAnd (slice_get s.items n) (λ i. IsCall i.insn.op)
    → IsSomeAnd (slice_get (targeted itself s) n) (λ i. IsCall i.op)
call_put_in s n loose less call =
    let one = item_at s n loose less in
    let calls : IsCall one.item.insn.op = subst (λ (o : Option Item). IsSomeAnd o (λ i. IsCall i.insn.op)) one.there call in
    subst (λ (o : Option Insn). IsSomeAnd o (λ i. IsCall i.op)) (sym (one.put_in itself))
    ((call_put itself n one.item.insn.op one.target).0 calls)

sequence_entry : (s : Loose) (n : ℕ) → IsLoose s → IsItemEntry s.items s.entries n → IsSequenceEntry (sequence_of s) n
sequence_entry s n loose entry = record {
  inside = subst (λ m. n < m) (sym (length-targeted itself 0 s.items s.targets loose.targets)) entry.inside;
  kind = of entry.kind;
}
  where
    of : (n ≡ 0) ⊎ (Contains s.entries n ⊎ ((1 ≤ n) × IsSomeAnd (slice_get s.items (n - 1)) (λ i. IsCall i.insn.op)))
        → (n ≡ 0) ⊎ (Contains s.entries n ⊎ ((1 ≤ n) × IsSomeAnd (slice_get (targeted itself s) (n - 1)) (λ i. IsCall i.op)))
    of (inl first) = inl first
    of (inr (inl declared)) = inr (inl declared)
    of (inr (inr (some, call))) = let less = entry.inside in inr (inr (some, call_put_in s (n - 1) loose (omega arith) call))

entry_moved : (s : Loose) (cs : List Chunk) (n : ℕ) → IsBundling s cs → IsItemEntry s.items s.entries n
    → IsEntryOf (program_of s cs).bundles (program_of s cs).entries (bundle_of cs n)
entry_moved s cs n h entry = (entry_of h.laws s cs h.loose h.are.chunks n (sequence_entry s n h.loose entry)).0

-- Relations rise.
relation_rises : (s : Loose) (cs : List Chunk) (before relation : Relation) → IsBundling s cs → IsRelationBefore before relation
    → BreaksAt s.items relation.bundle
    → IsRelationBefore (relation_moved (bundle_of cs) before) (relation_moved (bundle_of cs) relation)
relation_rises s cs before relation h (inl less) begins = inl (begins_head s cs relation.bundle h begins before.bundle less)
relation_rises s cs before relation h (inr (same, rises)) begins = inr (ap (bundle_of cs) same, rises)

relation_stays : (s : Loose) (cs : List Chunk) (before relation : Relation) → IsBundling s cs → IsRelationBefore before relation
    → IsFit (IsItemEntry s.items s.entries) relation → BreaksAt s.items relation.bundle
    → IsDeclarable (program_of s cs).bundles (program_of s cs).entries (relation_moved (bundle_of cs) before)
    (relation_moved (bundle_of cs) relation)
relation_stays s cs before relation h rises fit begins = record {
  rises = relation_rises s cs before relation h rises begins;
  entry = entry_moved s cs relation.bundle h fit.entry;
  some = fit.some;
  apart = fit.apart;
  static = fit.static;
}

before_moved : (f : ℕ → ℕ) (relations : List Relation) (n : ℕ) → f 0 ≡ 0 → n < length relations
    → relation_before (map (relation_moved f) relations) n ≡ relation_moved f (relation_before relations n)
before_moved f relations zero first less = ap (λ (bundle : ℕ). record { bundle = bundle; p = 0; q = 0 }) (sym first)
before_moved f relations (suc n) first less = get_or-map (relation_moved f) relations n no_relation no_relation (omega arith)

relations_rise : (s : Loose) (cs : List Chunk) → IsBundling s cs
    → AreRelations (program_of s cs).bundles (program_of s cs).entries (program_of s cs).relations
relations_rise s cs h n inside =
    let f = bundle_of cs in
    let less : n < length s.relations = subst (λ m. n < m) (length-map s.relations (relation_moved f)) inside in
    let here : relation_at (map (relation_moved f) s.relations) n ≡ relation_moved f (relation_at s.relations n) =
    get_or-map (relation_moved f) s.relations n no_relation no_relation less in
    let before = before_moved f s.relations n (first_bundle s cs h) less in
    let is = h.loose.relations n less in
    let begins = h.loose.relations_break (relation_at s.relations n) (Contains-get_or s.relations n no_relation less) in
    let stays = relation_stays s cs (relation_before s.relations n) (relation_at s.relations n) h is.0 is.1 begins in
    subst (λ (r : Relation). IsDeclarable (program_of s cs).bundles (program_of s cs).entries r (relation_at (program_of s cs).relations n))
    (sym before)
    (subst (λ (r : Relation). IsDeclarable (program_of s cs).bundles (program_of s cs).entries
    (relation_moved f (relation_before s.relations n)) r) (sym here) stays)

-- The counts are those of the text and of its chunks.
in_range : (s : Loose) (cs : List Chunk) → IsBundling s cs
    → AreInRange (length (program_of s cs).bundles) (length (program_of s cs).entries) (length (program_of s cs).bytes)
    (length (program_of s cs).relations)
in_range s cs h =
    let loose = h.loose in
    let few = h.are.few in
    let count = length-bundles cs (targeted (bundle_of cs) s) in
    let room = bundle_inside s cs 0 h loose.some in
    record {
      some = omega (arith, count, room);
      bundles = omega (arith, count, few);
      entries = subst (λ n. n ≤ ENTRY_LIMIT) (sym (length-map s.entries (bundle_of cs))) loose.few_entries;
      bytes = loose.few_bytes;
      words = loose.words;
      relations = subst (λ n. n ≤ RELATION_LIMIT) (sym (length-map s.relations (relation_moved (bundle_of cs)))) loose.few_relations;
    }

-- They are a program.
pub are_program : (s : Loose) (cs : List Chunk) → IsBundling s cs
    → EachPlace (program_of s cs).bundles (IsWithinRun (program_of s cs).bundles) → IsProgram (program_of s cs)
are_program s cs h runs = record {
  fit = bundles_fit s cs h;
  counts = in_range s cs h;
  entries = entries_rise s cs h;
  targets = targets_inside s cs h;
  runs = runs;
  bytes = h.loose.bytes;
  relations = relations_rise s cs h;
}
