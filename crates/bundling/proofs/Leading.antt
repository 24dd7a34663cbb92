-- The program's branches and checks lead to the bundles of those that the sequence's lead to; and so the program has the
-- instructions of the sequence at their places.
use Rattle.std.proofs.Common.{arith, ◌≡◌, ℕ, ◌<◌, ◌⊎◌, inl, inr, refl, sym, ◌∙◌, ap, subst, List, length, Option, Some, None, IsSome, slice_get}
use Rattle.std.proofs.lemmas.Option.{same_Some, slice_get_within}
use Rattle.ia_insn.specs.declared.insn.Insn.{Insn}
use Rattle.ia_program.specs.declared.place.Place.{Place}
use Rattle.ia_program.specs.Places.{insn_at}
use Rattle.ia_meaning.specs.Actions.{action_of}
use Rattle.ia_meaning.specs.Sequence.{first_of}
use Rattle.ia_meaning.proofs.Inside.{first_is_place}
use Rattle.predicate_rel.specs.declared.edge.Edge.TheVariants.{Taken}
use Rattle.predicate_rel.specs.Edges.{HasEdge, displacement_of, target_at, edge_of, edge_end}
use Rattle.flow_facts.specs.Graphs.{HasSequenceEdge, sequence_insn, sequence_end_of}
use Rattle.sequence_laws.specs.Spreads.{IsFiller, IsHead, IsSpread}
use Rattle.loose_text.specs.LooseTexts.{Loose, IsLoose, BreaksAt}
use Rattle.bundling.specs.Chunk.{Chunk}
use Rattle.bundling.specs.Chunks.{AreChunks, AreChunksOf}
use Rattle.bundling.specs.Bundled.{put_in, sequence_of, targeted, place_of, bundle_of, program_of}
use Rattle.bundling.proofs.Locating.{breaks_inside, AreLayouts, IsAt, in_chunk, length-bundles, bundle_there, first_is_head, begins_first}
use Rattle.bundling.proofs.Targeting.{put, length-targeted, IsItemAt, item_at, within_items, has_instructions, leads_to}
use Rattle.bundling.proofs.Spreading.{itself, bundles_of, there, rises, fillers}
use Rattle.bundling.proofs.Entering.{entry_from, entry_of, knows_same}

-- An instruction that begins a bundle is the first there.
pub begins_head : AreLayouts → (s : Loose) (cs : List Chunk) → AreChunks cs s.items → (m : ℕ) → BreaksAt s.items m → IsHead (place_of cs) m
begins_head laws s cs are m begins =
    let one = in_chunk cs s.items m are (breaks_inside s.items m begins) in
    let first = begins_first cs s.items m one.bundle one.offset one.chunk laws are one.at begins in
    first_is_head cs s.items m one.bundle one.chunk laws are (subst (λ j. IsAt cs m one.bundle j one.chunk) first one.at)

-- Where the taken edge of an instruction of the sequence leads.
sequence_there : (s : Loose) (n : ℕ) → IsLoose s → n < length s.items → IsSome (sequence_insn (targeted itself s) (first_of n))
unfolding sequence_insn
sequence_there s n loose less = subst IsSome (sym ((item_at s n loose less).put_in itself)) refl

sequence_leads : (s : Loose) (n : ℕ) (it : IsItemAt s n) → sequence_end_of (targeted itself s) (first_of n)
    (sequence_insn (targeted itself s) (first_of n)) Taken ≡ target_at n
    (displacement_of (action_of (put_in itself n it.item.insn.op it.target)))
unfolding sequence_insn
sequence_leads s n it = ap (λ (o : Option Insn). sequence_end_of (targeted itself s) (first_of n) o Taken) (it.put_in itself)

sequence_within : (s : Loose) (n : ℕ) → IsLoose s → IsSome (sequence_insn (targeted itself s) (first_of n)) → n < length s.items
unfolding sequence_insn
sequence_within s n loose some = of (slice_get (targeted itself s) n) refl some
  where
    of : (o : Option Insn) → slice_get (targeted itself s) n ≡ o → IsSome o → n < length s.items
    of None is h = absurd (cc)
    of (Some i) is h = within_items s itself n i loose is

-- Where the taken edge of an instruction of the program leads.
program_there : AreLayouts → (s : Loose) (cs : List Chunk) → IsLoose s → AreChunks cs s.items → (n : ℕ) (it : IsItemAt s n)
    → n < length s.items
    → insn_at (bundles_of s cs) (place_of cs n) ≡ Some (put (bundle_of cs) n it.item it.target)
program_there laws s cs loose are n it less = has_instructions laws s cs (bundle_of cs) n loose are less ∙ it.put_in (bundle_of cs)

program_leads : AreLayouts → (s : Loose) (cs : List Chunk) → IsLoose s → AreChunks cs s.items → (n : ℕ) (it : IsItemAt s n)
    → n < length s.items
    → edge_end (bundles_of s cs) (place_of cs n) Taken ≡ target_at (bundle_of cs n)
    (displacement_of (action_of (put_in (bundle_of cs) (bundle_of cs n) it.item.insn.op it.target)))
unfolding edge_end
program_leads laws s cs loose are n it less =
    ap (λ (o : Option Insn). edge_of (bundles_of s cs) (place_of cs n) o Taken) (program_there laws s cs loose are n it less)

bundle_below : AreLayouts → (s : Loose) (cs : List Chunk) → AreChunks cs s.items → (n : ℕ) → n < length s.items
    → bundle_of cs n < length (bundles_of s cs)
bundle_below laws s cs are n less =
    let one = in_chunk cs s.items n are less in
    let within = slice_get_within cs one.bundle one.chunk one.at.there in
    let bundle = bundle_there laws cs s.items n one.bundle one.offset one.chunk are one.at in
    omega (arith, length-bundles cs (targeted (bundle_of cs) s))

-- A taken edge of the one gives one of the other.
targets : AreLayouts → (s : Loose) (cs : List Chunk) → IsLoose s → AreChunks cs s.items → (bundle n : ℕ) → n < length s.items
    → HasEdge (program_of s cs) (place_of cs n) Taken (first_of bundle)
    → (m : ℕ) × HasSequenceEdge (sequence_of s) (first_of n) Taken (first_of m) × (bundle_of cs m ≡ bundle) × IsHead (place_of cs) m
targets laws s cs loose are bundle n less edge =
    let it = item_at s n loose less in
    let goes = sym (program_leads laws s cs loose are n it less) ∙ edge.leads in
    let aim = leads_to s.items it.item.insn.op it.target (bundle_of cs) (bundle_of cs n) (first_of bundle) it.aimed goes in
    let same : first_of (bundle_of cs aim.number) ≡ first_of bundle =
    same_Some _ _ (sym (aim.leads (bundle_of cs) (bundle_of cs n)) ∙ goes) in (
      aim.number,
      record {
        inside = sequence_there s n loose less;
        leads = sequence_leads s n it ∙ aim.leads itself n;
        lands = sequence_there s aim.number loose (breaks_inside s.items aim.number aim.begins);
      },
      ap (λ (p : Place). p.bundle) same,
      begins_head laws s cs are aim.number aim.begins,
    )

sequence_targets : AreLayouts → (s : Loose) (cs : List Chunk) → IsLoose s → AreChunks cs s.items → (n m : ℕ)
    → HasSequenceEdge (sequence_of s) (first_of n) Taken (first_of m)
    → HasEdge (program_of s cs) (place_of cs n) Taken (first_of (bundle_of cs m)) × IsHead (place_of cs) m
sequence_targets laws s cs loose are n m edge =
    let less = sequence_within s n loose edge.inside in
    let small = sequence_within s m loose edge.lands in
    let it = item_at s n loose less in
    let goes = sym (sequence_leads s n it) ∙ edge.leads in
    let aim = leads_to s.items it.item.insn.op it.target itself n (first_of m) it.aimed goes in
    let same : aim.number ≡ m =
    ap (λ (p : Place). p.bundle) (same_Some (first_of aim.number) (first_of m) (sym (aim.leads itself n) ∙ goes)) in (
      record {
        inside = subst IsSome (sym (program_there laws s cs loose are n it less)) refl;
        leads =
            program_leads laws s cs loose are n it less ∙ aim.leads (bundle_of cs) (bundle_of cs n)
            ∙ ap (λ (m : ℕ). Some (first_of (bundle_of cs m))) same;
        lands = first_is_place (bundles_of s cs) (bundle_of cs m) (bundle_below laws s cs are m small);
      },
      subst (IsHead (place_of cs)) same (begins_head laws s cs are aim.number aim.begins),
    )

-- The program has the instructions of the sequence at their places.
pub is_spread : AreLayouts → (s : Loose) (cs : List Chunk) → IsLoose s → AreChunksOf s cs
    → IsSpread (sequence_of s) (program_of s cs) (place_of cs)
is_spread laws s cs loose are = record {
  there = there laws s cs loose are.chunks;
  rises = λ n m less small. rises laws cs s.items are.chunks n m less (subst (λ l. m < l) count small);
  fillers = fill;
  entries = entry_from laws s cs loose are.chunks;
  sequence_entries = entry_of laws s cs loose are.chunks;
  known = knows_same laws s cs loose are.chunks;
  targets = λ bundle n less. targets laws s cs loose are.chunks bundle n (subst (λ l. n < l) count less);
  sequence_targets = sequence_targets laws s cs loose are.chunks;
}
  where
    count : length (targeted itself s) ≡ length s.items
    count = length-targeted itself 0 s.items s.targets loose.targets

    fill : (place : Place) (j : Insn) → insn_at (bundles_of s cs) place ≡ Some j
        → ((n : ℕ) × (n < length (targeted itself s)) × (place ≡ place_of cs n)) ⊎ IsFiller j
    fill place j here = elim (fillers laws cs s.items (targeted (bundle_of cs) s) are.chunks place j here) [
      | inl (n, less, same) ↦ inl (n, subst (λ l. n < l) (sym count) less, same)
      | inr nop ↦ inr nop
    ]
