-- The laws of packed texts: a text is packed into one program or has one first fault, and not both; the program has no
-- violation, and the text's instructions.
use Rattle.std.proofs.Common.{◌≡◌, ◌≤◌, ◌<◌, ◌⊎◌, inl, inr, ℕ, List, length, sym, ap, ◌∙◌, subst, arith}
use Rattle.std.specs.Prelude.{Contains, Some}
use Rattle.std.proofs.lemmas.List.{get_or_default}
use Rattle.std.proofs.lemmas.Option.{same_Some}
use Rattle.ia_insn.specs.declared.insn.Insn.{Insn}
use Rattle.ia_program.specs.declared.limits.TheConstants.{BUNDLE_LIMIT}
use Rattle.ia_program.specs.declared.place.Place.{Place}
use Rattle.ia_program.specs.Programs.{Program, IsProgram}
use Rattle.ia_meaning.specs.Sequence.{first_of}
use Rattle.order_laws.specs.Violations.{HasNoViolation}
use Rattle.asm_build.specs.declared.reason.Reason.TheVariants.{Limit}
use Rattle.asm_build.specs.declared.reason.TextError.TheVariants.{Fault}
use Rattle.sequence_laws.specs.Spreads.{IsSpread, IsFiller}
use Rattle.loose_text.specs.LooseTexts.{Loose, IsLoose}
use Rattle.loose_text.specs.Laws.{OneLooseText, OneLooseFault, NoLooseFaultWhereRead, ReadIsLoose}
use Rattle.bundling.specs.Bundled.{sequence_of, place_of, places_of, program_of}
use Rattle.bundling.specs.Chunk.{Chunk}
use Rattle.bundling.specs.Chunks.{AreChunksOf}
use Rattle.bundling.proofs.Locating.{length-places}
use Rattle.stop_placer.specs.Packed.{Packed}
use Rattle.stop_placer.specs.Packings.{Packing}
use Rattle.stop_placer.specs.Packs.{IsPack, IsFirstPast, all_causes, all_chunks}
use Rattle.stop_placer.specs.Placing.{NamesStops, IsPlaced, line_of_item}
use Rattle.stop_placer.specs.Laws.{OnePlaced, OnePlacingFault, NoFaultWherePlaced, PlacedHasNoViolation, KeepsText, PlacedKeepsText}
use Rattle.stop_placer.proofs.BundleLaws.{layouts, bundled_is_spread, bundled_has_instructions}
use Rattle.stop_placer.proofs.NamedStops.{one_naming}
use Rattle.stop_placer.proofs.OnePacking.{one_pack, one_first_past, none_past}
use Rattle.stop_placer.proofs.PackChunks.{pack_are_chunks, pack_causes}
use Rattle.stop_placer.proofs.PackFree.{sequence_length, pack_is_program, pack_has_no_violation}

-- What a loose text with this packing is packed into.
record IsPackedAs (s : Loose) (packing : Packing) (k : Packed) : Type 0 where
  pack : IsPack s packing
  few : length (all_chunks s packing) ≤ BUNDLE_LIMIT
  program : k.program ≡ program_of s (all_chunks s packing)
  places : k.places ≡ places_of (all_chunks s packing)
  stops : NamesStops k.program (place_of (all_chunks s packing)) (all_causes s packing) k.stops

packed_as : (text : List ℕ) (k : Packed) (placed : IsPlaced text k) → IsPackedAs placed.loose placed.packing k
packed_as text k placed =
    record { pack = placed.pack; few = placed.few; program = placed.program; places = placed.places; stops = placed.stops }

one_packed : (s : Loose) (packing : Packing) (k m : Packed) → IsLoose s → IsPackedAs s packing k → IsPackedAs s packing m → k ≡ m
one_packed s packing k m is a b = λ i. record { program = program i; places = places i; stops = stops i }
  where
    cs : List Chunk
    cs = all_chunks s packing

    program : k.program ≡ m.program
    program = a.program ∙ sym b.program

    places : k.places ≡ m.places
    places = a.places ∙ sym b.places

    spread : IsSpread (sequence_of s) (program_of s cs) (place_of cs)
    spread = bundled_is_spread s cs is (pack_are_chunks s packing is a.pack a.few)

    stops : k.stops ≡ m.stops
    stops =
        one_naming m.program (place_of cs) (all_causes s packing)
        (λ n l less inside. spread.rises n l less (omega (arith, sequence_length s is, pack_causes s packing a.pack)))
        k.stops m.stops (subst (λ (p : Program). NamesStops p (place_of cs) (all_causes s packing) k.stops) program a.stops) b.stops

pub placed_once : OneLooseText → ReadIsLoose → OnePlaced
placed_once one loose text k m a b =
    let other = subst (λ (t : Loose). IsPackedAs t b.packing m) (sym (one text a.loose b.loose a.reads b.reads)) (packed_as text m b) in
    let same = one_pack a.loose a.loose.items a.packing b.packing a.pack other.pack in
    one_packed a.loose a.packing k m (loose text a.loose a.reads) (packed_as text k a)
    (subst (λ (q : Packing). IsPackedAs a.loose q m) (sym same) other)

-- The line of the first item that begins a bundle past the limit.
same_line : (s : Loose) (n m x y : ℕ) → n ≡ m → line_of_item s n ≡ Some x → line_of_item s m ≡ Some y → x ≡ y
same_line s n m x y same a b = same_Some x y (sym a ∙ ap (line_of_item s) same ∙ b)

pub one_fault_placing : OneLooseText → OneLooseFault → NoLooseFaultWhereRead → OnePlacingFault
one_fault_placing one fault none text e f (inl a) (inl b) = fault text e f a b
one_fault_placing one fault none text e f (inl a) (inr (t, reads, past)) = absurd (none text t e reads a)
one_fault_placing one fault none text e f (inr (s, reads, past)) (inl b) = absurd (none text s f reads b)
one_fault_placing one fault none text e f (inr (s, reads, a)) (inr (t, also, b)) =
    let same = sym (one text s t reads also) in
    let number = one_first_past s a.n b.n a.past (subst (λ (u : Loose). IsFirstPast u b.n) same b.past) in
    a.is
    ∙ ap (λ (line : ℕ). Fault line Limit) (same_line s a.n b.n a.line b.line number a.there
    (subst (λ (u : Loose). line_of_item u b.n ≡ Some b.line) same b.there))
    ∙ sym b.is

pub none_where_placed : OneLooseText → NoLooseFaultWhereRead → NoFaultWherePlaced
none_where_placed one none text k e placed (inl fault) = none text placed.loose e placed.reads fault
none_where_placed one none text k e placed (inr (s, reads, a)) =
    none_past placed.loose placed.packing a.n placed.pack placed.few
    (subst (λ (u : Loose). IsFirstPast u a.n) (one text s placed.loose reads placed.reads) a.past)

pub free_where_placed : ReadIsLoose → PlacedHasNoViolation
free_where_placed loose text k placed =
    let is = loose text placed.loose placed.reads in (
      subst IsProgram (sym placed.program) (pack_is_program placed.loose placed.packing is placed.pack placed.few),
      subst HasNoViolation (sym placed.program) (pack_has_no_violation placed.loose placed.packing is placed.pack placed.few),
    )

module _ (text : List ℕ) (k : Packed) (placed : IsPlaced text k) (is : IsLoose placed.loose) where
  abbrev cs : List Chunk
  cs = all_chunks placed.loose placed.packing

  chunks : AreChunksOf placed.loose cs
  chunks = pack_are_chunks placed.loose placed.packing is placed.pack placed.few

  spread : IsSpread (sequence_of placed.loose) (program_of placed.loose cs) (place_of cs)
  spread = bundled_is_spread placed.loose cs is chunks

  abbrev there : Packed
  there = record { program = program_of placed.loose cs; places = places_of cs; stops = k.stops }

  count : length (places_of cs) ≡ length placed.loose.items
  count = length-places layouts cs placed.loose.items 0 chunks.chunks

  -- The n-th place is one of them.
  listed : (place : Place) (n : ℕ) → n < length (sequence_of placed.loose).insns → place ≡ place_of cs n → Contains (places_of cs) place
  unfolding place_of
  listed place n inside e =
      let room : n < length (places_of cs) = omega (arith, count, sequence_length placed.loose is) in
      (n, room, get_or_default (places_of cs) n place (first_of 0) room ∙ sym e)

  filler : (place : Place) (i : Insn) → ((n : ℕ) × (n < length (sequence_of placed.loose).insns) × (place ≡ place_of cs n)) ⊎ IsFiller i
      → Contains (places_of cs) place ⊎ IsFiller i
  filler place i (inl (n, inside, e)) = inl (listed place n inside e)
  filler place i (inr f) = inr f

  keeps_there : KeepsText text there
  unfolding place_of
  keeps_there = record {
    loose = placed.loose;
    reads = placed.reads;
    count = count;
    rises = λ m n less inside. spread.rises m n less (omega (arith, count, sequence_length placed.loose is));
    kept = λ n inside. bundled_has_instructions placed.loose cs n is chunks (omega (arith, count));
    fillers = λ place i e. filler place i (spread.fillers place i e);
  }

  keeps : KeepsText text k
  keeps = subst (KeepsText text) (λ i. record { program = sym placed.program i; places = sym placed.places i; stops = k.stops }) keeps_there

pub keeps_where_placed : ReadIsLoose → PlacedKeepsText
keeps_where_placed loose text k placed = keeps text k placed (loose text placed.loose placed.reads)
