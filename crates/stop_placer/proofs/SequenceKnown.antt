-- What is known before each instruction of a text's sequence, by a program that has them.
use Rattle.std.proofs.Common.{◌≡◌, List, length, slice_index_or, sym, ap, ◌∙◌, subst}
use Rattle.ia_program.specs.declared.place.Place.{Place}
use Rattle.ia_program.specs.Programs.{IsProgram}
use Rattle.ia_meaning.specs.Sequence.{first_of}
use Rattle.flow_facts.specs.Graphs.{over_sequence}
use Rattle.flow_facts.specs.Walks.{Known, known_at, IsSolution}
use Rattle.group_checker.specs.Windows.{IsKnownAt}
use Rattle.sequence_laws.specs.Laws.{KnownInTheSequence}
use Rattle.sequence_laws.specs.Spreads.{IsSpread}
use Rattle.loose_text.specs.LooseTexts.{Loose, IsLoose}
use Rattle.bundling.specs.Bundled.{sequence_of, places_of, place_of, program_of}
use Rattle.bundling.specs.Chunk.{Chunk}
use Rattle.bundling.specs.Chunks.{AreChunksOf}
use Rattle.stop_placer.specs.Known.{AreKnown}
use Rattle.stop_placer.proofs.PackFree.{sequence_length}
use Rattle.stop_placer.proofs.PlacesCounted.{places_counted}

pub are_known : (s : Loose) (cs : List Chunk) (facts : List Known) (places : List Place) → IsLoose s → AreChunksOf s cs → KnownInTheSequence
    → IsSpread (sequence_of s) (program_of s cs) (place_of cs)
    → IsProgram (program_of s cs) → IsSolution (program_of s cs) facts → places ≡ places_of cs → AreKnown (sequence_of s) facts places
unfolding place_of
are_known s cs facts places is are law spread program solution e = record {
  count = ap (length {A = Place}) e ∙ places_counted cs s.items are.chunks ∙ sym (sequence_length s is);
  known = λ n inside.
      subst (λ (ps : List Place). IsKnownAt (over_sequence (sequence_of s)) (first_of n)
      (known_at facts (slice_index_or ps n (first_of 0)))) (sym e)
      (law (sequence_of s) (program_of s cs) (place_of cs) n (known_at facts (place_of cs n)) program spread inside
      (solution (place_of cs n)));
}
