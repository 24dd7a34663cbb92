-- What is known before each instruction of a sequence, by a program that has its instructions.
use Rattle.std.specs.Prelude.{◌≡◌, ℕ, ◌<◌, List, length, slice_index_or}
use Rattle.ia_program.specs.declared.place.Place.{Place}
use Rattle.ia_meaning.specs.Sequence.{first_of}
use Rattle.flow_facts.specs.Graphs.{InsnSequence, over_sequence}
use Rattle.flow_facts.specs.Walks.{Known, known_at}
use Rattle.group_checker.specs.Windows.{IsKnownAt}

-- What is known at an instruction's place is known before it in the sequence.
pub record AreKnown (sequence : InsnSequence) (facts : List Known) (places : List Place) : Type 0 where
  pub count : length places ≡ length sequence.insns
  pub known : (n : ℕ) → n < length sequence.insns → IsKnownAt (over_sequence sequence) (first_of n)
      (known_at facts (slice_index_or places n (first_of 0)))
