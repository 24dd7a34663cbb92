-- What is known and violated in a sequence is known and violated in the program that has its instructions.
use Rattle.std.specs.Prelude.{ℕ, ◌<◌, Bool, length}
use Rattle.ia_program.specs.declared.place.Place.{Place}
use Rattle.ia_program.specs.Programs.{Program, IsProgram}
use Rattle.ia_meaning.specs.Sequence.{first_of}
use Rattle.flow_facts.specs.Graphs.{InsnSequence, over_program, over_sequence}
use Rattle.flow_facts.specs.Walks.{Known}
use Rattle.order_laws.specs.declared.violation.Violation.{Violation}
use Rattle.order_laws.specs.Violations.{ViolatesIn}
use Rattle.group_checker.specs.Windows.{IsKnownAt}
use Rattle.sequence_laws.specs.Spreads.{IsSpread, AreStops, KeepsSlotRules}

-- What is known at an instruction's place in the program is known at the instruction in the sequence. Stops change no fact.
abbrev pub KnownInTheSequence : Type 0
KnownInTheSequence =
    (sequence : InsnSequence) (p : Program) (at : ℕ → Place) (n : ℕ) (known : Known) → IsProgram p → IsSpread sequence p at
    → n < length sequence.insns
    → IsKnownAt (over_program p) (at n) known → IsKnownAt (over_sequence sequence) (first_of n) known

-- Where the program has a violation the sequence has one.
abbrev pub ViolatedInTheSequence : Type 0
ViolatedInTheSequence =
    (sequence : InsnSequence) (p : Program) (at : ℕ → Place) (sequence_stop has_stop : Place → Bool) → IsProgram p → IsSpread sequence p at
    → AreStops sequence p at sequence_stop has_stop → KeepsSlotRules sequence p at has_stop
    → (v : Violation) → ViolatesIn (over_program p) has_stop v → (u : Violation) × ViolatesIn (over_sequence sequence) sequence_stop u

-- Where the sequence has a violation the program has one.
abbrev pub ViolatedInTheProgram : Type 0
ViolatedInTheProgram =
    (sequence : InsnSequence) (p : Program) (at : ℕ → Place) (sequence_stop has_stop : Place → Bool) → IsProgram p → IsSpread sequence p at
    → AreStops sequence p at sequence_stop has_stop
    → (u : Violation) → ViolatesIn (over_sequence sequence) sequence_stop u → (v : Violation) × ViolatesIn (over_program p) has_stop v
