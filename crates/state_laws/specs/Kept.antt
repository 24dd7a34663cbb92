-- What a sequential step keeps (volume 1, chapter 3, instruction sequencing).
use Rattle.ia_program.specs.Programs.{Program, IsProgram}
use Rattle.ia_meaning.specs.State.{State, IsState}
use Rattle.ia_meaning.specs.Steps.{seq_step}

-- A step from a state of a program leaves a state of it.
abbrev pub KeepsState : Type 0
KeepsState = (p : Program) (s : State) → IsProgram p → IsState p s → IsState p (seq_step p s).state
