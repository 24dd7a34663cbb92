-- What is seen of the machine, and what is true of it.
use Rattle.ia_program.specs.Programs.{IsProgram}
use Rattle.ia_meaning.specs.Runs.{IsUnderWay}
use Rattle.emulator.specs.declared.machine.Machine.TheInside.{Inside}
use Rattle.emulator.specs.Progress.{progress_of}
use Rattle.emulator.specs.Execution.{Execution}

abbrev pub execution_of : Inside → Execution
execution_of m = record { program = m.code; progress = progress_of m.run }

-- The run is one of the program, and under way.
pub record IsMachine (m : Inside) : Type 0 where
  pub program : IsProgram m.code
  pub under_way : IsUnderWay m.code (progress_of m.run)
