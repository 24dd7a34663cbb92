-- What is seen of the engine, and what is true of it.
use Rattle.std.specs.Prelude.{◌≡◌}
use Rattle.ia_program.specs.Places.{IsPlaceOf}
use Rattle.ia_program.specs.Programs.{IsProgram}
use Rattle.group_engine.specs.declared.machine.GroupMachine.TheInside.{Inside}
use Rattle.group_engine.specs.Kept.{branch_inputs_of}
use Rattle.group_engine.specs.Groups.{state_of}
use Rattle.group_engine.specs.Engine.{Engine}

abbrev pub engine_of : Inside → Engine
engine_of m = record { program = m.table.now; state = state_of m.gathering; end = m.gathering.end; groups = m.groups; range = m.range }

-- The next place is one of the program, and what is kept of the registers that steer branches is what these hold.
pub record IsEngine (m : Inside) : Type 0 where
  pub program : IsProgram m.table.now
  pub place : IsPlaceOf m.table.now.bundles m.gathering.place
  pub latest : m.gathering.kept.latest ≡ branch_inputs_of m.gathering.registers
