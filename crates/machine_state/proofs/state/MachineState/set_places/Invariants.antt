use Rattle.std.proofs.Common.{◌≡◌, ◌-◌}
use Rattle.ia_meaning.specs.Writes.{apply}
use Rattle.ia_meaning.specs.Moves.{masked_writes, predicate_writes}
use Rattle.machine_state.proofs.state.MachineState.set_places.Given as goal

abbrev pub invariant-loop-n : goal.invariant-loop-n
invariant-loop-n l =
    record l.self { registers = apply (masked_writes (64 - l.n) l.n l.mask l.word) l.self.registers }
    ≡ record l.fn.self { registers = apply (predicate_writes l.mask l.word) l.fn.self.registers }
