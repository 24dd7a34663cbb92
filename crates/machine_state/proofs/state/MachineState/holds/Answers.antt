use Rattle.machine_state.specs.Invariant.{contents_of}
use Rattle.machine_state.proofs.Names.{holds_is}
use Rattle.machine_state.proofs.state.MachineState.holds.Goals as goal

pub returns : goal.returns
returns c =
    rw (c.predicate_index.ensures.value, ← c.self.view_is) (holds_is (contents_of c.self.inside).registers c.args.p c.self.invariant.one)
