use Rattle.std.proofs.Common.{arith}
use Rattle.machine_state.specs.Invariant.{contents_of}
use Rattle.machine_state.proofs.Names.{look_static}
use Rattle.machine_state.proofs.state.MachineState.general.Goals as goal

pub returns-then-n-lt32 : goal.returns-then-n-lt32
returns-then-n-lt32 c =
    rw (c.number-n.ensures.value, ← c.self.view_is) (look_static (contents_of c.self.inside).registers c.args.r c.self.invariant.zero
    (omega arith))
