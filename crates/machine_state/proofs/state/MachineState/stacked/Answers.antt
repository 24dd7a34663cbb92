use Rattle.std.proofs.Common.{ap, ◌∙◌, arith}
use Rattle.std.specs.Result.{result_ok}
use Rattle.machine_state.specs.Invariant.{contents_of}
use Rattle.machine_state.proofs.Names.{look_stacked}
use Rattle.machine_state.proofs.state.MachineState.stacked.Goals as goal

pub returns-in-Ok : goal.returns-in-Ok
returns-in-Ok c =
    rw (← c.self.view_is) (ap result_ok c.in-Ok.ensures ∙ look_stacked (contents_of c.self.inside).registers c.args.r (omega arith))

pub returns-in-Err : goal.returns-in-Err
returns-in-Err c =
    rw (← c.self.view_is) (ap result_ok c.in-Err.ensures ∙ look_stacked (contents_of c.self.inside).registers c.args.r (omega arith))
