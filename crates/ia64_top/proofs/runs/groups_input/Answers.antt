use Rattle.ia64_top.specs.Readings.{as_either}
use Rattle.ia64_top.proofs.Outputs.{if_ok}
use Rattle.ia64_top.proofs.NumberedRuns.{numbered_run_is}
use Rattle.ia64_top.proofs.runs.groups_input.Goals as goal

pub returns-in-Ok : goal.returns-in-Ok
returns-in-Ok c =
    let gives : as_either.Gives c.args.input.now c.in-Ok.program = rw c.in-Ok.is at c.in_ok-program.ensures in
    if_ok c.groups_program.result c.groups_program.ensures
    (λ x a. numbered_run_is c.args.groups c.args.number as_either c.args.input.now c.in-Ok.program x.bytes.items x.status gives a)
