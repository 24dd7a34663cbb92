use Rattle.std.specs.Prelude.{◌+◌}
use Rattle.ia64_top.specs.Runs.{trace_text}
use Rattle.ia64_top.specs.Readings.{as_either}
use Rattle.ia64_top.proofs.Outputs.{if_ok}
use Rattle.ia64_top.proofs.Running.{accepted_read, run_is}
use Rattle.ia64_top.proofs.runs.trace_input.Goals as goal

pub returns-in-Ok-2 : goal.returns-in-Ok-2
returns-in-Ok-2 c =
    let gives =
    accepted_read c.args.input.now c.in-Ok.program c.in-Ok-2.accepted (rw c.in-Ok.is at c.in_ok-program.ensures)
    (rw c.in-Ok-2.is at c.in_ok-accepted.ensures) in
    if_ok c.trace_accepted.result c.trace_accepted.ensures
    (λ x a. run_is (trace_text c.args.first c.args.count) (c.args.first + c.args.count) as_either c.args.input.now c.in-Ok-2.accepted
    x.bytes.items x.status gives a)
