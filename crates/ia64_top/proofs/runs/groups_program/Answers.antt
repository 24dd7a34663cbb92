use Rattle.std.proofs.Common.{ap, ◌∙◌}
use Rattle.ia64_top.specs.Runs.{end_status}
use Rattle.ia64_top.proofs.NumberedRuns.{prints_run}
use Rattle.ia64_top.proofs.runs.groups_program.Goals as goal

pub returns : goal.returns
returns c =
    let ran = c.run-end.ensures in
    let prints =
    prints_run c.args.program.now c.args.groups c.args.number c.in_ok-machine.machine c.run-end.new.self
    c.in_ok-group_text.field-0.items c.run-end.result (rw c.in_ok-slots.ensures at c.in_ok-machine.ensures) ran.state ran.end
    c.in_ok-group_text.ensures in
    record { program = c.is_program.ensures; printed = prints.printed; ends = c.end_status.ensures ∙ ap end_status prints.ended }
