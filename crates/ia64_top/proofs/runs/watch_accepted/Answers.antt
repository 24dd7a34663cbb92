use Rattle.watch_seam.proofs.Groups.{unchanged}
use Rattle.watch_seam.proofs.Showing.{if_err}
use Rattle.ia64_top.proofs.WatchedRuns.{events_of_start, stay_over, cut_over, cut_after_all}
use Rattle.ia64_top.proofs.runs.watch_accepted.Goals as goal

pub returns-in_err-machine-clause-cut_short : goal.returns-in_err-machine-clause-cut_short
returns-in_err-machine-clause-cut_short g c = if_err c.from_residual.result (unchanged _ _)

pub returns-in_err-bytes-clause-cut_short : goal.returns-in_err-bytes-clause-cut_short
returns-in_err-bytes-clause-cut_short g c =
    let events =
    events_of_start c.progress_is_run.ensures.events c.args.groups c.args.accepted.now c.in_ok-machine.machine
    c.is_order_independent.ensures.program (rw c.slots.ensures at c.in_ok-machine.ensures) in
    if_err c.from_residual-in_err-bytes.result (cut_over _ _ _ _ events c.in_err-bytes.ensures.cut_short)

pub returns-in_err-state_text-clause-cut_short : goal.returns-in_err-state_text-clause-cut_short
returns-in_err-state_text-clause-cut_short g c =
    let events =
    events_of_start c.progress_is_run.ensures.events c.args.groups c.args.accepted.now c.in_ok-machine.machine
    c.is_order_independent.ensures.program (rw c.slots.ensures at c.in_ok-machine.ensures) in
    if_err c.from_residual-in_err-state_text.result (cut_after_all _ _ _ _ events c.in_ok-bytes.ensures.stay)

pub returns-in_err-extend_from_slice-clause-cut_short :
    goal.returns-in_err-extend_from_slice-clause-cut_short
returns-in_err-extend_from_slice-clause-cut_short g c =
    let events =
    events_of_start c.progress_is_run.ensures.events c.args.groups c.args.accepted.now c.in_ok-machine.machine
    c.is_order_independent.ensures.program (rw c.slots.ensures at c.in_ok-machine.ensures) in
    if_err c.from_residual-in_err-extend_from_slice.result (cut_after_all _ _ _ _ events c.in_ok-bytes.ensures.stay)

pub returns-clause-stay : goal.returns-clause-stay
returns-clause-stay g c =
    let events =
    events_of_start c.progress_is_run.ensures.events c.args.groups c.args.accepted.now c.in_ok-machine.machine
    c.is_order_independent.ensures.program (rw c.slots.ensures at c.in_ok-machine.ensures) in
    stay_over _ _ _ _ events c.in_ok-bytes.ensures.stay
