use Rattle.std.proofs.Common.{arith, inl, inr, sym, ap, ◌∙◌, length}
use Rattle.std.specs.List.{range_with_len}
use Rattle.emulator.proofs.Groups.{none_of, some_of}
use Rattle.watch_seam.proofs.Groups.{unchanged}
use Rattle.watch_seam.proofs.Showing.{if_ok_always, if_err}
use Rattle.ia64_top.proofs.WatchedRuns.{begins, goes_on, given_up, given_up_between, comes_to_end}
use Rattle.ia64_top.proofs.runs.watch_groups.Goals as goal
use Rattle.ia64_top.proofs.runs.watch_groups.Goals.{then-loop-left-test+else-is_none, else-loop-left-test}

pub returns-in_err-reports-clause-cut_short : goal.returns-in_err-reports-clause-cut_short
returns-in_err-reports-clause-cut_short g c = if_err c.from_residual.result (unchanged _ _)

pub loop-left-init : goal.loop-left-init
loop-left-init g c =
    begins _ c.args.machine.now c.args.groups _ _ c.args.watchers.now.items c.requires.few c.requires.room c.in_ok-reports.ensures.text
    (c.in_ok-reports.ensures.numbers ∙ ap (λ l. range_with_len 0 (length l)) c.deref.ensures.value)

pub returns-in_err-show-clause-cut_short : goal.returns-in_err-show-clause-cut_short
returns-in_err-show-clause-cut_short g c =
    let running = sym c.end.ensures ∙ none_of c.end.result c.if-is_none.ensures in
    if_err c.from_residual-in_err-show.result (given_up _ _ _ _ _ _ _ _ _ _ _ c.loop-left.invariant c.loop-left-test.true running
    c.step_group-event.ensures.event c.in_err-show.ensures.cut_short)

pub loop-left-preserved : goal.loop-left-preserved
loop-left-preserved g c =
    let running = sym c.end.ensures ∙ none_of c.end.result c.if-is_none.ensures in
    goes_on _ _ _ _ _ _ _ _ _ _ _ _ _ _ c.loop-left.invariant c.loop-left-test.true running c.step_group-event.ensures.state
    c.step_group-event.ensures.event c.in_ok-show.ensures.as_many c.in_ok-show.ensures.text c.in_ok-show.ensures.left

pub returns-clause-state : goal.returns-clause-state
returns-clause-state g c =
    if_ok_always c.finish.result
    (comes_to_end _ _ _ _ _ _ _ _ _ c.loop-left.invariant
    (elim c.loop-left-test.branch [
      | then-loop-left-test+else-is_none w ↦ inr (let some = some_of w.end.result w.if-is_none.ensures in
          (some.0, sym w.end.ensures ∙ some.1))
      | else-loop-left-test w ↦ inl (omega (arith, w.loop-left-test.false))
    ])).machine

pub returns-clause-stay : goal.returns-clause-stay
returns-clause-stay g c =
    if_ok_always c.finish.result
    (comes_to_end _ _ _ _ _ _ _ _ _ c.loop-left.invariant
    (elim c.loop-left-test.branch [
      | then-loop-left-test+else-is_none w ↦ inr (let some = some_of w.end.result w.if-is_none.ensures in
          (some.0, sym w.end.ensures ∙ some.1))
      | else-loop-left-test w ↦ inl (omega (arith, w.loop-left-test.false))
    ])).stay

pub returns-clause-cut_short : goal.returns-clause-cut_short
returns-clause-cut_short g c = if_err c.finish.result (given_up_between _ _ _ _ _ _ _ _ _ c.loop-left.invariant)
