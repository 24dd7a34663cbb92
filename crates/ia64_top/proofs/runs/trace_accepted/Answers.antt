use Rattle.std.proofs.Common.{◌+◌, arith, inl, inr, sym, ◌∙◌}
use Rattle.emulator.proofs.Groups.{none_of, some_of}
use Rattle.ia64_top.specs.Runs.{trace_text}
use Rattle.ia64_top.proofs.Running.{run_of_progress}
use Rattle.ia64_top.proofs.TracedRuns.{starts, begins, goes_on, comes_to_end}
use Rattle.ia64_top.proofs.runs.trace_accepted.Goals as goal
use Rattle.ia64_top.proofs.runs.trace_accepted.Goals.{then-first-gt0, else-first-gt0, then-loop-left-test+else-is_none, else-loop-left-test}

pub loop-left-init : goal.loop-left-init
loop-left-init c =
    let started =
    starts c.args.accepted.now c.args.first c.in_ok-machine.machine c.if-first-gt0.machine
    (rw c.slots.ensures at c.in_ok-machine.ensures)
    (elim c.if-first-gt0.branch [
      | then-first-gt0 w ↦ inl (w.machine-is ∙ w.run-end.ensures.state)
      | else-first-gt0 w ↦ inr (omega (arith, w.if-first-gt0.false), w.machine-is)
    ]) in
    let printed = rw c.new-bytes.ensures.items at c.in_ok-push_state.ensures in
    begins c.progress_is_run.ensures.run c.progress_is_run.ensures.events c.args.accepted.now c.args.first c.args.count
    c.if-first-gt0.machine _ c.is_order_independent.ensures.program started (omega (arith, c.requires.before, c.requires.few)) printed

pub loop-left-preserved : goal.loop-left-preserved
loop-left-preserved c =
    let running = sym c.end.ensures ∙ none_of c.end.result c.if-is_none.ensures in
    goes_on _ _ _ c.loop-left.machine c.step_group-event.new.self c.loop-left.left c.loop-left.bytes.items _ _ c.step_group-event.result
    c.loop-left.invariant c.loop-left-test.true running c.step_group-event.ensures.state c.step_group-event.ensures.event
    c.in_ok-push_group_line.ensures.ok c.in_ok-push_state-2.ensures

pub returns : goal.returns
returns c =
    let traced = comes_to_end _ _ _ c.loop-left.machine c.loop-left.left c.loop-left.bytes.items c.loop-left.invariant
    (elim c.loop-left-test.branch [
      | then-loop-left-test+else-is_none w ↦ inr (let some = some_of w.end.result w.if-is_none.ensures in
          (some.0, sym w.end.ensures ∙ some.1))
      | else-loop-left-test w ↦ inl (omega (arith, w.loop-left-test.false))
    ]) in
    run_of_progress c.progress_is_run.ensures.run (trace_text c.args.first c.args.count)
    (c.args.first + c.args.count) c.args.accepted.now c.loop-left.machine.progress c.ending.result _ _ c.is_order_independent.ensures.program
    c.is_order_independent.ensures.free c.is_order_independent.ensures.order_independent traced.came c.ending.ensures traced.printed c.end_status.ensures
