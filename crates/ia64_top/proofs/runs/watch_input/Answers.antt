use Rattle.std.proofs.Common.{inr, sym}
use Rattle.std.proofs.lemmas.Result.{on_ok_weaker, on_err_weaker}
use Rattle.order_laws.specs.Violations.{HasNoViolation}
use Rattle.ia64_top.specs.Judgements.{IsJudgedViolated}
use Rattle.ia64_top.specs.Readings.{IsRefusal, as_either}
use Rattle.ia64_top.specs.Runs.{watch_text}
use Rattle.ia64_top.proofs.Outputs.{if_ok, either_gives_one, either_refuses_none}
use Rattle.ia64_top.proofs.Running.{accepted_read, run_is, have_watched, refused_not_run, violated_not_run}
use Rattle.ia64_top.proofs.runs.watch_input.Goals as goal

pub returns-in-Err-clause-watched : goal.returns-in-Err-clause-watched
returns-in-Err-clause-watched g c =
    let refused : IsRefusal as_either c.args.input.now c.in-Err.answer.bytes.items c.in-Err.answer.status =
    rw c.in-Err.is at c.in_ok-program.ensures in
    λ p gives free. absurd (refused_not_run (either_refuses_none c.no_fault_where_spelled.ensures c.no_fault_where_read.ensures)
    c.args.input.now c.in-Err.answer.bytes.items c.in-Err.answer.status refused p gives free)

pub returns-in-Ok-2-clause-output : goal.returns-in-Ok-2-clause-output
returns-in-Ok-2-clause-output g c =
    let gives =
    accepted_read c.args.input.now c.in-Ok.program c.in-Ok-2.accepted (rw c.in-Ok.is at c.in_ok-program.ensures)
    (rw c.in-Ok-2.is at c.in_ok-accepted.ensures) in
    if_ok c.watch_accepted.result c.watch_accepted.ensures.output
    (λ x a. run_is (watch_text _) c.args.groups as_either c.args.input.now c.in-Ok-2.accepted x.bytes.items x.status gives a)

pub returns-in-Ok-2-clause-watched : goal.returns-in-Ok-2-clause-watched
returns-in-Ok-2-clause-watched g c =
    let gives =
    accepted_read c.args.input.now c.in-Ok.program c.in-Ok-2.accepted (rw c.in-Ok.is at c.in_ok-program.ensures)
    (rw c.in-Ok-2.is at c.in_ok-accepted.ensures) in
    on_ok_weaker c.watch_accepted.result (have_watched (either_gives_one c.one_program.ensures c.one_text_program.ensures) c.args.groups
    c.args.input.now c.in-Ok-2.accepted _ _ gives) c.watch_accepted.ensures.stay

pub returns-in-Ok-2-clause-cut_short : goal.returns-in-Ok-2-clause-cut_short
returns-in-Ok-2-clause-cut_short g c =
    let gives =
    accepted_read c.args.input.now c.in-Ok.program c.in-Ok-2.accepted (rw c.in-Ok.is at c.in_ok-program.ensures)
    (rw c.in-Ok-2.is at c.in_ok-accepted.ensures) in
    let free : HasNoViolation c.in-Ok-2.accepted = rw (sym c.accepted.view_is) c.accepted.invariant in
    on_err_weaker c.watch_accepted.result (λ cut. inr (c.in-Ok-2.accepted, gives, free, cut)) c.watch_accepted.ensures.cut_short

pub returns-clause-watched : goal.returns-clause-watched
returns-clause-watched g c =
    let read : as_either.Gives c.args.input.now c.in-Ok.program = rw c.in-Ok.is at c.in_ok-program.ensures in
    let judged : IsJudgedViolated c.in-Ok.program c.in-Err-2.answer.bytes.items c.in-Err-2.answer.status =
    rw c.in-Err-2.is at c.in_ok-accepted.ensures in
    λ p gives free. absurd (violated_not_run (either_gives_one c.one_program.ensures c.one_text_program.ensures) c.args.input.now
    c.in-Ok.program c.in-Err-2.answer.bytes.items c.in-Err-2.answer.status read judged p gives free)
