use Rattle.ia64_top.specs.Judgements.{IsJudgedViolated}
use Rattle.ia64_top.proofs.Outputs.{if_ok}
use Rattle.ia64_top.proofs.Trying.{judged_trial, tried_trial}
use Rattle.ia64_top.proofs.trial.try_program.Goals as goal

pub returns-in-Ok : goal.returns-in-Ok
returns-in-Ok c =
    if_ok c.try_accepted.result c.try_accepted.ensures (λ x a. tried_trial c.args.seed c.args.bundles x.bytes.items x.status a)

pub returns : goal.returns
returns c =
    let judged : IsJudgedViolated c.in_ok-program.program c.in-Err.answer.bytes.items c.in-Err.answer.status =
    rw c.in-Err.is at c.in_ok-accepted.ensures in
    judged_trial c.args.seed c.args.bundles c.in_ok-program.program c.in-Err.answer.bytes.items c.in-Err.answer.status
    c.in_ok-program.ensures judged
