use Rattle.std.proofs.Common.{◌∙◌, subst}
use Rattle.group_checker.specs.Progress.{ReportsAll}
use Rattle.group_checker.proofs.Reporting.{free_of_none, verdict_of}
use Rattle.group_checker.proofs.Robust.{accepted_order_independent}
use Rattle.group_checker.proofs.checker.check.Goals as goal

pub verdict-requires : goal.verdict-requires
verdict-requires c =
    let all = subst (λ q. ReportsAll q c.in_ok-report.report) c.slots.ensures c.in_ok-report.ensures in
    free_of_none c.in_ok-analysis.analysis c.in_ok-report.report all

pub returns-clause-verdict : goal.returns-clause-verdict
returns-clause-verdict c =
    let all = subst (λ q. ReportsAll q c.in_ok-report.report) (c.slots.ensures ∙ c.in_ok-analysis.ensures) c.in_ok-report.ensures in
    rw (c.verdict.ensures, c.in_ok-analysis.ensures) (verdict_of c.args.program.now c.in_ok-report.report all)

pub returns-clause-order_independent : goal.returns-clause-order_independent
returns-clause-order_independent c = accepted_order_independent c.args.program.now c.is_program.ensures c.verdict.result (returns-clause-verdict c)
