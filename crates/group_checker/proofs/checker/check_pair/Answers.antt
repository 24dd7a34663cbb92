use Rattle.ia_meaning.specs.Sequence.{is_stopped}
use Rattle.flow_facts.specs.Graphs.{over_program}
use Rattle.group_checker.proofs.Reporting.{pair_apart}
use Rattle.group_checker.proofs.checker.check_pair.Goals as goal

pub returns-then-are_apart-clause-reports : goal.returns-then-are_apart-clause-reports
returns-then-are_apart-clause-reports c p bound u before =
    pair_apart p c.args.report.now c.args.window.now c.args.second c.args.n bound
    (λ v nth. c.are_apart.ensures c.if-are_apart.true (over_program p) (is_stopped p.bundles) c.args.second v u nth) before
