use Rattle.std.proofs.Common.{get_or, arith}
use Rattle.ia_meaning.specs.Sequence.{is_stopped}
use Rattle.flow_facts.specs.Graphs.{over_program}
use Rattle.group_checker.specs.declared.report.TheConstants.{SHOWN_LIMIT}
use Rattle.group_checker.proofs.EarlierSlots.{earlier_at}
use Rattle.group_checker.proofs.Reporting.{pair_reported, pair_listed, shown_short}
use Rattle.group_checker.proofs.checker.report_pair.Goals as goal

pub returns-clause-total : goal.returns-clause-total
returns-clause-total c = omega (arith, c.in_ok-add_all.ensures.total, c.in_ok-add_all.ensures.few)

pub returns-clause-shown : goal.returns-clause-shown
returns-clause-shown c = shown_short SHOWN_LIMIT _ _ c.in_ok-add_all.ensures.shown

pub returns-clause-reports : goal.returns-clause-reports
returns-clause-reports c p bound u before =
    let es = c.args.window.now in
    let e = get_or es c.args.n c.index-window-n.result in
    pair_reported p c.args.report.now c.add_all.new.self es c.args.second c.args.n bound _ u.window before
    (pair_listed (over_program p) (is_stopped p.bundles) es c.args.second c.args.n e c.pair_broken-broken.result
    (earlier_at es c.args.n c.index-window-n.result c.requires.inside)
    (c.pair_broken-broken.ensures (over_program p) (is_stopped p.bundles) c.args.second u))
    c.in_ok-add_all.ensures.few c.in_ok-add_all.ensures.total c.in_ok-add_all.ensures.shown
