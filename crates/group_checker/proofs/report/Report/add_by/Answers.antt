use Rattle.std.proofs.Common.{◌≡◌, ◌∙◌, ◌+◌, ◌++◌, ℕ, length, take, ap, sym, arith}
use Rattle.group_checker.specs.declared.report.TheConstants.{SHOWN_LIMIT}
use Rattle.group_checker.specs.Broken.{violations_by}
use Rattle.group_checker.specs.Shown.{Report}
use Rattle.group_checker.proofs.ListedViolations.{by_length}
use Rattle.group_checker.proofs.Reporting.{none_added}
use Rattle.group_checker.proofs.report.Report.add_by.Goals as goal

pub returns-clause-few : goal.returns-clause-few
returns-clause-few c =
    let e = by_length c.args.first c.args.second c.args.rule c.args.resources.now in
    omega (arith, e, c.len-count.ensures.count, c.len-count.ensures.most)

pub returns-clause-total : goal.returns-clause-total
returns-clause-total c =
    ap (λ (n : ℕ). c.self.inside.total + n) (c.len-count.ensures.count
    ∙ sym (by_length c.args.first c.args.second c.args.rule c.args.resources.now))
    ∙ ap (λ (r : Report). r.total + length (violations_by c.args.first c.args.second c.args.rule c.args.resources.now)) c.self.view_is

pub returns-clause-shown : goal.returns-clause-shown
returns-clause-shown c =
    c.in_ok-show_set.ensures ∙ ap (λ (r : Report). take SHOWN_LIMIT
    (r.shown ++ violations_by c.args.first c.args.second c.args.rule c.args.resources.now)) c.self.view_is

pub returns-then-count-eq0-clause-few : goal.returns-then-count-eq0-clause-few
returns-then-count-eq0-clause-few c =
    let none : length (violations_by c.args.first c.args.second c.args.rule c.args.resources.now) ≡ 0 =
    omega (arith, by_length c.args.first c.args.second c.args.rule c.args.resources.now, c.len-count.ensures.count) in
    (none_added c.args.self.now (violations_by c.args.first c.args.second c.args.rule c.args.resources.now) c.requires.shown none).few

pub returns-then-count-eq0-clause-total : goal.returns-then-count-eq0-clause-total
returns-then-count-eq0-clause-total c =
    let none : length (violations_by c.args.first c.args.second c.args.rule c.args.resources.now) ≡ 0 =
    omega (arith, by_length c.args.first c.args.second c.args.rule c.args.resources.now, c.len-count.ensures.count) in
    (none_added c.args.self.now (violations_by c.args.first c.args.second c.args.rule c.args.resources.now) c.requires.shown none).total

pub returns-then-count-eq0-clause-shown : goal.returns-then-count-eq0-clause-shown
returns-then-count-eq0-clause-shown c =
    let none : length (violations_by c.args.first c.args.second c.args.rule c.args.resources.now) ≡ 0 =
    omega (arith, by_length c.args.first c.args.second c.args.rule c.args.resources.now, c.len-count.ensures.count) in
    (none_added c.args.self.now (violations_by c.args.first c.args.second c.args.rule c.args.resources.now) c.requires.shown none).shown
