use Rattle.std.proofs.Common.{◌≡◌, ap, arith}
use Rattle.group_checker.specs.Shown.{Report}
use Rattle.group_checker.proofs.report.Report.verdict.Goals as goal

pub of-requires : goal.of-requires
of-requires c =
    let none : c.args.self.total ≡ 0 = omega (arith, c.if-self-eq0.true, ap (λ (r : Report). r.total) c.self.view_is) in
    rw c.into_slots.ensures (c.requires none)
