use Rattle.std.proofs.Common.{rules}
use Rattle.watch_seam.proofs.Showing.{reported_one}
use Rattle.watch_seam.proofs.reports.Reports.finish.Goals as goal

pub loop-at-preserved : goal.loop-at-preserved
loop-at-preserved g c =
    reported_one _ _ _ _ _ _ _ _ _ c.loop-at.invariant (search rules) c.index.ensures c.index-watchers-at.is
    c.in_ok-append_numbered_report.ensures
