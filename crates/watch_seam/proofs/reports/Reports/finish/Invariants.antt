use Rattle.std.proofs.Common.{◌-◌, ◌++◌, length, map, zip, flat_map}
use Rattle.watch_seam.specs.Watching.{numbered_report}
use Rattle.watch_seam.proofs.Showing.{IsReportedTo}
use Rattle.watch_seam.proofs.reports.Reports.finish.Given as goal

abbrev pub invariant-loop-at : goal.invariant-loop-at
invariant-loop-at g l =
    IsReportedTo (λ b. (goal.Watch-dyn g (b.vtable, b.value)).state b.value)
    (l.fn.self.text ++ flat_map numbered_report (zip l.fn.self.numbers
    (map (λ b. (goal.Watch-dyn g (b.vtable, b.value)).state b.value) l.fn.watchers))) l.text.items l.numbers.items l.watchers l.at

abbrev pub decreases-loop-at : goal.decreases-loop-at
decreases-loop-at g l = length l.initial.watchers - l.at
