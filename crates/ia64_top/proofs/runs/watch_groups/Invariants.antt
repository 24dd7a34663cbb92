use Rattle.std.proofs.Common.{map}
use Rattle.ia64_top.proofs.WatchedRuns.{IsUnderWatch}
use Rattle.ia64_top.proofs.runs.watch_groups.Given as goal

abbrev pub invariant-loop-left : goal.invariant-loop-left
invariant-loop-left g l =
    IsUnderWatch (λ b. (goal.Watch-dyn g (b.vtable, b.value)).state b.value) l.fn.machine l.fn.groups
    (map (λ b. (goal.Watch-dyn g (b.vtable, b.value)).state b.value) l.fn.watchers.items) l.machine l.left l.reports.text
    l.reports.numbers l.watchers.items

abbrev pub decreases-loop-left : goal.decreases-loop-left
decreases-loop-left g l = l.left
