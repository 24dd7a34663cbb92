use Rattle.std.proofs.Common.{◌-◌, length}
use Rattle.watch_seam.proofs.Showing.{IsShown}
use Rattle.watch_seam.proofs.reports.Reports.show.Given as goal

abbrev pub invariant-loop-at : goal.invariant-loop-at
invariant-loop-at g l =
    IsShown (λ b. (goal.Watch-dyn g (b.vtable, b.value)).state b.value) l.fn.event l.fn.self.text l.fn.self.numbers l.fn.watchers.items
    l.self.text l.self.numbers l.watchers.items l.at

abbrev pub decreases-loop-at : goal.decreases-loop-at
decreases-loop-at g l = length l.watchers.items - l.at
