use Rattle.std.proofs.Common.{◌+◌}
use Rattle.ia64_top.specs.Runs.{run_of, trace_text}
use Rattle.ia64_top.proofs.TracedRuns.{IsTraced}
use Rattle.ia64_top.proofs.runs.trace_accepted.Given as goal

abbrev pub invariant-loop-left : goal.invariant-loop-left
invariant-loop-left l =
    IsTraced l.fn.accepted (l.fn.first + l.fn.count) (trace_text l.fn.first l.fn.count (run_of l.fn.accepted) (l.fn.first + l.fn.count))
    l.machine l.left l.bytes.items

abbrev pub decreases-loop-left : goal.decreases-loop-left
decreases-loop-left l = l.left
