use Rattle.std.proofs.Common.{◌≡◌, ◌-◌, ◌≤◌}
use Rattle.ia64_top.proofs.Sums.{sum_of}
use Rattle.ia64_top.proofs.trial.register_sum.Given as goal

abbrev pub invariant-loop-n : goal.invariant-loop-n
invariant-loop-n l = (8 ≤ l.n) × (l.n ≤ 16) × (l.sum ≡ sum_of l.machine.progress.state.registers (l.n - 8))
