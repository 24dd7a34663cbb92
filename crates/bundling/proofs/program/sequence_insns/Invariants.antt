use Rattle.std.proofs.Common.{◌≡◌, ◌-◌, ◌++◌, drop, length}
use Rattle.bundling.specs.Bundled.{targeted_from, targeted}
use Rattle.bundling.proofs.program.sequence_insns.Given as goal

abbrev pub invariant-loop-n : goal.invariant-loop-n
invariant-loop-n l = l.insns.items ++ targeted_from (λ n. n) l.n (drop l.n l.items) (drop l.n l.targets) ≡ targeted (λ n. n) l.text

abbrev pub decreases-loop-n : goal.decreases-loop-n
decreases-loop-n l = length l.items - l.n
