use Rattle.std.proofs.Common.{◌≡◌, ◌-◌, ◌≤◌, ◌++◌, drop, length, sum}
use Rattle.std.specs.Prelude.{map}
use Rattle.bundling.specs.Bundled.{bundles_from}
use Rattle.bundling.proofs.program.bundles.Given as goal

abbrev pub invariant-loop-n : goal.invariant-loop-n
invariant-loop-n l =
    (l.bundles.items ++ bundles_from (drop l.n l.chunks) l.rest ≡ bundles_from l.chunks l.insns)
    × (sum (map (λ c. length c.wanted) (drop l.n l.chunks)) ≤ length l.rest)

abbrev pub decreases-loop-n : goal.decreases-loop-n
decreases-loop-n l = length l.chunks - l.n
