use Rattle.std.proofs.Common.{◌≡◌, ◌-◌, ◌++◌, drop, length}
use Rattle.bundling.specs.Bundled.{bundle_in, targeted_from, targeted}
use Rattle.bundling.proofs.program.bundle_insns.Given as goal

abbrev pub invariant-loop-n : goal.invariant-loop-n
invariant-loop-n l =
    l.insns.items ++ targeted_from (bundle_in l.places) l.n (drop l.n l.items) (drop l.n l.targets) ≡ targeted (bundle_in l.places) l.text

abbrev pub decreases-loop-n : goal.decreases-loop-n
decreases-loop-n l = length l.items - l.n
