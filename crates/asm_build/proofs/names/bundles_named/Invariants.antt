use Rattle.std.proofs.Common.{◌≡◌, ◌-◌, ◌++◌, drop, length}
use Rattle.ia_program.specs.Bundles.{AreBundles}
use Rattle.asm_build.specs.Names.{bundles_named, unnamed_bundle}
use Rattle.asm_build.proofs.names.bundles_named.Given as goal

abbrev pub invariant-loop-n : goal.invariant-loop-n
invariant-loop-n l =
    (l.bundles.items ++ bundles_named l.labels.entries l.n (drop l.n l.lines) ≡ bundles_named l.labels.entries 0 l.lines)
    × (unnamed_bundle l.labels.entries l.n (drop l.n l.lines) ≡ unnamed_bundle l.labels.entries 0 l.lines)
    × AreBundles l.bundles.items

abbrev pub decreases-loop-n : goal.decreases-loop-n
decreases-loop-n l = length l.lines - l.n
