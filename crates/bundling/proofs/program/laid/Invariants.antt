use Rattle.std.proofs.Common.{◌≡◌, ◌-◌, ◌++◌, drop, length}
use Rattle.std.specs.Prelude.{map}
use Rattle.bundling.specs.Bundled.{layout_of, places_from, places_of}
use Rattle.bundling.proofs.program.laid.Given as goal

abbrev pub invariant-loop-n : goal.invariant-loop-n
invariant-loop-n l =
    (l.layouts.items ++ map layout_of (drop l.n l.chunks) ≡ map layout_of l.chunks)
    × (l.places.items ++ places_from l.n (drop l.n l.chunks) ≡ places_of l.chunks)

abbrev pub decreases-loop-n : goal.decreases-loop-n
decreases-loop-n l = length l.chunks - l.n
