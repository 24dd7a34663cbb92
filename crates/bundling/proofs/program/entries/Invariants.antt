use Rattle.std.proofs.Common.{◌≡◌, ◌++◌, drop}
use Rattle.std.specs.Prelude.{map}
use Rattle.bundling.specs.Bundled.{bundle_in}
use Rattle.bundling.proofs.program.entries.Given as goal

abbrev pub invariant-loop-entry : goal.invariant-loop-entry
invariant-loop-entry l = l.relocated.items ++ map (bundle_in l.places) (drop l.entry-index l.entries) ≡ map (bundle_in l.places) l.entries
