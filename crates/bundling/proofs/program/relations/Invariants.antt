use Rattle.std.proofs.Common.{◌≡◌, ◌++◌, drop}
use Rattle.std.specs.Prelude.{map}
use Rattle.bundling.specs.Bundled.{bundle_in, relation_moved}
use Rattle.bundling.proofs.program.relations.Given as goal

abbrev pub invariant-loop-relation : goal.invariant-loop-relation
invariant-loop-relation l =
    l.relocated.items ++ map (relation_moved (bundle_in l.places)) (drop l.relation-index l.relations)
    ≡ map (relation_moved (bundle_in l.places)) l.relations
