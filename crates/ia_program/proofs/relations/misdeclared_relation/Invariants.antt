use Rattle.std.proofs.Common.{◌≡◌, ℕ, ◌<◌}
use Rattle.ia_program.specs.Programs.{relation_before, IsRelationAt}
use Rattle.ia_program.proofs.relations.misdeclared_relation.Given as goal

abbrev pub invariant-loop-n : goal.invariant-loop-n
invariant-loop-n l =
    (l.before ≡ relation_before l.relations l.n) × ((k : ℕ) → k < l.n → IsRelationAt l.bundles l.entries l.relations k)
