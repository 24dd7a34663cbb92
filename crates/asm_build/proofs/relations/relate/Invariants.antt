use Rattle.std.proofs.Common.{◌≡◌, drop, flat_map}
use Rattle.asm_build.specs.Relations.{relations_above, relations_among, with_relations}
use Rattle.asm_build.proofs.relations.relate.Given as goal

abbrev pub invariant-loop-p : goal.invariant-loop-p
invariant-loop-p l =
    with_relations l.relations.keys (flat_map (λ p. relations_above l.bundle p l.predicates) (drop l.p-index l.predicates))
    ≡ with_relations l.fn.relations.keys (relations_among l.bundle l.predicates)
