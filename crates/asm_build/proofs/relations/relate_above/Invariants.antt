use Rattle.std.proofs.Common.{◌≡◌, drop}
use Rattle.asm_build.specs.Relations.{relations_above, with_relations}
use Rattle.asm_build.proofs.relations.relate_above.Given as goal

abbrev pub invariant-loop-q : goal.invariant-loop-q
invariant-loop-q l =
    with_relations l.relations.keys (relations_above l.bundle l.p (drop l.q-index l.predicates))
    ≡ with_relations l.fn.relations.keys (relations_above l.bundle l.p l.predicates)
