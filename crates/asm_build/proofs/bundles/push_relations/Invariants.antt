use Rattle.std.proofs.Common.{◌≡◌, ◌++◌, drop}
use Rattle.asm_build.specs.CanonicalText.{relations_text}
use Rattle.asm_build.proofs.bundles.push_relations.Given as goal

abbrev pub invariant-loop-relation : goal.invariant-loop-relation
invariant-loop-relation l = l.out.items ++ relations_text (drop l.relation-index l.relations) ≡ l.fn.out.items ++ relations_text l.relations
