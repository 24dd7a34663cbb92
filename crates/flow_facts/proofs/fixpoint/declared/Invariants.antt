use Rattle.std.proofs.Common.{◌≡◌, drop}
use Rattle.predicate_rel.specs.Pairs.{no_pairs, pairs_of}
use Rattle.flow_facts.specs.Graphs.{with_relations}
use Rattle.flow_facts.proofs.fixpoint.declared.Given as goal

abbrev pub invariant-loop-relation : goal.invariant-loop-relation
invariant-loop-relation l = with_relations (pairs_of l.facts) (drop l.relation-index l.relations) ≡ with_relations no_pairs l.relations
