use Rattle.predicate_rel.specs.Pairs.{has_bit, pairs_of}
use Rattle.predicate_rel.specs.Rules.{action_rule}
use Rattle.predicate_rel.proofs.Changing.{AreChanged}
use Rattle.predicate_rel.proofs.facts.Facts.change.Given as goal

abbrev pub invariant-changing : goal.invariant-changing
invariant-changing l = AreChanged (action_rule l.action l.edge l.qp) (pairs_of l.before) (has_bit l.rest) (pairs_of l.self)

abbrev pub decreases-changing : goal.decreases-changing
decreases-changing l = l.rest
