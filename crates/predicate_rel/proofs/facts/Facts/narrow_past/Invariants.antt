use Rattle.predicate_rel.specs.Pairs.{has_bit, pairs_of}
use Rattle.predicate_rel.specs.Rules.{action_rule, pairs_by}
use Rattle.predicate_rel.proofs.Narrowing.{IsNarrowed, HasLost}
use Rattle.predicate_rel.proofs.facts.Facts.narrow_past.Given as goal

abbrev pub invariant-narrowing : goal.invariant-narrowing
invariant-narrowing l = record {
  narrowed : IsNarrowed (pairs_of l.initial.self) (pairs_by (pairs_of l.before) (action_rule l.action l.edge l.qp)) (has_bit l.initial.rest)
      (has_bit l.rest) (pairs_of l.self);
  lost : HasLost (pairs_of l.initial.self) l.lost (pairs_of l.self);
}

abbrev pub decreases-narrowing : goal.decreases-narrowing
decreases-narrowing l = l.rest
