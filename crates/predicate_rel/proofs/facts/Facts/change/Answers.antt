use Rattle.predicate_rel.specs.Pairs.{has_bit}
use Rattle.predicate_rel.proofs.BitLemmas.{has_bit_none}
use Rattle.predicate_rel.proofs.Changing.{none_changed, changed_row, changed_wholly}
use Rattle.predicate_rel.proofs.facts.Facts.change.Goals as goal

pub changing-init : goal.changing-init
changing-init c = none_changed _ _ _ c.may_change-rest.ensures

pub changing-preserved : goal.changing-preserved
changing-preserved c =
    changed_row _ _ _ _ _ (has_bit c.without-rest.result) c.lowest-x.result c.action_row.result c.changing.invariant
    c.without-rest.ensures.bits c.action_row.ensures c.set_row.ensures

pub returns : goal.returns
returns c = changed_wholly _ _ _ (has_bit 0) (λ x l. has_bit_none x) (rw c.changing-test.false at c.changing.invariant)
