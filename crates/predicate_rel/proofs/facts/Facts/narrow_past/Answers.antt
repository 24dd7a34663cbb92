use Rattle.predicate_rel.specs.Pairs.{has_bit, pairs_of}
use Rattle.predicate_rel.specs.Rules.{action_rule}
use Rattle.predicate_rel.proofs.BitLemmas.{has_bit_none}
use Rattle.predicate_rel.proofs.Narrowing.{narrowed_row, narrowed_within, narrowed_wholly, narrows_rows, lost_row, lost_agrees, row_past}
use Rattle.predicate_rel.proofs.facts.Facts.narrow_past.Goals as goal

pub narrowing-preserved-then-narrow_row : goal.narrowing-preserved-then-narrow_row
narrowing-preserved-then-narrow_row c = record {
  narrowed =
      narrowed_row _ _ _ _ _ _ (has_bit c.without-rest.result) c.lowest-x.result c.action_row.result c.narrowing.invariant.narrowed
      c.lowest-x.ensures.range c.lowest-x.ensures.there c.without-rest.ensures.bits
      (row_past (pairs_of c.args.before.now) (action_rule c.args.action.now c.args.edge c.args.qp) c.lowest-x.result c.action_row.result
      c.lowest-x.ensures.range c.action_row.ensures) c.narrow_row.ensures.narrowed;
  lost =
      lost_row _ _ _ c.narrowing.lost c.with_bit-lost.result c.lowest-x.result c.action_row.result c.narrowing.invariant.lost
      (λ x y l m. narrowed_within _ _ _ _ _ x y c.narrowing.invariant.narrowed l m) c.with_bit-lost.ensures c.narrow_row.ensures.narrowed
      c.if-narrow_row.ensures.more;
}

pub narrowing-preserved : goal.narrowing-preserved
narrowing-preserved c = record {
  narrowed =
      narrowed_row _ _ _ _ _ _ (has_bit c.without-rest.result) c.lowest-x.result c.action_row.result c.narrowing.invariant.narrowed
      c.lowest-x.ensures.range c.lowest-x.ensures.there c.without-rest.ensures.bits
      (row_past (pairs_of c.args.before.now) (action_rule c.args.action.now c.args.edge c.args.qp) c.lowest-x.result c.action_row.result
      c.lowest-x.ensures.range c.action_row.ensures) c.narrow_row.ensures.narrowed;
  lost = rw c.if-narrow_row.ensures.same c.narrowing.invariant.lost;
}

pub returns : goal.returns
returns c =
    let rules = action_rule c.args.action.now c.args.edge c.args.qp in
    narrows_rows rules c.args.changed c.reached-rows.result (pairs_of c.args.before.now) c.args.self.now c.narrowing.self c.narrowing.lost
    (narrowed_wholly _ _ _ _ (has_bit 0) (λ x l. has_bit_none x) (rw c.narrowing-test.false at c.narrowing.invariant.narrowed))
    c.reached-rows.ensures.changed (λ older agree. c.reached-rows.ensures.reached c.args.edge older (pairs_of c.args.before.now) agree)
    (lost_agrees c.args.self.now c.narrowing.self c.narrowing.lost c.narrowing.invariant.lost) c.narrowing.invariant.lost.more

pub returns-then-rows : goal.returns-then-rows
returns-then-rows c = c.narrow_whole.ensures c.args.changed
