use Rattle.predicate_rel.specs.Pairs.{has_bit, pairs_of}
use Rattle.predicate_rel.proofs.BitLemmas.{has_bit_none}
use Rattle.predicate_rel.proofs.Narrowing.{narrowed_row, narrowed_within, narrowed_wholly, narrowed_rows, lost_row, lost_agrees}
use Rattle.predicate_rel.proofs.facts.Facts.intersect.Goals as goal

pub narrowing-preserved-then-narrow_row : goal.narrowing-preserved-then-narrow_row
narrowing-preserved-then-narrow_row c = record {
  narrowed =
      narrowed_row _ _ _ _ _ _ (has_bit c.without-rest.result) c.lowest-x.result c.row.result c.narrowing.invariant.narrowed
      c.lowest-x.ensures.range c.lowest-x.ensures.there c.without-rest.ensures.bits c.row.ensures c.narrow_row.ensures.narrowed;
  lost =
      lost_row _ _ _ c.narrowing.lost c.with_bit-lost.result c.lowest-x.result c.row.result c.narrowing.invariant.lost
      (λ x y l m. narrowed_within _ _ _ _ _ x y c.narrowing.invariant.narrowed l m) c.with_bit-lost.ensures c.narrow_row.ensures.narrowed
      c.if-narrow_row.ensures.more;
}

pub narrowing-preserved : goal.narrowing-preserved
narrowing-preserved c = record {
  narrowed =
      narrowed_row _ _ _ _ _ _ (has_bit c.without-rest.result) c.lowest-x.result c.row.result c.narrowing.invariant.narrowed
      c.lowest-x.ensures.range c.lowest-x.ensures.there c.without-rest.ensures.bits c.row.ensures c.narrow_row.ensures.narrowed;
  lost = rw c.if-narrow_row.ensures.same c.narrowing.invariant.lost;
}

pub returns-clause-common : goal.returns-clause-common
returns-clause-common c =
    narrowed_rows c.args.self.now c.narrowing.self (pairs_of c.args.other.now) (has_bit c.args.rows)
    (narrowed_wholly _ _ _ _ (has_bit 0) (λ x l. has_bit_none x) (rw c.narrowing-test.false at c.narrowing.invariant.narrowed))

pub returns-clause-lost : goal.returns-clause-lost
returns-clause-lost c = lost_agrees c.args.self.now c.narrowing.self c.narrowing.lost c.narrowing.invariant.lost
