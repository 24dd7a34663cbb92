use Rattle.std.proofs.Common.{◌∙◌}
use Rattle.predicate_rel.specs.Pairs.{pairs_of}
use Rattle.predicate_rel.proofs.PairLemmas.{pair_bits}
use Rattle.predicate_rel.proofs.facts.Facts.row_with.Goals as goal

pub returns : goal.returns
returns c y l =
    c.with_bit_where.ensures y l
    ∙ (rw (
      c.with_bit_where-row-2.ensures y l,
      c.with_bit_where-row.ensures y l,
      c.row.ensures y l,
      c.is_same_pair.ensures,
      c.other_of-b.ensures.other,
    ) (pair_bits c.args.a c.args.b c.args.x y (pairs_of c.args.self.now c.args.x y)))
