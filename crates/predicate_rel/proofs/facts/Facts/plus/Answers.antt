use Rattle.std.proofs.Common.{arith}
use Rattle.predicate_rel.specs.Pairs.{with_pair}
use Rattle.predicate_rel.proofs.PairLemmas.{shows, with_pair_out}
use Rattle.predicate_rel.proofs.facts.Facts.plus.Goals as goal

pub returns : goal.returns
unfolding with_pair
returns c =
    shows c.loop-row.rows _ (λ x y a b. c.loop-row.invariant.done x y (omega arith) b)
    (with_pair_out c.args.self.now c.args.x c.args.y (omega arith) (omega arith))
