use Rattle.std.proofs.Common.{subst}
use Rattle.predicate_rel.specs.Pairs.{Pairs, has_bit, pairs_of}
use Rattle.predicate_rel.specs.Rules.{action_rule}
use Rattle.predicate_rel.proofs.PairLemmas.{pairs_kept}
use Rattle.predicate_rel.proofs.Narrowing.{IsWholly, narrows_rows, wholly_from, kept_agree}
use Rattle.predicate_rel.proofs.facts.Facts.narrow.Goals as goal

pub returns-then-keeps_pairs : goal.returns-then-keeps_pairs
returns-then-keeps_pairs c =
    let rules = action_rule c.args.action.now c.args.edge c.args.qp in
    let kept = c.keeps_pairs.ensures c.if-keeps_pairs.true c.args.qp in
    narrows_rows rules c.args.changed c.args.changed (pairs_of c.args.before.now) c.args.self.now c.intersect.new.self c.intersect.result
    (subst (λ (past : Pairs). IsWholly (pairs_of c.args.self.now) past (has_bit c.args.changed) (pairs_of c.intersect.new.self))
    (pairs_kept c.args.before.now rules kept)
    (wholly_from _ _ _ c.args.changed c.intersect.ensures.common))
    (λ x l t. t) (λ older agree. kept_agree rules c.args.changed older (pairs_of c.args.before.now) kept agree)
    c.intersect.ensures.lost c.intersect.ensures.more
