use Rattle.std.proofs.Common.{subst}
use Rattle.predicate_rel.specs.Pairs.{Pairs, has_bit, pairs_of}
use Rattle.predicate_rel.specs.Rules.{action_rule}
use Rattle.predicate_rel.proofs.Narrowing.{IsWholly, narrows_all, wholly_from}
use Rattle.predicate_rel.proofs.facts.Facts.narrow_whole.Goals as goal

pub returns : goal.returns
returns c changed =
    let rules = action_rule c.args.action.now c.args.edge c.args.qp in
    narrows_all rules changed (pairs_of c.args.before.now) c.args.self.now c.intersect.new.self c.intersect.result
    (subst (λ (past : Pairs). IsWholly (pairs_of c.args.self.now) past (has_bit 18446744073709551615) (pairs_of c.intersect.new.self))
    c.after_action.ensures
    (wholly_from _ _ _ 18446744073709551615 c.intersect.ensures.common))
    c.intersect.ensures.lost c.intersect.ensures.more
