use Rattle.predicate_rel.specs.Rules.{action_rule}
use Rattle.predicate_rel.proofs.PairLemmas.{pairs_kept}
use Rattle.predicate_rel.proofs.facts.Facts.go_past.Goals as goal

pub returns-else-not-keeps_pairs : goal.returns-else-not-keeps_pairs
returns-else-not-keeps_pairs c =
    pairs_kept c.args.self.now (action_rule c.args.action.now c.args.edge c.args.qp)
    (c.keeps_pairs.ensures c.if-not-keeps_pairs.false c.args.qp)
