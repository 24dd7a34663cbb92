use Rattle.std.proofs.Common.{sym, ◌∙◌}
use Rattle.predicate_rel.proofs.PairLemmas.{pairs_of_in}
use Rattle.predicate_rel.proofs.facts.Facts.at.Goals as goal

pub returns : goal.returns
returns c =
    rw (← c.self.view_is) (c.has_bit.ensures ∙ sym (pairs_of_in c.self.inside.rows c.args.x c.args.y c.requires.left c.requires.right))
