use Rattle.std.proofs.Common.{sym}
use Rattle.predicate_rel.proofs.PairLemmas.{pairs_of_in}
use Rattle.predicate_rel.proofs.facts.Facts.row.Goals as goal

pub returns : goal.returns
returns c y l = rw (← c.self.view_is) (sym (pairs_of_in c.self.inside.rows c.args.x y c.requires l))
