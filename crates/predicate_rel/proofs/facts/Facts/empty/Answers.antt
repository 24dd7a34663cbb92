use Rattle.std.proofs.Common.{refl}
use Rattle.predicate_rel.proofs.Literals.{shows_none}
use Rattle.predicate_rel.proofs.facts.Facts.empty.Goals as goal

pub returns : goal.returns
returns c = shows_none _ refl refl
