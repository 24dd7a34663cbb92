use Rattle.ia_meaning.proofs.Arrivals.{relation_decides}
use Rattle.ia_meaning.proofs.laws.relation_test.Goals as goal

pub returns : goal.returns
returns c = relation_decides
