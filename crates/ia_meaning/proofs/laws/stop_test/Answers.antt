use Rattle.ia_meaning.proofs.Sequences.{stop_decides}
use Rattle.ia_meaning.proofs.laws.stop_test.Goals as goal

pub returns : goal.returns
returns c = stop_decides
