use Rattle.ia_meaning.proofs.Sequences.{entry_decides}
use Rattle.ia_meaning.proofs.laws.entry_test.Goals as goal

pub returns : goal.returns
returns c = entry_decides
