use Rattle.ia_meaning.proofs.Starts.{frame_decides}
use Rattle.ia_meaning.proofs.laws.frame_test.Goals as goal

pub returns : goal.returns
returns c f = frame_decides f
