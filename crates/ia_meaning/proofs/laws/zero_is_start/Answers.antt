use Rattle.ia_meaning.proofs.Starts.{zero_is_start}
use Rattle.ia_meaning.proofs.laws.zero_is_start.Goals as goal

pub returns : goal.returns
returns c p program = zero_is_start p program
