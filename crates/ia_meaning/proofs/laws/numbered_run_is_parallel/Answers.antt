use Rattle.ia_meaning.proofs.NumberedRuns.{numbered_run_is_parallel}
use Rattle.ia_meaning.proofs.laws.numbered_run_is_parallel.Goals as goal

pub returns : goal.returns
returns c = numbered_run_is_parallel
