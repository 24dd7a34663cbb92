use Rattle.ia_meaning.proofs.laws.progress_text_is_run_text.Goals as goal
use Rattle.ia_meaning.proofs.WholeRuns.{progress_text_is_run_text}

pub returns : goal.returns
returns c = progress_text_is_run_text
