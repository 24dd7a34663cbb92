use Rattle.std.proofs.Common.{refl}
use Rattle.ia64_top.proofs.Printing.{four_pieces}
use Rattle.ia64_top.proofs.trial.trial_text.Goals as goal

pub returns : goal.returns
returns c = four_pieces _ _ _ _ _ _ _ _ c.in_ok-text.ensures c.in_ok-push_outcome.ensures.ok c.in_ok-push_sum.ensures refl
