use Rattle.slot_layouts.proofs.LaidOut.{stop_right_before_m}
use Rattle.slot_layouts.proofs.laws.laid_out_places.Goals as goal

pub returns-clause-stop_before : goal.returns-clause-stop_before
returns-clause-stop_before c = stop_right_before_m
