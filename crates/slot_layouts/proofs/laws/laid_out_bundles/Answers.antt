use Rattle.slot_layouts.proofs.LaidOut.{holds_in_order, has_stops_as_wanted}
use Rattle.slot_layouts.proofs.laws.laid_out_bundles.Goals as goal

pub returns-clause-holds : goal.returns-clause-holds
returns-clause-holds c = holds_in_order

pub returns-clause-stops : goal.returns-clause-stops
returns-clause-stops c = has_stops_as_wanted
