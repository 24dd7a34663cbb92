use Rattle.bundling.proofs.Neighbours.{AreStopLaws}
use Rattle.bundling.proofs.Stopping.{has_stops, has_one_stop, has_last_stop}
use Rattle.bundling.proofs.laws.bundled_has_stops.Goals as goal

stop_laws : goal.After-laid_out_bundles → AreStopLaws
stop_laws c = record {
  layouts = record { is_layout = c.laid_out_is_layout.ensures; holds = c.laid_out_bundles.ensures.holds };
  stops = c.laid_out_bundles.ensures.stops;
}

pub returns-clause-stops : goal.returns-clause-stops
returns-clause-stops c = has_stops (stop_laws c)

pub returns-clause-one : goal.returns-clause-one
returns-clause-one c = has_one_stop (stop_laws c)

pub returns-clause-last : goal.returns-clause-last
returns-clause-last c = has_last_stop (stop_laws c)
