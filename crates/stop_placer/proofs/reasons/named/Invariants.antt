use Rattle.std.proofs.Common.{◌-◌}
use Rattle.ia_program.specs.Places.{place_number, IsPlaceOf, IsBefore}
use Rattle.group_checker.specs.Progress.{place_bound}
use Rattle.stop_placer.specs.Caused.{place_in, IsLastBefore}
use Rattle.stop_placer.proofs.Naming.{NamesAmong, IsFrom}
use Rattle.stop_placer.proofs.reasons.named.Given as goal

abbrev pub invariant-places : goal.invariant-places
invariant-places l = record {
  place : IsPlaceOf l.table.bundles l.place;
  last : IsLastBefore l.places l.n l.place;
  from : IsFrom l.table l.behind l.place;
  names : NamesAmong l.table (place_in l.places) l.causes l.stops.items (λ q. IsBefore q l.place);
}

abbrev pub decreases-places : goal.decreases-places
decreases-places l = place_bound - place_number l.place
