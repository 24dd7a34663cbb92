use Rattle.std.proofs.Common.{◌-◌}
use Rattle.ia_program.specs.Places.{place_number, IsPlaceOf}
use Rattle.flow_facts.specs.Graphs.{over_program}
use Rattle.group_checker.specs.Windows.{IsWindow}
use Rattle.group_checker.specs.Progress.{place_bound}
use Rattle.stop_placer.specs.Placing.{without_stop}
use Rattle.stop_placer.proofs.Cuts.{HasNoneBefore}
use Rattle.stop_placer.proofs.reasons.first_without.Given as goal

abbrev pub invariant-slots : goal.invariant-slots
invariant-slots l = record {
  place : IsPlaceOf l.table.bundles l.second;
  window : IsWindow (over_program l.table) (without_stop l.table l.out) l.window l.second;
  none : HasNoneBefore l.table l.out l.second;
}

abbrev pub decreases-slots : goal.decreases-slots
decreases-slots l = place_bound - place_number l.second
