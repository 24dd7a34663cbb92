use Rattle.std.proofs.Common.{◌-◌, ◌*◌}
use Rattle.ia_program.specs.Places.{place_number, IsPlaceOf}
use Rattle.ia_meaning.specs.Sequence.{is_stopped}
use Rattle.flow_facts.specs.Graphs.{over_program}
use Rattle.group_checker.specs.Windows.{IsWindow}
use Rattle.group_checker.specs.Progress.{HasReported, IsEarlier, place_bound, second_bound}
use Rattle.group_checker.proofs.checker.check_slots.Given as goal

abbrev pub invariant-slots : goal.invariant-slots
invariant-slots l = record {
  place : IsPlaceOf l.table.bundles l.second;
  window : IsWindow (over_program l.table) (is_stopped l.table.bundles) l.window l.second;
  reports : HasReported l.table l.report (IsEarlier l.second) (second_bound * place_number l.second);
}

abbrev pub decreases-slots : goal.decreases-slots
decreases-slots l = place_bound - place_number l.second
