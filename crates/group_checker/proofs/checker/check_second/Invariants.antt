use Rattle.std.proofs.Common.{◌+◌, ◌*◌, ◌≤◌, length}
use Rattle.ia_program.specs.Places.{place_number}
use Rattle.ia_program.specs.Programs.{Program}
use Rattle.ia_meaning.specs.Sequence.{is_stopped}
use Rattle.flow_facts.specs.Graphs.{over_program}
use Rattle.group_checker.specs.declared.report.TheConstants.{SHOWN_LIMIT}
use Rattle.group_checker.specs.Windows.{HasWindow}
use Rattle.group_checker.specs.Progress.{HasReported, IsEarlier, IsEarlierPair, pair_bound, second_bound}
use Rattle.group_checker.proofs.checker.check_second.Given as goal

abbrev pub invariant-loop-n : goal.invariant-loop-n
invariant-loop-n l = record {
  total : l.report.total ≤ second_bound * place_number l.second + pair_bound * l.n;
  shown : length l.report.shown ≤ SHOWN_LIMIT;
  reports : (p : Program) → HasWindow (over_program p) (is_stopped p.bundles) l.window l.second l.slot l.seconds
      → HasReported p l.fn.report (IsEarlier l.second) (second_bound * place_number l.second)
      → HasReported p l.report (IsEarlierPair l.window l.second l.n) (second_bound * place_number l.second + pair_bound * l.n);
}
