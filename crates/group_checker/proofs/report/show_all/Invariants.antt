use Rattle.std.proofs.Common.{◌≡◌, ◌≤◌, ◌++◌, length, take}
use Rattle.std.specs.Prelude.{map}
use Rattle.group_checker.specs.declared.report.TheConstants.{SHOWN_LIMIT}
use Rattle.group_checker.proofs.report.show_all.Given as goal

abbrev pub invariant-loop-resource : goal.invariant-loop-resource
invariant-loop-resource l = record {
  shown : l.shown.items ≡ take SHOWN_LIMIT (l.initial.shown.items ++ map
      (λ q. record { second = l.second; first = l.first; rule = l.rule; resource = q }) (take l.resource-index l.resources));
  short : length l.shown.items ≤ SHOWN_LIMIT;
}
