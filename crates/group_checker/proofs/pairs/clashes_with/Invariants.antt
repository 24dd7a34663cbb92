use Rattle.std.proofs.Common.{take}
use Rattle.std.specs.Prelude.{Contains}
use Rattle.resource_sets.specs.AccessSets.{IsInSet}
use Rattle.group_checker.specs.Broken.{Gains}
use Rattle.group_checker.specs.Findings.{Finds}
use Rattle.group_checker.proofs.pairs.clashes_with.Given as goal

abbrev pub invariant-loop-n : goal.invariant-loop-n
invariant-loop-n l = Gains l.initial.broken l.broken (Finds l.first (IsInSet l.a) (Contains (take l.n l.named)))
