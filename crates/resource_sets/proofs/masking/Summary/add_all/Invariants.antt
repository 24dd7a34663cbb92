use Rattle.std.proofs.Common.{List, ◌++◌, take}
use Rattle.resource_sets.specs.declared.access.Access.{Access}
use Rattle.resource_sets.specs.InsnAccesses.{IsSummary}
use Rattle.resource_sets.proofs.masking.Summary.add_all.Given as goal

abbrev pub invariant-loop-n : goal.invariant-loop-n
invariant-loop-n l = (earlier : List Access) → IsSummary earlier l.initial.self → IsSummary (earlier ++ take l.n l.accesses) l.self
