use Rattle.std.proofs.Common.{◌≡◌, take}
use Rattle.std.specs.List.{list_any}
use Rattle.resource_sets.specs.declared.access.Resource.{Resource}
use Rattle.resource_sets.specs.Clashes.{is_resource}
use Rattle.resource_sets.specs.ResourceSets.{has_resource}
use Rattle.resource_sets.proofs.access_sets.resources_of.Given as goal

abbrev pub invariant-loop-n : goal.invariant-loop-n
invariant-loop-n l = (q : Resource) → has_resource l.resources q ≡ list_any (λ a. is_resource a.resource q) (take l.n l.accesses)
