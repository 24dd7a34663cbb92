use Rattle.std.proofs.Common.{◌≡◌, ◌+◌, ◌-◌, ◌≤◌, ◌++◌}
use Rattle.std.specs.Prelude.{filter}
use Rattle.arrayvec.specs.ArrayVec.{array_vec_len}
use Rattle.resource_sets.specs.declared.access.Resource.TheVariants.{Br}
use Rattle.resource_sets.specs.ResourceSets.{has_resource, numbered}
use Rattle.resource_sets.proofs.sets.push_branches.Given as goal

abbrev pub invariant-loop-b : goal.invariant-loop-b
invariant-loop-b l = record {
  told : l.fn.out.items ++ filter (has_resource l.set) (numbered Br 8 0) ≡ l.out.items ++ filter (has_resource l.set)
      (numbered Br (8 - l.b) l.b);
  len : array_vec_len l.out ≤ 192 + l.b;
}
