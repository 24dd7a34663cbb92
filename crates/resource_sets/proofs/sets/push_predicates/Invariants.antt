use Rattle.std.proofs.Common.{◌≡◌, ◌+◌, ◌-◌, ◌≤◌, ◌++◌}
use Rattle.std.specs.Prelude.{filter}
use Rattle.arrayvec.specs.ArrayVec.{array_vec_len}
use Rattle.resource_sets.specs.declared.access.Resource.TheVariants.{Pr}
use Rattle.resource_sets.specs.ResourceSets.{has_resource, numbered}
use Rattle.resource_sets.proofs.sets.push_predicates.Given as goal

abbrev pub invariant-loop-p : goal.invariant-loop-p
invariant-loop-p l = record {
  told : l.fn.out.items ++ filter (has_resource l.set) (numbered Pr 64 0) ≡ l.out.items ++ filter (has_resource l.set)
      (numbered Pr (64 - l.p) l.p);
  len : array_vec_len l.out ≤ 128 + l.p;
}
