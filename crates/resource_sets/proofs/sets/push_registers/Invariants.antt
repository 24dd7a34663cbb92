use Rattle.std.proofs.Common.{◌≡◌, ◌+◌, ◌-◌, ◌≤◌, ◌++◌}
use Rattle.std.specs.Prelude.{filter}
use Rattle.arrayvec.specs.ArrayVec.{array_vec_len}
use Rattle.resource_sets.specs.declared.access.Resource.TheVariants.{Gr}
use Rattle.resource_sets.specs.ResourceSets.{has_resource, numbered}
use Rattle.resource_sets.proofs.sets.push_registers.Given as goal

abbrev pub invariant-loop-r : goal.invariant-loop-r
invariant-loop-r l = record {
  told : l.fn.out.items ++ filter (has_resource l.set) (numbered Gr 128 0) ≡ l.out.items ++ filter (has_resource l.set)
      (numbered Gr (128 - l.r) l.r);
  len : array_vec_len l.out ≤ 0 + l.r;
}
