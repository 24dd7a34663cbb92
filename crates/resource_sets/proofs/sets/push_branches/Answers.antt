use Rattle.std.proofs.Common.{◌∙◌, sym, ap, ◌++◌, List, arith}
use Rattle.std.specs.Prelude.{filter, ◌-◌, ◌+◌}
use Rattle.resource_sets.specs.declared.access.Resource.{Resource}
use Rattle.resource_sets.specs.declared.access.Resource.TheVariants.{Br}
use Rattle.resource_sets.specs.ResourceSets.{has_resource, numbered}
use Rattle.resource_sets.proofs.SetBits.{number_more, number_none}
use Rattle.resource_sets.proofs.sets.push_branches.Goals as goal

pub loop-b-preserved : goal.loop-b-preserved
loop-b-preserved c = record {
  told = c.loop-b.invariant.told
      ∙ number_more (has_resource c.args.set.now) Br c.loop-b.out.items 8 c.loop-b.b (omega arith)
      ∙ ap (λ (l : List Resource). l ++ filter (has_resource c.args.set.now) (numbered Br (8 - (c.loop-b.b + 1)) (c.loop-b.b + 1)))
      (sym c.push_if.ensures.items);
  len = omega (arith, c.loop-b.invariant.len, c.push_if.ensures.len);
}

pub returns-clause-items : goal.returns-clause-items
returns-clause-items c =
    sym (c.loop-b.invariant.told ∙ number_none (has_resource c.args.set.now) Br c.loop-b.out.items 8 c.loop-b.b (omega arith))
