use Rattle.std.proofs.Common.{◌∙◌, sym, ap, ◌++◌, List, arith}
use Rattle.std.specs.Prelude.{filter, ◌-◌, ◌+◌}
use Rattle.resource_sets.specs.declared.access.Resource.{Resource}
use Rattle.resource_sets.specs.declared.access.Resource.TheVariants.{Gr}
use Rattle.resource_sets.specs.ResourceSets.{has_resource, numbered}
use Rattle.resource_sets.proofs.SetBits.{number_more, number_none}
use Rattle.resource_sets.proofs.sets.push_registers.Goals as goal

pub loop-r-preserved : goal.loop-r-preserved
loop-r-preserved c = record {
  told = c.loop-r.invariant.told
      ∙ number_more (has_resource c.args.set.now) Gr c.loop-r.out.items 128 c.loop-r.r (omega arith)
      ∙ ap (λ (l : List Resource). l ++ filter (has_resource c.args.set.now) (numbered Gr (128 - (c.loop-r.r + 1)) (c.loop-r.r + 1)))
      (sym c.push_if.ensures.items);
  len = omega (arith, c.loop-r.invariant.len, c.push_if.ensures.len);
}

pub returns-clause-items : goal.returns-clause-items
returns-clause-items c =
    sym (c.loop-r.invariant.told ∙ number_none (has_resource c.args.set.now) Gr c.loop-r.out.items 128 c.loop-r.r (omega arith))
