use Rattle.std.proofs.Common.{◌∙◌, sym, ap, ◌++◌, List, arith}
use Rattle.std.specs.Prelude.{filter, ◌-◌, ◌+◌}
use Rattle.resource_sets.specs.declared.access.Resource.{Resource}
use Rattle.resource_sets.specs.declared.access.Resource.TheVariants.{Pr}
use Rattle.resource_sets.specs.ResourceSets.{has_resource, numbered}
use Rattle.resource_sets.proofs.SetBits.{number_more, number_none}
use Rattle.resource_sets.proofs.sets.push_predicates.Goals as goal

pub loop-p-preserved : goal.loop-p-preserved
loop-p-preserved c = record {
  told = c.loop-p.invariant.told
      ∙ number_more (has_resource c.args.set.now) Pr c.loop-p.out.items 64 c.loop-p.p (omega arith)
      ∙ ap (λ (l : List Resource). l ++ filter (has_resource c.args.set.now) (numbered Pr (64 - (c.loop-p.p + 1)) (c.loop-p.p + 1)))
      (sym c.push_if.ensures.items);
  len = omega (arith, c.loop-p.invariant.len, c.push_if.ensures.len);
}

pub returns-clause-items : goal.returns-clause-items
returns-clause-items c =
    sym (c.loop-p.invariant.told ∙ number_none (has_resource c.args.set.now) Pr c.loop-p.out.items 64 c.loop-p.p (omega arith))
