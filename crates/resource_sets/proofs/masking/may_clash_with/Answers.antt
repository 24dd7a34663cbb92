use Rattle.std.proofs.Common.{◌∙◌, ◌&&◌, Bool, ap, sym}
use Rattle.std.proofs.lemmas.Bool.{and_right}
use Rattle.resource_sets.specs.ResourceSets.{has_resource}
use Rattle.resource_sets.proofs.Summing.{one_apart}
use Rattle.resource_sets.proofs.masking.may_clash_with.Goals as goal

pub returns-then-is_first : goal.returns-then-is_first
returns-then-is_first c none =
    rw (← c.second.view_is) (one_apart c.args.first.now _ c.second.inside.summary c.second.invariant.sums
    (and_right _ _ (sym c.has.ensures ∙ none)))

pub returns-else-is_first : goal.returns-else-is_first
returns-else-is_first c none =
    rw (← c.second.view_is)
    (one_apart c.args.first.now _ c.second.inside.summary c.second.invariant.sums
    (ap (λ (b : Bool). b && has_resource c.second.inside.summary.made c.args.first.now.resource)
    (sym c.is_first.ensures ∙ c.if-is_first.false)))
