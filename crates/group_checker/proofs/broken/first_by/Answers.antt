use Rattle.std.proofs.Common.{List, refl, sym, ap, ◌∙◌}
use Rattle.std.specs.Prelude.{slice_get}
use Rattle.resource_sets.specs.declared.access.Resource.{Resource}
use Rattle.resource_sets.specs.ResourceSets.{resources_in}
use Rattle.group_checker.proofs.FirstFound.{first_violation_by, none_first}
use Rattle.group_checker.proofs.broken.first_by.Goals as goal

pub returns-then-len-eq0 : goal.returns-then-len-eq0
returns-then-len-eq0 c =
    let first = first_violation_by c.args.first c.args.second c.args.rule c.args.resources.now in
    let none = none_first (resources_in c.args.resources.now) (sym c.len.ensures.count ∙ c.if-len-eq0.true) in
    rw (first, none) refl

pub returns : goal.returns
returns c =
    let first = first_violation_by c.args.first c.args.second c.args.rule c.args.resources.now in
    let found =
    c.in_ok-resource.ensures.value ∙ ap (λ (l : List Resource). slice_get l 0) (c.as_slice.ensures.value ∙ c.resources-found.ensures) in
    rw (first, sym found) refl
