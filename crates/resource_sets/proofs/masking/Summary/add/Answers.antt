use Rattle.std.proofs.Common.{◌∙◌, ◌||◌, ◌&&◌, Bool, ap, refl}
use Rattle.resource_sets.specs.Clashes.{is_resource}
use Rattle.resource_sets.specs.ResourceSets.{has_resource}
use Rattle.resource_sets.proofs.Summing.{summary_more}
use Rattle.resource_sets.proofs.masking.Summary.add.Goals as goal

pub returns : goal.returns
returns c earlier h =
    let a = c.args.access.now in
    let old = c.args.self.now in
    summary_more earlier a old _ c.written_by.result
    (λ q. c.insert_if.ensures q ∙ ap (λ (b : Bool). has_resource old.barred q || (b && is_resource a.resource q)) c.is_first.ensures)
    (λ q. c.insert_if-2.ensures q ∙ ap (λ (b : Bool). has_resource old.made q || (b && is_resource a.resource q)) c.is_second.ensures)
    refl c.written_by.ensures h
