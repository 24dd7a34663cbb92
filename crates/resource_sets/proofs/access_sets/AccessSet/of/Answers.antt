use Rattle.std.proofs.Common.{[], ◌∷◌, ◌∙◌, ◌||◌, Bool, ap, sym, inl, inr}
use Rattle.resource_sets.specs.declared.access.Access.{Access}
use Rattle.resource_sets.specs.Clashes.{is_resource}
use Rattle.resource_sets.proofs.BitWords.{or_false}
use Rattle.resource_sets.proofs.Members.{not_in_none, cases_in}
use Rattle.resource_sets.proofs.AccessSets.{set_of}
use Rattle.resource_sets.proofs.access_sets.AccessSet.of.Goals as goal

pub returns : goal.returns
returns c =
    let x = c.args.access.now in
    set_of (x ∷ []) _
    (λ a d. elim (cases_in x a [] d) [
      | inl e ↦ (ap (λ (y : Access). y.kind) e, ap (λ (y : Access). y.guard) e)
      | inr n ↦ absurd
          (not_in_none a n)
    ])
    (λ q. c.insert.ensures q ∙ ap (λ (b : Bool). b || is_resource x.resource q) (c.empty-resources.ensures q)
    ∙ sym (or_false (is_resource x.resource q)))
