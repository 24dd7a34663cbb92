use Rattle.std.proofs.Common.{◌≡◌, List, [], ◌++◌, Option, ◌∙◌, ap, sym, subst}
use Rattle.std.specs.List.{list_any}
use Rattle.std.proofs.lemmas.List.{append-nil}
use Rattle.resource_sets.specs.declared.access.Access.{Access}
use Rattle.resource_sets.specs.declared.access.Kind.{Kind}
use Rattle.resource_sets.specs.Rows.{listed}
use Rattle.resource_sets.specs.Ranges.{AreInRange}
use Rattle.resource_sets.specs.Accesses.{placed_rows}
use Rattle.resource_sets.specs.Clashes.{is_resource}
use Rattle.resource_sets.specs.InsnAccesses.{IsSummary}
use Rattle.resource_sets.proofs.AccessSets.{set_of, in_alike, ArePlaced, placed_alike}
use Rattle.resource_sets.proofs.masking.add_placed.Goals as goal

pub add_all-requires : goal.add_all-requires
add_all-requires c = subst AreInRange (sym c.as_slice.ensures.value) c.placed_accesses-accesses.ensures.within

pub resources_of-requires : goal.resources_of-requires
resources_of-requires c = subst AreInRange (sym c.as_slice-2.ensures.value) c.placed_accesses-accesses.ensures.within

pub returns-in_default : goal.returns-in_default
returns-in_default c =
    let f = c.args.action.now in
    let none : placed_rows f ≡ [] =
    subst (λ (o : Option Kind). ArePlaced o (placed_rows f)) (sym c.placed_kind.ensures ∙ c.in_default.is) (placed_alike f) in
    rw none (record { sums = λ earlier h. rw (append-nil earlier) h; set = c.empty.ensures })

pub returns : goal.returns
returns c =
    let qp = c.args.qp in
    let f = c.args.action.now in
    let alike = subst (λ (o : Option Kind). ArePlaced o (placed_rows f)) (sym c.placed_kind.ensures ∙ c.in-Some.is) (placed_alike f) in
    record {
      sums =
          λ earlier h. subst (λ (l : List Access). IsSummary (earlier ++ l) c.add_all.new.self)
          (c.as_slice.ensures.value ∙ c.placed_accesses-accesses.ensures.items) (c.add_all.ensures earlier h);
      set = set_of (listed qp (placed_rows f)) _ (in_alike qp c.in-Some.kind (placed_rows f) alike)
          (λ q. c.resources_of.ensures q ∙ ap (λ (l : List Access). list_any (λ a. is_resource a.resource q) l)
          (c.as_slice-2.ensures.value ∙ c.placed_accesses-accesses.ensures.items));
    }
