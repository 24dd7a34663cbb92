use Rattle.std.proofs.Common.{◌≡◌, List, ◌++◌, ◌∙◌, ap, sym, subst}
use Rattle.resource_sets.specs.declared.access.Access.{Access}
use Rattle.resource_sets.specs.Rows.{listed}
use Rattle.resource_sets.specs.Accesses.{placed_rows, accesses_of}
use Rattle.resource_sets.specs.InsnAccesses.{IsSummary}
use Rattle.resource_sets.proofs.Listing.{in_two}
use Rattle.resource_sets.proofs.masking.accesses_for.Goals as goal

pub add_all-requires : goal.add_all-requires
add_all-requires c = rw c.as_slice.ensures.value c.named_accesses-named.ensures.within

pub invariant_of-result : goal.invariant_of-result
invariant_of-result c =
    let placed = listed c.args.qp (placed_rows c.args.action.now) in
    let all : accesses_of c.args.qp c.args.action.now ≡ c.named_accesses-named.result.items ++ placed =
    in_two c.args.qp c.args.action.now ∙ ap (λ (l : List Access). l ++ placed) (sym c.named_accesses-named.ensures.items) in
    record {
      parts = record { placed = placed; all = all; set = c.add_placed-placed.ensures.set; within = c.named_accesses-named.ensures.within };
      sums =
          subst (λ (l : List Access). IsSummary l c.add_placed-placed.new.summary)
          (ap (λ (l : List Access). l ++ placed) c.as_slice.ensures.value ∙ sym all)
          (c.add_placed-placed.ensures.sums _ (c.add_all.ensures _ c.none-summary.ensures));
    }
