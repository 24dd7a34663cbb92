use Rattle.std.proofs.Common.{◌≡◌, sym, subst, refl}
use Rattle.resource_sets.specs.Rows.{listed}
use Rattle.resource_sets.specs.Ranges.{AreInRange}
use Rattle.resource_sets.specs.Accesses.{placed_rows}
use Rattle.resource_sets.proofs.RowLists.{within_listed, placed_within}
use Rattle.resource_sets.proofs.access_sets.placed_accesses.Goals as goal

pub returns : goal.returns
returns c =
    let qp = c.args.qp in
    let f = c.args.action.now in
    let e : c.push_all.new.out.items ≡ listed qp (placed_rows f) =
    rw (c.push_all.ensures.items, c.new-out.ensures, c.as_slice.ensures.value, c.placed_rows.ensures) refl in
    record { items = e; within = subst AreInRange (sym e) (within_listed qp (placed_rows f) (placed_within f)) }
