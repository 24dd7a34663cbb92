use Rattle.std.proofs.Common.{◌≡◌, sym, subst}
use Rattle.resource_sets.specs.Rows.{listed}
use Rattle.resource_sets.specs.Ranges.{AreNumbersInRange, AreInRange}
use Rattle.resource_sets.specs.Accesses.{rows_by_name, qp_rows, own_rows}
use Rattle.resource_sets.proofs.Listing.{by_name}
use Rattle.resource_sets.proofs.RowLists.{within_append, within_listed}
use Rattle.resource_sets.proofs.access_sets.named_accesses.Goals as goal

pub returns : goal.returns
returns c =
    let qp = c.args.qp in
    let f = c.args.action.now in
    let e : c.push_all-2.new.out.items ≡ listed qp (rows_by_name qp f) =
    rw (
      c.push_all-2.ensures.items,
      c.push_all.ensures.items,
      c.push.ensures.items,
      c.new-out.ensures,
      c.frame_row.ensures,
      c.qp_rows.ensures.rows,
      c.as_slice-2.ensures.value,
      c.own_rows-own.ensures.rows,
    ) (sym (by_name qp f)) in
    record {
      items = e;
      within = subst AreInRange (sym e) (within_listed qp (rows_by_name qp f) (
        tt,
        within_append (qp_rows qp f) (own_rows f)
            (subst AreNumbersInRange c.qp_rows.ensures.rows c.qp_rows.ensures.within)
            (subst AreNumbersInRange c.own_rows-own.ensures.rows c.own_rows-own.ensures.within),
      ));
    }
