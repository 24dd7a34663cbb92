use Rattle.std.proofs.Common.{arith, refl, length, ◌≡◌}
use Rattle.std.specs.Prelude.{vec_items}
use Rattle.std.specs.List.{range_with_len}
use Rattle.std.proofs.lemmas.Iterator.{YieldsList-from_range, items_from_collect}
use Rattle.watch_seam.proofs.Showing.{of_ok}
use Rattle.watch_seam.proofs.reports.Reports.begin.Goals as goal

pub returns-clause-numbers : goal.returns-clause-numbers
returns-clause-numbers g c =
    let n = length c.args.watchers.now in
    of_ok c.collect.result c.in_ok-collect.field-0 (λ w. vec_items w ≡ range_with_len 0 n) c.in_ok-collect.was
    (items_from_collect c.collect.result c.collect.ensures.ran (YieldsList-from_range 0 n n refl (omega arith)))
