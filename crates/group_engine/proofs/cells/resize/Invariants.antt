use Rattle.std.proofs.Common.{◌≡◌, ◌≤◌, ◌-◌, vec_len, vec_capacity}
use Rattle.ia_meaning.specs.Writes.{resized}
use Rattle.group_engine.proofs.cells.resize.Given as goal

abbrev pub invariant-loop-cells : goal.invariant-loop-cells
invariant-loop-cells l = record {
  items : resized l.count l.cells.items ≡ resized l.count l.fn.cells.items;
  capacity : vec_capacity l.cells ≡ vec_capacity l.fn.cells;
  most : vec_len l.cells ≤ l.count;
}

abbrev pub decreases-loop-cells : goal.decreases-loop-cells
decreases-loop-cells l = l.count - vec_len l.cells
