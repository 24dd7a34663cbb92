use Rattle.std.proofs.Common.{◌≡◌, ℕ, ◌-◌, ◌≤◌, length}
use Rattle.reg_stack.specs.Layout.{held_cell, IsFreeFrom}
use Rattle.reg_stack.proofs.moves.spill.Given as goal

abbrev pub invariant-loop-low : goal.invariant-loop-low
invariant-loop-low l = record {
  order : l.low ≤ l.to;
  count : length l.region ≡ length l.fn.region;
  cells : (d : ℕ) → held_cell l.ring l.region l.low d ≡ held_cell l.ring l.fn.region l.fn.from d;
  free : IsFreeFrom l.region l.low;
}

abbrev pub decreases-loop-low : goal.decreases-loop-low
decreases-loop-low l = l.to - l.low
