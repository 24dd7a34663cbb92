use Rattle.std.proofs.Common.{◌≡◌, ℕ, ◌-◌, ◌<◌, ◌≤◌, length}
use Rattle.reg_stack.specs.Layout.{held_cell, IsFreeFrom}
use Rattle.reg_stack.proofs.Places.{with_nats}
use Rattle.reg_stack.proofs.runs.fill_run.Given as goal

abbrev pub invariant-loop-low : goal.invariant-loop-low
invariant-loop-low l = record {
  order : l.to ≤ l.low;
  within : l.low ≤ l.fn.from;
  size : length l.ring ≡ 96;
  count : length l.region ≡ length l.fn.region;
  cells : (d : ℕ) → d < l.end → held_cell l.ring (with_nats l.region l.to l.nats) l.low d ≡ held_cell l.fn.ring l.fn.region l.fn.from d;
  free : IsFreeFrom (with_nats l.region l.to l.nats) l.low;
}

abbrev pub decreases-loop-low : goal.decreases-loop-low
decreases-loop-low l = l.low - l.to
