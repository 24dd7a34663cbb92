use Rattle.std.proofs.Common.{◌≡◌, ℕ, length}
use Rattle.reg_stack.specs.Layout.{held_cell, IsFreeFrom}
use Rattle.reg_stack.proofs.Places.{with_nats}
use Rattle.reg_stack.proofs.runs.spill_run.Given as goal

abbrev pub invariant-loop-c : goal.invariant-loop-c
invariant-loop-c l = record {
  count : length l.region ≡ length l.fn.region;
  cells : (d : ℕ) → held_cell l.ring (with_nats l.region l.fn.from l.nats) l.c d ≡ held_cell l.ring l.fn.region l.fn.from d;
  free : IsFreeFrom (with_nats l.region l.fn.from l.nats) l.c;
}
