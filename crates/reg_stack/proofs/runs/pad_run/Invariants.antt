use Rattle.std.proofs.Common.{◌≡◌, ℕ, ◌+◌, ◌<◌, ◌≤◌, length}
use Rattle.ia_meaning.specs.State.{zero_cell}
use Rattle.reg_stack.specs.Layout.{resident_cell}
use Rattle.reg_stack.proofs.runs.pad_run.Given as goal

abbrev pub invariant-loop-c : goal.invariant-loop-c
invariant-loop-c l = record {
  size : length l.ring ≡ 96;
  kept : (d : ℕ) → l.to ≤ d + 96 → d < l.fn.from → resident_cell l.ring d ≡ resident_cell l.fn.ring d;
  zero : (d : ℕ) → l.fn.from ≤ d → d < l.c → resident_cell l.ring d ≡ zero_cell;
}
