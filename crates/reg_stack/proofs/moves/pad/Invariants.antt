use Rattle.std.proofs.Common.{◌≡◌, ℕ, ◌+◌, ◌-◌, ◌<◌, ◌≤◌}
use Rattle.ia_meaning.specs.State.{zero_cell}
use Rattle.reg_stack.specs.Layout.{resident_cell}
use Rattle.reg_stack.proofs.moves.pad.Given as goal

abbrev pub invariant-loop-high : goal.invariant-loop-high
invariant-loop-high l = record {
  above : l.fn.from ≤ l.high;
  kept : (d : ℕ) → l.to ≤ d + 96 → d < l.fn.from → resident_cell l.ring d ≡ resident_cell l.fn.ring d;
  zero : (d : ℕ) → l.fn.from ≤ d → d < l.high → resident_cell l.ring d ≡ zero_cell;
}

abbrev pub decreases-loop-high : goal.decreases-loop-high
decreases-loop-high l = l.to - l.high
