use Rattle.std.proofs.Common.{◌≡◌, ◌+◌, ◌-◌, ◌≤◌, drop, length}
use Rattle.asm_matching.specs.Matching.{agreed_items}
use Rattle.asm_matching.proofs.matching.agreed_items.Given as goal

abbrev pub invariant-loop-at : goal.invariant-loop-at
invariant-loop-at l = record {
  within : l.at ≤ length l.tokens;
  value : agreed_items (drop l.at l.items) (drop l.at l.tokens) + l.at ≡ agreed_items l.items l.tokens;
}

abbrev pub decreases-loop-at : goal.decreases-loop-at
decreases-loop-at l = length l.initial.items - l.at
