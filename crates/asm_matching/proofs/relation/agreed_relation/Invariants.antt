use Rattle.std.proofs.Common.{◌≡◌, ◌+◌, ◌-◌, ◌≤◌, take, drop, length, []}
use Rattle.asm_matching.specs.Relations.{agreed_relation}
use Rattle.asm_matching.proofs.relation.agreed_relation.Given as goal

abbrev pub invariant-loop-at : goal.invariant-loop-at
invariant-loop-at l = record {
  within : l.at ≤ length l.tokens;
  value : agreed_relation (take l.at l.tokens) (drop l.at l.tokens) + l.at ≡ agreed_relation [] l.tokens;
}

abbrev pub decreases-loop-at : goal.decreases-loop-at
decreases-loop-at l = length l.initial.tokens - l.at
