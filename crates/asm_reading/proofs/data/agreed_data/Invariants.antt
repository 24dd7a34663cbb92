use Rattle.std.proofs.Common.{◌≡◌, ◌+◌, ◌-◌, ◌≤◌, drop, length}
use Rattle.asm_lexemes.specs.declared.limits.TheConstants.{NUMBER_TOKEN_LIMIT}
use Rattle.asm_reading.specs.Lines.{agreed_data}
use Rattle.asm_reading.proofs.data.agreed_data.Given as goal

abbrev pub invariant-loop-at : goal.invariant-loop-at
invariant-loop-at l = record {
  bound : l.at ≤ NUMBER_TOKEN_LIMIT;
  value : agreed_data l.field l.at (drop l.at l.tokens) + l.at ≡ agreed_data l.field 0 l.tokens;
}

abbrev pub decreases-loop-at : goal.decreases-loop-at
decreases-loop-at l = length l.initial.tokens - l.at
