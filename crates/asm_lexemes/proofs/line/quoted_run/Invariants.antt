use Rattle.std.proofs.Common.{◌≡◌, ◌+◌, ◌-◌, ◌≤◌, drop, length}
use Rattle.asm_lexemes.specs.Lexemes.{quoted_run}
use Rattle.asm_lexemes.proofs.line.quoted_run.Given as goal

abbrev pub invariant-loop-at : goal.invariant-loop-at
invariant-loop-at l = record { within : l.at ≤ length l.bytes; value : quoted_run (drop l.at l.bytes) + l.at ≡ quoted_run l.bytes }

abbrev pub decreases-loop-at : goal.decreases-loop-at
decreases-loop-at l = length l.initial.bytes - l.at
