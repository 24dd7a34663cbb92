use Rattle.std.proofs.Common.{◌≡◌, ◌-◌, ◌≤◌, ◌++◌, drop, length}
use Rattle.asm_lexemes.specs.Bytes.{has_only_plain}
use Rattle.asm_lexemes.specs.Lexemes.{lexemes_from}
use Rattle.asm_lexemes.proofs.line.cut.Given as goal

abbrev pub invariant-loop-at : goal.invariant-loop-at
invariant-loop-at l =
    record {
      within : l.at ≤ length l.line;
      room : length l.lexemes ≤ l.at;
      value : l.lexemes ++ lexemes_from 0 l.at (drop l.at l.line) ≡ lexemes_from 0 0 l.line;
      plain : has_only_plain (drop l.at l.line) ≡ has_only_plain l.line;
    }

abbrev pub decreases-loop-at : goal.decreases-loop-at
decreases-loop-at l = length l.initial.line - l.at
