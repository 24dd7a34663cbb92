use Rattle.std.proofs.Common.{◌≡◌, ◌+◌, drop}
use Rattle.std.specs.Option.{option_map}
use Rattle.asm_reading.specs.Lines.{past_parenthesis, tokens, texts}
use Rattle.asm_reading.proofs.reading.past_parenthesis.Given as goal

abbrev pub invariant-loop-at : goal.invariant-loop-at
invariant-loop-at l =
    option_map (λ n. n + l.at) (past_parenthesis (tokens (texts l.line (drop l.at l.lexemes))))
    ≡ past_parenthesis (tokens (texts l.line l.lexemes))
