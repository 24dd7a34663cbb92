use Rattle.std.proofs.Common.{drop, arith}
use Rattle.asm_reading.proofs.DataLines.{agreed_past}
use Rattle.asm_reading.proofs.data.agreed_data.Goals as goal

pub returns-else-at-lt-NUMBER_TOKEN_LIMIT-clause-value : goal.returns-else-at-lt-NUMBER_TOKEN_LIMIT-clause-value
returns-else-at-lt-NUMBER_TOKEN_LIMIT-clause-value c =
    omega (arith, agreed_past c.args.field c.loop-at.at (drop c.loop-at.at c.args.tokens.now) (omega arith), c.loop-at.invariant.value)
