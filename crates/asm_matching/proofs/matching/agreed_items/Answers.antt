use Rattle.std.proofs.Common.{arith}
use Rattle.asm_matching.proofs.PastTheEnd.{agreed_past}
use Rattle.asm_matching.proofs.matching.agreed_items.Goals as goal

pub returns-else-at-tokens-clause-value : goal.returns-else-at-tokens-clause-value
returns-else-at-tokens-clause-value c =
    omega (arith, agreed_past c.args.items.now c.args.tokens.now c.loop-at.at (omega arith), c.loop-at.invariant.value)
