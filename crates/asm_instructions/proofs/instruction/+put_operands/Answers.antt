use Rattle.std.proofs.Common.{arith}
use Rattle.asm_instructions.proofs.OtherOperands.{of_no_tokens}
use Rattle.asm_instructions.proofs.instruction.+put_operands.Goals as goal

pub returns-in-empty-tokens : goal.returns-in-empty-tokens
returns-in-empty-tokens n c = of_no_tokens c.args.items.now c.args.tokens.now c.args.values.now (omega arith)
