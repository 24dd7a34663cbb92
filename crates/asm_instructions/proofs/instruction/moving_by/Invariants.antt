use Rattle.std.proofs.Common.{◌≡◌, drop}
use Rattle.asm_instructions.specs.Instructions.{moving_by}
use Rattle.asm_instructions.proofs.instruction.moving_by.Given as goal

abbrev pub invariant-loop-token : goal.invariant-loop-token
invariant-loop-token l = moving_by (drop l.token-index l.tokens) l.opcode ≡ moving_by l.fn.tokens l.fn.opcode
