use Rattle.std.proofs.Common.{◌≡◌, drop}
use Rattle.asm_instructions.specs.Instructions.{completed_by}
use Rattle.asm_instructions.proofs.instruction.completed_by.Given as goal

abbrev pub invariant-loop-completer : goal.invariant-loop-completer
invariant-loop-completer l = completed_by (drop l.completer-index l.completers) l.opcode ≡ completed_by l.fn.completers l.fn.opcode
