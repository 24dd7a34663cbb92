-- The action of an operation whose operands have their ranges has its own.
use Rattle.std.proofs.Common.{arith}
use Rattle.ia_insn.specs.declared.insn.Op.{Op}
use Rattle.ia_insn.specs.Ranges.{HasRanges}
use Rattle.ia_meaning.specs.Actions.{action_of}
use Rattle.ia_meaning.specs.ActionRanges.{HasActionRanges}

pub action_ranges : (o : Op) → HasRanges o → HasActionRanges (action_of o)
action_ranges o h = grind arith
