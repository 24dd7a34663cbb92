use Rattle.std.proofs.Common.{◌∙◌, sym}
use Rattle.group_checker.proofs.Pairing.{no_slot_rule}
use Rattle.group_checker.proofs.pairs.may_break_slot_rule.Goals as goal

pub returns-else-first : goal.returns-else-first
returns-else-first c none v = no_slot_rule c.args.first.now c.args.slot.now v c.if-first.false (sym c.is_alloc.ensures ∙ none)
