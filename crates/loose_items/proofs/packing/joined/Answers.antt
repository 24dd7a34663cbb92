use Rattle.std.proofs.Common.{false}
use Rattle.loose_items.proofs.PlainPackings.{three_join_none}
use Rattle.loose_items.proofs.packing.joined.Goals as goal

pub returns-in_default-3 : goal.returns-in_default-3
returns-in_default-3 c =
    three_join_none c.args.bundle c.in_default.field-0 c.in_default.field-1 c.in_default.field-2 c.args.before.now c.args.item.now false
    c.in_default.is
