use Rattle.slot_table.proofs.SlotLaws.{no_slot_above}
use Rattle.slot_table.proofs.table.SlotTable.at.Goals as goal

pub returns-then-place-gt2 : goal.returns-then-place-gt2
returns-then-place-gt2 c = no_slot_above c.args.self.now.bundles c.args.place c.if-place-gt2.true
