use Rattle.slot_table.proofs.SlotLaws.{filled}
use Rattle.slot_table.proofs.table.SlotTable.open.Goals as goal

pub invariant_of-result : goal.invariant_of-result
invariant_of-result c = record {
  program = c.is_program.ensures;
  entries = filled c.args.program.now.bundles c.in_ok-slots.slots.items c.in_ok-slots.ensures.count c.in_ok-slots.ensures.each;
}
