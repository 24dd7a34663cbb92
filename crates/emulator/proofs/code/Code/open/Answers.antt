use Rattle.emulator.proofs.CodeSlots.{all_code_slots}
use Rattle.emulator.proofs.code.Code.open.Goals as goal

pub invariant_of-result : goal.invariant_of-result
invariant_of-result c = record {
  program = c.is_program.ensures;
  count = c.in_ok-list.ensures.count;
  each = all_code_slots c.args.slots.now c.in_ok-list.list.items c.in_ok-list.ensures.count c.in_ok-list.ensures.each;
}
