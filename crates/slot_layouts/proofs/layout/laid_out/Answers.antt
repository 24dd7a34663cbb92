use Rattle.std.proofs.Common.{arith, rules, ◌≡◌}
use Rattle.slot_layouts.proofs.FirstLayouts.{found_out}
use Rattle.slot_layouts.proofs.layout.laid_out.Goals as goal

pub returns-in-Some-least_slots : goal.returns-in-Some-least_slots
returns-in-Some-least_slots c =
    let is : c.in-Some.template ≡ c.loop-code.code = search rules in
    found_out c.in-Some.template c.loop-code.code c.args.wanted.now c.args.end c.in-Some-least_slots.slots.items
    is (omega arith) c.loop-code.invariant c.in-Some-least_slots.ensures
