use Rattle.std.proofs.Common.{◌≡◌, drop, find}
use Rattle.slot_layouts.specs.Layouts.{is_layout, rising_slots, least_slots}
use Rattle.slot_layouts.proofs.layout.least_slots.Given as goal

-- The least layout is the first one among the lists from this one on.
abbrev pub invariant-loop-slots : goal.invariant-loop-slots
invariant-loop-slots l =
    find (is_layout l.template l.wanted l.end) (drop l.slots-index rising_slots) ≡ least_slots l.template l.wanted l.end
