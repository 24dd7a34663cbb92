use Rattle.asm_reading.proofs.reading.is_listed_line.Goals as goal

pub returns-in-Slot : goal.returns-in-Slot
returns-in-Slot c = rw c.in-Slot.is c.is_listed.ensures
