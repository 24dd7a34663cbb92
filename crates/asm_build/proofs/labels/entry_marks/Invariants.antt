use Rattle.std.proofs.Common.{◌-◌, take, length}
use Rattle.asm_build.specs.Marks.{AreMarks}
use Rattle.asm_build.proofs.labels.entry_marks.Given as goal

abbrev pub invariant-loop-at : goal.invariant-loop-at
invariant-loop-at l = AreMarks l.fn.count (take l.at l.entries) l.marks.items

abbrev pub decreases-loop-at : goal.decreases-loop-at
decreases-loop-at l = length l.initial.entries - l.at
