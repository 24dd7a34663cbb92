use Rattle.std.proofs.Common.{◌-◌, take, length}
use Rattle.asm_build.specs.CanonicalText.{targets_from}
use Rattle.asm_build.specs.Marks.{AreMarks}
use Rattle.asm_build.proofs.labels.target_marks.Given as goal

abbrev pub invariant-loop-at : goal.invariant-loop-at
invariant-loop-at l = AreMarks (length l.bundles) (targets_from 0 (take l.at l.bundles)) l.marks.items

abbrev pub decreases-loop-at : goal.decreases-loop-at
decreases-loop-at l = length l.initial.bundles - l.at
