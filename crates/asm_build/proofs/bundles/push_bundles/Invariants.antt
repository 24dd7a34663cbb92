use Rattle.std.proofs.Common.{◌≡◌, ◌-◌, ◌++◌, drop, length}
use Rattle.asm_build.specs.Marks.{marked_texts}
use Rattle.asm_build.proofs.bundles.push_bundles.Given as goal

abbrev pub invariant-loop-at : goal.invariant-loop-at
invariant-loop-at l =
    l.out.items ++ marked_texts l.entries l.targets l.program.relations l.at (drop l.at l.bundles)
    ≡ l.initial.out.items ++ marked_texts l.entries l.targets l.program.relations 0 l.bundles

abbrev pub decreases-loop-at : goal.decreases-loop-at
decreases-loop-at l = length l.initial.bundles - l.at
