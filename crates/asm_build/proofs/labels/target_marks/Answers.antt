use Rattle.std.proofs.Common.{length}
use Rattle.asm_build.proofs.Marking.{next_bundle}
use Rattle.asm_build.proofs.labels.target_marks.Goals as goal

pub loop-at-preserved : goal.loop-at-preserved
loop-at-preserved c =
    next_bundle (length c.args.bundles.now) c.args.bundles.now c.loop-at.at c.index-bundles-at.result c.slots.result.now
    c.loop-at.marks.items c.mark_targets.new.marks.items c.loop-at-test.true c.index-bundles-at.is c.slots.ensures.value
    c.loop-at.invariant c.mark_targets.ensures
