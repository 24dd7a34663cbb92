use Rattle.asm_build.proofs.Marking.{three_marked, long_marked}
use Rattle.asm_build.proofs.labels.mark_targets.Goals as goal

pub returns-in-Three : goal.returns-in-Three
returns-in-Three c =
    three_marked c.args.n c.args.slots.now c.in-Three.a c.in-Three.b c.in-Three.c _ _ _ _ c.in-Three.is c.mark_target.ensures
    c.mark_target-in-Three.ensures c.mark_target-in-Three-2.ensures

pub returns-in-Long : goal.returns-in-Long
returns-in-Long c =
    long_marked c.args.n c.args.slots.now c.in-Long.first c.in-Long.long _ _ _ c.in-Long.is c.mark_target-in-Long.ensures
    c.mark_target-in-Long-2.ensures
