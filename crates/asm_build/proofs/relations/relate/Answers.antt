use Rattle.std.proofs.Common.{◌∙◌, refl}
use Rattle.asm_build.proofs.RelationSets.{next_related}
use Rattle.asm_build.proofs.relations.relate.Goals as goal

pub loop-p-preserved : goal.loop-p-preserved
loop-p-preserved c = let h = c.in_ok-relate_above.ensures in
    next_related c.args.bundle c.args.predicates.now c.args.predicates.now c.loop-p.p-index _ c.loop-p.relations.keys
    c.relate_above.new.relations.keys c.loop-p-test.true refl h ∙ c.loop-p.invariant
