use Rattle.std.proofs.Common.{get_or, false}
use Rattle.slot_effects.proofs.PredicateWords.{one_more, value_most}
use Rattle.slot_effects.proofs.predicates.predicate_word.Goals as goal

pub loop-n-preserved : goal.loop-n-preserved
loop-n-preserved c =
    let told = one_more c.loop-n.n c.args.predicates.now in
    let most = value_most c.loop-n.word c.loop-n.n (get_or c.args.predicates.now c.loop-n.n false) c.loop-n.invariant.within in
    record { told = cc; within = rw c.place_value-word.ensures most }
