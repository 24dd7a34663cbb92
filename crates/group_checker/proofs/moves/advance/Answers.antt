use Rattle.group_checker.proofs.moves.advance.Goals as goal

pub mark_all-requires : goal.mark_all-requires
mark_all-requires c = c.keeps_pairs.ensures c.if-keeps_pairs.true c.args.slot.now.qp
