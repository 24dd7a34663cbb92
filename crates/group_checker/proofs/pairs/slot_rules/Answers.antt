use Rattle.group_checker.proofs.Gaining.{slots_found}
use Rattle.group_checker.proofs.pairs.slot_rules.Goals as goal

pub returns : goal.returns
returns c =
    slots_found c.args.first.now c.args.slot.now c.is_alloc.result c.is_alloc.ensures _ _ _ c.add_frame_if.ensures c.add_frame_if-2.ensures
