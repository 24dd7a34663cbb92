use Rattle.std.proofs.Common.{arith}
use Rattle.group_engine.proofs.Seen.{seen_part}
use Rattle.group_engine.proofs.view.see_static.Goals as goal

pub returns : goal.returns
returns c =
    seen_part c.args.seen.now c.args.latest.now 1 15 c.copy_from_slice.new.self (omega arith) (omega arith) c.copy_from_slice.ensures.after
