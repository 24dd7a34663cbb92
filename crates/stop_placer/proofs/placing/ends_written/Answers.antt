use Rattle.std.proofs.Common.{arith}
use Rattle.stop_placer.proofs.LastItems.{ends_at_last}
use Rattle.stop_placer.proofs.placing.ends_written.Goals as goal

pub returns-in-len1-up : goal.returns-in-len1-up
returns-in-len1-up c = ends_at_last c.args.items.now _ c.last-item.result (omega (arith, c.in-len1-up.len_at_least)) c.last-item.is
