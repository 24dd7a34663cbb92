use Rattle.std.proofs.Common.{sym, refl}
use Rattle.group_engine.specs.Groups.{gathered_of}
use Rattle.group_engine.proofs.Starts.{executed_always}
use Rattle.group_engine.proofs.gathering.Gathering.is_executed.Goals as goal

pub returns-then-is_zero : goal.returns-then-is_zero
returns-then-is_zero c = sym (executed_always (gathered_of c.args.self.now) c.args.slot.now (c.if-is_zero.ensures.exact.0 refl))
