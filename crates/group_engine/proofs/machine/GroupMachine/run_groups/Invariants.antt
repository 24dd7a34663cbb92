use Rattle.std.proofs.Common.{◌≡◌, ◌<◌, ◌+◌, ◌^◌}
use Rattle.group_engine.specs.Engine.{groups_further}
use Rattle.group_engine.proofs.machine.GroupMachine.run_groups.Given as goal

abbrev pub invariant-loop-left : goal.invariant-loop-left
invariant-loop-left l = record {
  rest : groups_further l.left l.number l.self ≡ groups_further l.groups l.number l.fn.self;
  room : l.self.groups + l.left < 2 ^ 64;
}

abbrev pub decreases-loop-left : goal.decreases-loop-left
decreases-loop-left l = l.left
