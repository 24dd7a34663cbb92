use Rattle.std.proofs.Common.{◌≡◌, ◌-◌, ◌*◌, ◌<◌, ◌≤◌}
use Rattle.std.specs.Prelude.{None}
use Rattle.ia_program.specs.declared.limits.TheConstants.{RUN_LIMIT}
use Rattle.ia_meaning.specs.Progress.{groups_further}
use Rattle.ia_meaning.specs.Runs.{IsUnderWay, event_further}
use Rattle.emulator.specs.Progress.{progress_of}
use Rattle.emulator.proofs.Groups.{CanCount}
use Rattle.emulator.proofs.run.Run.run_groups.Given as goal

abbrev pub invariant-loop-how : goal.invariant-loop-how
invariant-loop-how l = record {
  some : 0 < l.left;
  most : l.left ≤ l.groups;
  rest : groups_further l.left l.code (progress_of l.self) ≡ groups_further l.groups l.code (progress_of l.fn.self);
  event : l.groups ≡ 1 → event_further l.code (progress_of l.self) ≡ event_further l.code (progress_of l.fn.self);
  running : l.self.end ≡ None;
  under_way : IsUnderWay l.code (progress_of l.self);
  room : CanCount (progress_of l.self) l.left;
}

abbrev pub decreases-loop-how : goal.decreases-loop-how
decreases-loop-how l = RUN_LIMIT * l.left - l.self.slots
