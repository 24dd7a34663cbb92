use Rattle.std.proofs.Common.{length}
use Rattle.ia_program.proofs.Reaching.{HasReached, IsSound, slots_left}
use Rattle.ia_program.proofs.targets.outside_target.Given as goal

abbrev pub invariant-loop-reached : goal.invariant-loop-reached
invariant-loop-reached l = HasReached l.bundles (IsSound l.bundles) l.reached

abbrev pub decreases-loop-reached : goal.decreases-loop-reached
decreases-loop-reached l = slots_left (length l.bundles) l.reached
