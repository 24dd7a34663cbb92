use Rattle.std.proofs.Common.{◌≤◌, length}
use Rattle.ia_program.specs.declared.limits.TheConstants.{RUN_LIMIT}
use Rattle.ia_program.specs.Runs.{IsWithinRun}
use Rattle.ia_program.proofs.Reaching.{HasReached, HasRun, slots_left}
use Rattle.ia_program.proofs.runs.long_run.Given as goal

abbrev pub invariant-loop-reached : goal.invariant-loop-reached
invariant-loop-reached l = HasReached l.bundles (IsWithinRun l.bundles) l.reached × HasRun l.bundles l.reached l.run × (l.run ≤ RUN_LIMIT)

abbrev pub decreases-loop-reached : goal.decreases-loop-reached
decreases-loop-reached l = slots_left (length l.bundles) l.reached
