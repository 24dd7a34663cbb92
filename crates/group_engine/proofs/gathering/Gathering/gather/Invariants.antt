use Rattle.std.proofs.Common.{◌≡◌, ◌≤◌, ◌*◌, ◌-◌, true, false, ◌==◌, [], None, length}
use Rattle.ia_program.specs.declared.limits.TheConstants.{RUN_LIMIT}
use Rattle.ia_program.specs.Places.{IsPlaceOf}
use Rattle.ia_meaning.specs.ParallelGroups.{gathered_from, now_of}
use Rattle.group_engine.specs.declared.limits.TheConstants.{SLOT_WRITE_LIMIT}
use Rattle.group_engine.specs.Kept.{branch_inputs_of}
use Rattle.group_engine.specs.Groups.{gathered_of, state_of, rest_of, HasRestOf}
use Rattle.group_engine.proofs.gathering.Gathering.gather.Given as goal

abbrev pub invariant-loop-n : goal.invariant-loop-n
invariant-loop-n l = record {
  rest : HasRestOf (rest_of RUN_LIMIT l.table true (gathered_from (state_of l.fn.self)))
      (rest_of (RUN_LIMIT - l.n) l.table (l.n == 0) (gathered_of l.self));
  place : IsPlaceOf l.table.bundles l.self.place;
  running : l.self.end ≡ None;
  latest : l.self.kept.latest ≡ branch_inputs_of (now_of (gathered_of l.self));
  begins : l.n ≡ 0 → (l.self.kept.writes ≡ []) × (l.self.frame_ahead ≡ false);
  few : length l.self.kept.writes ≤ SLOT_WRITE_LIMIT * l.n;
}
