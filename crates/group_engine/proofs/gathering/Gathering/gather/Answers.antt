use Rattle.std.proofs.Common.{◌≡◌, ◌-◌, suc, ◌==◌, true, subst, arith}
use Rattle.ia_program.specs.declared.limits.TheConstants.{RUN_LIMIT}
use Rattle.ia_meaning.specs.ParallelGroups.{gathered_from}
use Rattle.group_engine.specs.Groups.{gathered_of, state_of, rest_of, HasGathered, HasRestOf}
use Rattle.group_engine.proofs.Groups.{over_from, comes_to_end}
use Rattle.group_engine.proofs.gathering.Gathering.gather.Goals as goal

pub returns-then-gather_slot-clause-value : goal.returns-then-gather_slot-clause-value
returns-then-gather_slot-clause-value c =
    let n = c.loop-n.n in
    let left : suc (RUN_LIMIT - n - 1) ≡ RUN_LIMIT - n = omega (arith, c.loop-n-test.true) in
    let here = c.gather_slot.ensures.ends c.if-gather_slot.true (RUN_LIMIT - n - 1) in
    over_from _ _ _ _ c.loop-n.invariant.rest
    (subst (λ most. HasGathered (rest_of most c.args.table.now (n == 0) (gathered_of c.loop-n.self))
    (gathered_of c.gather_slot.new.self) c.gather_slot.new.self.end) left here)

pub unreachable-requires : goal.unreachable-requires
unreachable-requires c =
    let none : RUN_LIMIT - c.loop-n.n ≡ 0 = omega (arith, c.loop-n-test.false) in
    comes_to_end c.args.table.now (state_of c.args.self.now) (gathered_of c.loop-n.self)
    (c.loop-n.n == 0) c.groups_end.ensures.all_at_once c.requires.program c.requires.place
    (subst (λ most. HasRestOf (rest_of RUN_LIMIT c.args.table.now true (gathered_from (state_of c.args.self.now)))
    (rest_of most c.args.table.now (c.loop-n.n == 0) (gathered_of c.loop-n.self))) none c.loop-n.invariant.rest)
