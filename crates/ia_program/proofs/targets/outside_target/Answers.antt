use Rattle.std.proofs.Common.{rules}
use Rattle.ia_program.proofs.Reaching.{IsSound, first_reached, goes_on, fewer_left}
use Rattle.ia_program.proofs.targets.outside_target.Goals as goal

pub loop-reached-init : goal.loop-reached-init
loop-reached-init c = first_reached c.args.bundles.now (IsSound c.args.bundles.now) c.requires.some

pub loop-reached-smaller : goal.loop-reached-smaller
loop-reached-smaller c =
    let r = rw c.in-Some.is at c.loop-reached.invariant in
    rw c.in-Some.is (fewer_left c.args.bundles.now c.in-Some.place c.next-reached.result r.is c.next-reached.ensures)

pub loop-reached-preserved : goal.loop-reached-preserved
loop-reached-preserved c =
    let r = rw c.in-Some.is at c.loop-reached.invariant in
    let good : IsSound c.args.bundles.now c.in-Some.place = search rules in
    goes_on c.args.bundles.now (IsSound c.args.bundles.now) c.in-Some.place c.next-reached.result r good c.next-reached.ensures
