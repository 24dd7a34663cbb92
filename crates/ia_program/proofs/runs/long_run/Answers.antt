use Rattle.std.proofs.Common.{rules, ◌<◌, arith}
use Rattle.ia_program.specs.declared.limits.TheConstants.{RUN_LIMIT}
use Rattle.ia_program.specs.Runs.{EndsRun, IsWithinRun}
use Rattle.ia_program.proofs.Reaching.{first_reached, goes_on, fewer_left, within_run, first_run, run_ends, run_goes_on}
use Rattle.ia_program.proofs.runs.long_run.Goals as goal
use Rattle.ia_program.proofs.runs.long_run.Goals.{then-ends_run, else-ends_run}

pub loop-reached-init : goal.loop-reached-init
loop-reached-init c =
    (first_reached c.args.bundles.now (IsWithinRun c.args.bundles.now) c.requires.some, first_run c.args.bundles.now, omega arith)

pub loop-reached-smaller : goal.loop-reached-smaller
loop-reached-smaller c =
    let i = rw c.in-Some.is at c.loop-reached.invariant in
    rw c.in-Some.is (fewer_left c.args.bundles.now c.in-Some.place c.next-reached.result i.0.is c.next-reached.ensures)

pub loop-reached-preserved : goal.loop-reached-preserved
loop-reached-preserved c =
    let i = rw c.in-Some.is at c.loop-reached.invariant in
    let small : c.loop-reached.run < RUN_LIMIT = omega (arith, i.2, c.if-run-eq-RUN_LIMIT.false) in
    let good = within_run c.args.bundles.now c.in-Some.place c.loop-reached.run i.1 small in
    let reached =
    goes_on c.args.bundles.now (IsWithinRun c.args.bundles.now) c.in-Some.place c.next-reached.result i.0 good c.next-reached.ensures in
    elim c.if-ends_run.branch [
      | then-ends_run w ↦
          let ends : EndsRun c.args.bundles.now c.in-Some.place = search rules in
          rw w.run-is (
            reached,
            run_ends c.args.bundles.now c.in-Some.place c.next-reached.result i.0.is ends c.next-reached.ensures,
            omega arith,
          )
      | else-ends_run w ↦
          let on : ¬ EndsRun c.args.bundles.now c.in-Some.place = search rules in
          rw w.run-is (
            reached,
            run_goes_on c.args.bundles.now c.in-Some.place c.next-reached.result c.loop-reached.run i.0.is on i.1
                c.next-reached.ensures,
            omega (arith, small),
          )
    ]
