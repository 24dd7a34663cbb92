use Rattle.std.proofs.Common.{arith}
use Rattle.asm_build.proofs.Listed.{one_more_listed, all_listed, bytes_left, next_spelled}
use Rattle.asm_build.proofs.listing.push_listed.Goals as goal

pub unreachable-requires : goal.unreachable-requires
unreachable-requires c =
    let left = bytes_left c.args.bundles.now c.loop-n.n c.loop-n.rest.now c.loop-n-test.true c.loop-n.invariant.spelled in
    omega (arith, left, c.in_default.ensures.cases)

pub push_bundle-requires-clause-spelled : goal.push_bundle-requires-clause-spelled
push_bundle-requires-clause-spelled c =
    let next =
    next_spelled c.args.bundles.now c.loop-n.n c.index-bundles-n.result c.loop-n.rest.now c.loop-n-test.true c.index-bundles-n.is
    c.loop-n.invariant.spelled in
    rw c.in-Some.ensures.cases.0 next.0

pub loop-n-preserved : goal.loop-n-preserved
loop-n-preserved c =
    let next =
    next_spelled c.args.bundles.now c.loop-n.n c.index-bundles-n.result c.loop-n.rest.now c.loop-n-test.true c.index-bundles-n.is
    c.loop-n.invariant.spelled in
    record {
      listed =
          one_more_listed c.args.bundles.now c.loop-n.n c.index-bundles-n.result c.args.out.now.items c.loop-n.out.items
          c.push_bundle.new.out.items c.loop-n-test.true c.index-bundles-n.is c.loop-n.invariant.listed c.in_ok-push_bundle.ensures;
      spelled = rw c.in-Some.ensures.cases.1 next.1;
    }

pub returns : goal.returns
returns c =
    all_listed c.args.bundles.now c.loop-n.n c.args.out.now.items c.loop-n.out.items c.loop-n-test.false c.loop-n.invariant.listed
