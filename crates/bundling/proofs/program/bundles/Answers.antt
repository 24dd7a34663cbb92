use Rattle.std.proofs.Common.{arith, rules, ◌≡◌, length}
use Rattle.bundling.proofs.Making.{next_layout_fits}
use Rattle.bundling.proofs.program.bundles.Goals as goal

pub filled-requires : goal.filled-requires
filled-requires c =
    let many : c.len.result ≡ length c.index-chunks-n.result.wanted = search rules in
    next_layout_fits c.args.chunks.now c.args.layouts.now c.args.insns.now c.loop-n.rest.now c.split_at.result.0.now c.loop-n.bundles.items
    c.loop-n.n c.len.result c.index-chunks-n.result c.index-layouts-n.result
    c.requires.fit c.loop-n.invariant.0 c.requires.layouts (omega (arith, c.loop-n-test.true)) c.index-chunks-n.is c.index-layouts-n.is many
    c.split_at.ensures.front
