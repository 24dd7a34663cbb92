use Rattle.std.proofs.Common.{arith}
use Rattle.std.proofs.lemmas.Grind.{common_steps}
use Rattle.ia_program.specs.Bundles.{AreBundles}
use Rattle.asm_build.proofs.Naming.{one_more_fits}
use Rattle.asm_build.proofs.names.bundles_named.Goals as goal

pub loop-n-preserved : goal.loop-n-preserved
loop-n-preserved c =
    let fit : AreBundles c.push.new.self.items =
    rw c.in_ok-push.ensures.items (one_more_fits c.loop-n.bundles.items c.in_ok-bundle_named.field-0 c.loop-n.invariant.2
    c.in_ok-bundle_named.ensures.fit) in
    (grind (arith, common_steps), grind (arith, common_steps), fit)
