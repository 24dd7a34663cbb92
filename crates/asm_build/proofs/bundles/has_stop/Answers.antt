use Rattle.asm_build.proofs.Marking.{same_test}
use Rattle.ia_program.specs.Templates.{stops_of}
use Rattle.asm_build.proofs.bundles.has_stop.Goals as goal

pub returns : goal.returns
returns c = same_test c.stop_after.result (stops_of c.args.template) c.args.slot c.stop_after.ensures
