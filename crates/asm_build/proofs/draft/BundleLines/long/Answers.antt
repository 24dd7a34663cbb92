use Rattle.std.proofs.Common.{◌∙◌, sym, false}
use Rattle.asm_build.proofs.OpenBundles.{fits_long}
use Rattle.asm_build.proofs.draft.BundleLines.long.Goals as goal

pub of_fitting-requires : goal.of_fitting-requires
of_fitting-requires c =
    fits_long c.args.first.now c.args.long.now c.args.first.now.stop false c.args.long.now.stop c.in_ok-template.template c.requires
    (sym c.template_of.ensures ∙ c.in_ok-template.was)
