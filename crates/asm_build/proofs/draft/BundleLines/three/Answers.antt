use Rattle.std.proofs.Common.{◌∙◌, sym}
use Rattle.asm_build.proofs.OpenBundles.{fits_three}
use Rattle.asm_build.proofs.draft.BundleLines.three.Goals as goal

pub of_fitting-requires : goal.of_fitting-requires
of_fitting-requires c =
    fits_three c.args.name c.args.a.now c.args.b.now c.args.c.now c.args.a.now.stop c.args.b.now.stop c.args.c.now.stop
    c.in_ok-template.template c.requires (sym c.template_of.ensures ∙ c.in_ok-template.was)
