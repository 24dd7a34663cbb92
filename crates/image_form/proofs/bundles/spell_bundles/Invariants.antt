use Rattle.std.proofs.Common.{take}
use Rattle.image_form.specs.Images.{AreSpelled}
use Rattle.image_form.proofs.bundles.spell_bundles.Given as goal

abbrev pub invariant-loop-bundle : goal.invariant-loop-bundle
invariant-loop-bundle l = AreSpelled (take l.bundle-index l.bundles) l.bytes.items
