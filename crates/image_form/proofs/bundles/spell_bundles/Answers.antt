use Rattle.std.proofs.Common.{rules, ◌<◌, length}
use Rattle.image_form.proofs.Spelled.{one_more_written}
use Rattle.image_form.proofs.bundles.spell_bundles.Goals as goal

pub loop-bundle-preserved : goal.loop-bundle-preserved
loop-bundle-preserved c =
    let inside : c.loop-bundle.bundle-index < length c.args.bundles.now = search rules in
    rw c.in_ok-extend_from_slice.ensures.items (one_more_written c.args.bundles.now c.loop-bundle.bundle-index _ _ c.bundle-item.result
    inside c.bundle-item.is c.encode_bundle.ensures.spelled c.loop-bundle.invariant)
