use Rattle.std.proofs.Common.{arith}
use Rattle.loose_items.proofs.PlainPackings.{no_room, has_room}
use Rattle.loose_items.proofs.packing.packed_with.Goals as goal

pub returns-then-packing-gt-BUNDLE_LIMIT : goal.returns-then-packing-gt-BUNDLE_LIMIT
returns-then-packing-gt-BUNDLE_LIMIT c =
    λ items packed. no_room items c.args.item.now c.with_next-packing.result (c.with_next-packing.ensures items packed)
    (omega (arith, c.if-packing-gt-BUNDLE_LIMIT.true))

pub returns : goal.returns
returns c =
    λ items packed. has_room items c.args.item.now c.with_next-packing.result (c.with_next-packing.ensures items packed)
    (omega (arith, c.if-packing-gt-BUNDLE_LIMIT.false))
