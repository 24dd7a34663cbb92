use Rattle.loose_items.specs.PlainPackings.{held}
use Rattle.loose_items.proofs.PlainPackings.{held_few, begun_packed}
use Rattle.loose_items.proofs.packing.PlainPacking.with.Goals as goal

pub returns-in-None : goal.returns-in-None
returns-in-None c =
    let before = c.args.self.now in
    λ items packed. rw c.wanted_as.ensures (begun_packed items (held before.held) before.before c.args.item.now before.bundles
    (held_few before.held) packed c.in-None.ensures)
