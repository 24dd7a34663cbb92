use Rattle.std.proofs.Common.{◌≡◌, Some, rules}
use Rattle.slot_table.specs.Slots.{slot_at}
use Rattle.group_engine.specs.Groups.{gathered_of}
use Rattle.group_engine.proofs.Starts.{comes_next}
use Rattle.group_engine.proofs.gathering.Gathering.slot.Goals as goal

pub returns : goal.returns
returns c =
    let slot = c.in-Some.slot.now in
    let at : slot_at c.args.table.now.bundles c.args.self.now.place ≡ Some slot = search rules in
    comes_next c.args.table.now (gathered_of c.args.self.now) slot c.requires.program at
