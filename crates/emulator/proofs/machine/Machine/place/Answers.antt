use Rattle.emulator.proofs.CodeSlots.{number_below}
use Rattle.emulator.proofs.machine.Machine.place.Goals as goal

pub place-requires : goal.place-requires
place-requires c = let m = c.self.inside in number_below m.code m.run.number c.self.invariant.program c.self.invariant.under_way.place
