use Rattle.emulator.proofs.SlotSteps.{slot_here}
use Rattle.emulator.proofs.run.Run.slot.Goals as goal

pub returns : goal.returns
returns c =
    slot_here c.args.code.now c.args.self.now.state c.args.self.now.number c.at.result.now c.requires.program c.requires.place c.at.ensures
