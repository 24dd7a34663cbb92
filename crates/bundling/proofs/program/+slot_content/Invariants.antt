use Rattle.std.proofs.Common.{length}
use Rattle.bundling.proofs.program.+slot_content.Given as goal

abbrev pub decreases-slot_content : goal.decreases-slot_content
decreases-slot_content l = length l.slots.now
