use Rattle.std.proofs.Common.{length}
use Rattle.slot_layouts.proofs.layout.+stops_are_wanted.Given as goal

abbrev pub decreases-stops_are_wanted : goal.decreases-stops_are_wanted
decreases-stops_are_wanted l = length l.wanted.now
