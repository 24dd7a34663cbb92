use Rattle.std.proofs.Common.{length}
use Rattle.stop_placer.proofs.packing.+has_no_gap.Given as goal

abbrev pub decreases-has_no_gap : goal.decreases-has_no_gap
decreases-has_no_gap l = length l.wanted.now
