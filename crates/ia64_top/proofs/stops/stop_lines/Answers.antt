use Rattle.std.proofs.Common.{[], refl}
use Rattle.ia_meaning.specs.StateText.{line}
use Rattle.ia64_top.specs.Stops.{stop_text}
use Rattle.ia64_top.proofs.Printing.{grows}
use Rattle.ia64_top.proofs.stops.stop_lines.Goals as goal

pub loop-stop-preserved : goal.loop-stop-preserved
loop-stop-preserved c =
    grows (λ s. line (stop_text s)) _ _ _ _ [] _ _ refl c.loop-stop-test.true c.in_ok-writeln.ensures.bytes c.loop-stop.invariant
