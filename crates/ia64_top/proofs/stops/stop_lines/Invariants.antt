use Rattle.std.proofs.Common.{◌≡◌, take}
use Rattle.std.specs.Prelude.{string_bytes, flat_map}
use Rattle.ia_meaning.specs.StateText.{line}
use Rattle.ia64_top.specs.Stops.{stop_text}
use Rattle.ia64_top.proofs.stops.stop_lines.Given as goal

abbrev pub invariant-loop-stop : goal.invariant-loop-stop
invariant-loop-stop l = string_bytes l.text ≡ flat_map (λ s. line (stop_text s)) (take l.stop-index l.stops)
