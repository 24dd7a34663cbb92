use Rattle.std.proofs.Common.{◌≡◌, None}
use Rattle.slot_layouts.specs.Layouts.{first_below}
use Rattle.slot_layouts.proofs.layout.laid_out.Given as goal

-- No template below this code has a layout.
abbrev pub invariant-loop-code : goal.invariant-loop-code
invariant-loop-code l = first_below l.code l.wanted l.end ≡ None
