use Rattle.std.proofs.Common.{◌≡◌, length, take, filter, [], ◌∷◌}
use Rattle.ia_program.specs.Templates.{stops_of}
use Rattle.slot_layouts.specs.Layouts.{is_stop_between}
use Rattle.slot_layouts.proofs.layout.stops_between.Given as goal

-- The count is that of the slots before this one.
abbrev pub invariant-loop-slot : goal.invariant-loop-slot
invariant-loop-slot l = l.count ≡ length (filter (is_stop_between (stops_of l.template) l.from l.before) (take l.slot (0 ∷ 1 ∷ 2 ∷ [])))
