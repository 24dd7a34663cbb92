use Rattle.std.proofs.Common.{Bool}
use Rattle.ia_program.specs.declared.place.Place.{Place}
use Rattle.flow_facts.specs.Graphs.{Graph}
use Rattle.group_checker.specs.Windows.{Describes, HasAdvanced}
use Rattle.group_checker.proofs.moves.mark_all.Given as goal

abbrev pub invariant-loop-m : goal.invariant-loop-m
invariant-loop-m l =
    (g : Graph) (has_stop : Place → Bool) (j : Place) → Describes g has_stop j l.slot
    → HasAdvanced g j l.mask l.initial.window.items l.window.items l.m
