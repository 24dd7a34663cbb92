use Rattle.std.proofs.Common.{ℕ, ◌<◌, Bool}
use Rattle.ia_program.specs.declared.place.Place.{Place}
use Rattle.flow_facts.specs.Graphs.{Graph}
use Rattle.group_checker.specs.Windows.{HasWindow}
use Rattle.group_checker.specs.Findings.{IsPairViolated}
use Rattle.group_checker.proofs.window.Window.has_violation.Given as goal

abbrev pub invariant-loop-m : goal.invariant-loop-m
invariant-loop-m l =
    (g : Graph) (has_stop : Place → Bool) (j : Place) → HasWindow g has_stop l.self j l.slot l.masks → (k : ℕ) → k < l.m
    → ¬ IsPairViolated g has_stop l.self k j
