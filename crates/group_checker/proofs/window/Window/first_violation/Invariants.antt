use Rattle.std.proofs.Common.{ℕ, ◌<◌, Bool}
use Rattle.ia_program.specs.declared.place.Place.{Place}
use Rattle.flow_facts.specs.Graphs.{Graph}
use Rattle.group_checker.specs.Windows.{HasWindow}
use Rattle.group_checker.specs.Findings.{IsPairViolated}
use Rattle.group_checker.proofs.window.Window.first_violation.Given as goal

abbrev pub invariant-loop-n : goal.invariant-loop-n
invariant-loop-n l =
    (g : Graph) (has_stop : Place → Bool) → HasWindow g has_stop l.self l.second l.slot l.masks → (k : ℕ) → k < l.n
    → ¬ IsPairViolated g has_stop l.self k l.second
