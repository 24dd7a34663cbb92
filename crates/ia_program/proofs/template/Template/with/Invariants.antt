use Rattle.std.proofs.Common.{ℕ, ◌<◌}
use Rattle.ia_program.specs.Templates.{IsTemplate, HasShape}
use Rattle.ia_program.proofs.template.Template.with.Given as goal

abbrev pub invariant-loop-code : goal.invariant-loop-code
invariant-loop-code l = (k : ℕ) → k < l.code → IsTemplate k → HasShape k l.units l.stops → ⊥
