use Rattle.std.proofs.Common.{◌≡◌, ℕ, ◌<◌}
use Rattle.ia_program.specs.Programs.{floor, IsEntryAt}
use Rattle.ia_program.proofs.entries.misplaced_entry.Given as goal

abbrev pub invariant-loop-n : goal.invariant-loop-n
invariant-loop-n l = (l.floor ≡ floor l.entries l.n) × ((k : ℕ) → k < l.n → IsEntryAt l.count l.entries k)
