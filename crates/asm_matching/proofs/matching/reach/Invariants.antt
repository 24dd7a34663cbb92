use Rattle.std.proofs.Common.{◌≡◌, ◌≤◌, drop, max, length}
use Rattle.asm_matching.specs.Matching.{reach}
use Rattle.asm_matching.proofs.matching.reach.Given as goal

abbrev pub invariant-loop-form : goal.invariant-loop-form
invariant-loop-form l = record {
  within : l.most ≤ length l.tokens;
  value : max l.most (reach (drop l.form-index l.forms) l.tokens) ≡ reach l.forms l.tokens;
}
