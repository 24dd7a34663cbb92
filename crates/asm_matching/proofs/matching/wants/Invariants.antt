use Rattle.std.proofs.Common.{◌≡◌, drop}
use Rattle.asm_matching.specs.Matching.{wants}
use Rattle.asm_matching.proofs.matching.wants.Given as goal

abbrev pub invariant-loop-form : goal.invariant-loop-form
invariant-loop-form l = wants l.class (drop l.form-index l.forms) l.tokens l.at ≡ wants l.class l.forms l.tokens l.at
