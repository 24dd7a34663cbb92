use Rattle.std.proofs.Common.{ℕ, ◌<◌}
use Rattle.image_form.specs.Parts.{IsPadded}
use Rattle.image_form.proofs.relations.unpadded_relation.Given as goal

abbrev pub invariant-loop-n : goal.invariant-loop-n
invariant-loop-n l = (k : ℕ) → k < l.n → IsPadded l.bytes k
