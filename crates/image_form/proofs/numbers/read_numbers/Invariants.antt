use Rattle.std.proofs.Common.{◌≡◌}
use Rattle.image_form.specs.Parts.{numbers}
use Rattle.image_form.proofs.numbers.read_numbers.Given as goal

abbrev pub invariant-loop-n : goal.invariant-loop-n
invariant-loop-n l = l.read.items ≡ numbers l.n l.bytes
