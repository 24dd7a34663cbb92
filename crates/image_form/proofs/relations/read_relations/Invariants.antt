use Rattle.std.proofs.Common.{◌≡◌}
use Rattle.image_form.specs.Parts.{relations_in}
use Rattle.image_form.proofs.relations.read_relations.Given as goal

abbrev pub invariant-loop-n : goal.invariant-loop-n
invariant-loop-n l = l.read.items ≡ relations_in l.n l.bytes
