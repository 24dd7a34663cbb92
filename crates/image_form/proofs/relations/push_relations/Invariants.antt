use Rattle.std.proofs.Common.{◌≡◌, ◌++◌, take}
use Rattle.image_form.specs.Images.{written_relations}
use Rattle.image_form.proofs.relations.push_relations.Given as goal

abbrev pub invariant-loop-relation : goal.invariant-loop-relation
invariant-loop-relation l = l.bytes.items ≡ l.initial.bytes.items ++ written_relations (take l.relation-index l.relations)
