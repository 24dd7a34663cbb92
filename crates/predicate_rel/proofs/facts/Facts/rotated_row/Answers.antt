use Rattle.std.proofs.Common.{arith}
use Rattle.std.proofs.lemmas.Bool.Decides.{nat_tests}
use Rattle.predicate_rel.proofs.facts.Facts.rotated_row.Goals as goal

pub returns : goal.returns
returns c y l = grind (arith, nat_tests, c.with_bit.ensures y l, c.renamed.ensures y l, c.row.ensures)
