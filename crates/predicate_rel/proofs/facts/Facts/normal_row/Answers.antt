use Rattle.std.proofs.Common.{refl, ◌∙◌, arith}
use Rattle.std.proofs.lemmas.Bool.Decides.{nat_tests}
use Rattle.predicate_rel.specs.Rules.{normal_targets, is_target}
use Rattle.predicate_rel.proofs.facts.Facts.normal_row.Goals as goal

pub returns : goal.returns
returns c =
    c.written_row.ensures (is_target c.args.p1 c.args.p2) (λ _ _. normal_targets c.args.p1 c.args.p2 c.args.g) refl c.targets.ensures
    (λ y l. c.all_if.ensures y l ∙ grind (arith, nat_tests))
