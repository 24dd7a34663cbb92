use Rattle.std.proofs.Common.{refl, ◌∙◌}
use Rattle.predicate_rel.specs.Rules.{two}
use Rattle.predicate_rel.proofs.facts.Facts.raised_row.Goals as goal

pub returns : goal.returns
returns c test zero bits =
    c.written_row.ensures test (λ a b. two a b c.args.g 0) zero bits
    (λ y l. c.kept_if-pairs.ensures y ∙ (rw (c.row.ensures y l, c.at.ensures, c.number.ensures.value) refl))
