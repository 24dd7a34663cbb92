use Rattle.std.proofs.Common.{ap, sym, ◌∙◌}
use Rattle.std.proofs.lemmas.Bool.{true≢false}
use Rattle.predicate_rel.specs.Rules.{PairRule, is_met}
use Rattle.predicate_rel.proofs.BitLemmas.{has_bit_all}
use Rattle.predicate_rel.proofs.rows.written_by.Goals as goal

pub returns-in_default : goal.returns-in_default
returns-in_default c g x f l none apart guard y m = absurd (true≢false (sym (has_bit_all x l) ∙ none))

pub returns-then-keeps_pairs : goal.returns-then-keeps_pairs
returns-then-keeps_pairs c g x f l none apart guard y m =
    ap (λ (r : PairRule). is_met r f) (c.keeps_pairs.ensures c.if-keeps_pairs.true g x y)
