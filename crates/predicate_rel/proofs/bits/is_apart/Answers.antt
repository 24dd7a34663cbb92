use Rattle.std.proofs.Common.{ℕ, sym, ap, ◌∙◌, eqb-true, inl, inr}
use Rattle.std.specs.Prelude.{bit_and}
use Rattle.std.proofs.lemmas.Bool.{cases_Bool, and_from, true≢false}
use Rattle.predicate_rel.specs.Pairs.{has_bit}
use Rattle.predicate_rel.proofs.BitLemmas.{has_bit_and, has_bit_none}
use Rattle.predicate_rel.proofs.bits.is_apart.Goals as goal

pub returns : goal.returns
returns c none y there = elim (cases_Bool (has_bit c.args.a y)) [
  | inl t ↦ absurd (true≢false (sym (has_bit_and c.args.a c.args.b y ∙ and_from (has_bit c.args.a y) (has_bit c.args.b y) t there)
      ∙ ap (λ (n : ℕ). has_bit n y) (eqb-true (bit_and c.args.a c.args.b) 0 none) ∙ has_bit_none y))
  | inr e ↦ e
]
