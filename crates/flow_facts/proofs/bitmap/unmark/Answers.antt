use Rattle.std.proofs.Common.{◌≡◌, ℕ, false, cond, eqb, get_or, ◌/◌, ◌%◌, refl, sym, ap, ◌∙◌, arith}
use Rattle.std.proofs.lemmas.List.{get_or_default}
use Rattle.predicate_rel.specs.Pairs.{has_bit}
use Rattle.predicate_rel.proofs.BitLemmas.{clear_value, without_less}
use Rattle.flow_facts.proofs.Words.{marked_set, sum_less}
use Rattle.flow_facts.proofs.bitmap.unmark.Goals as goal

pub returns-clause-marks : goal.returns-clause-marks
returns-clause-marks c m =
    let words = c.args.words.now.items in
    let n = c.args.n in
    let old = c.index_mut.result.now in
    let is : old ≡ get_or words (n / 64) 0 = c.index_mut.ensures.value ∙ sym (get_or_default words (n / 64) 0 old c.requires) in
    marked_set words n _ false c.requires (λ y l. clear_value old (n % 64) false (omega arith) refl y l
    ∙ ap (λ (w : ℕ). cond (eqb y (n % 64)) false (has_bit w y)) is) m

pub returns-clause-less : goal.returns-clause-less
returns-clause-less c there =
    let words = c.args.words.now.items in
    let n = c.args.n in
    let old = c.index_mut.result.now in
    let is : old ≡ get_or words (n / 64) 0 = c.index_mut.ensures.value ∙ sym (get_or_default words (n / 64) 0 old c.requires) in
    let less = without_less old (n % 64) (omega arith) (ap (λ (w : ℕ). has_bit w (n % 64)) is ∙ there) in
    sum_less words (n / 64) _ c.requires (omega (arith, less, is))
