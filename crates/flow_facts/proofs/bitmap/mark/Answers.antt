use Rattle.std.proofs.Common.{◌≡◌, ℕ, true, cond, eqb, get_or, ◌/◌, ◌%◌, refl, sym, ap, ◌∙◌, arith}
use Rattle.std.proofs.lemmas.List.{get_or_default}
use Rattle.predicate_rel.specs.Pairs.{has_bit}
use Rattle.predicate_rel.proofs.BitLemmas.{set_value}
use Rattle.flow_facts.proofs.Words.{marked_set}
use Rattle.flow_facts.proofs.bitmap.mark.Goals as goal

pub returns-clause-marks : goal.returns-clause-marks
returns-clause-marks c m =
    let words = c.args.words.now.items in
    let n = c.args.n in
    let old = c.index_mut.result.now in
    let is : old ≡ get_or words (n / 64) 0 = c.index_mut.ensures.value ∙ sym (get_or_default words (n / 64) 0 old c.requires) in
    marked_set words n _ true c.requires (λ y l. set_value old (n % 64) true (omega arith) refl y l
    ∙ ap (λ (w : ℕ). cond (eqb y (n % 64)) true (has_bit w y)) is) m
