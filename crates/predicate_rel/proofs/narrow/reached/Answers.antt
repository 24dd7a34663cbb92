use Rattle.std.proofs.Common.{◌≡◌, ℕ, ◌<◌, ◌∙◌, refl, sym}
use Rattle.predicate_rel.specs.Pairs.{has_bit}
use Rattle.predicate_rel.proofs.Reached.{has_part, agree_past, before_part}
use Rattle.predicate_rel.proofs.narrow.reached.Goals as goal

pub returns-in-Test-clause-reached : goal.returns-in-Test-clause-reached
returns-in-Test-clause-reached c =
    let parts : (x : ℕ) → x < 64 → has_bit c.either.result x ≡ has_part c.args.action.now c.args.qp c.args.changed x =
    λ x l. c.either.ensures x ∙ (rw (
      c.with_bit_where-own.ensures x l,
      c.all_if.ensures x l,
      c.has_bit.ensures,
      c.has_bit-in-Test.ensures,
      c.in-Test.is,
      c.number.ensures.value,
      c.number-in-Test.ensures.value,
      c.number-in-Test-2.ensures.value,
    ) refl) in
    agree_past c.args.action.now c.args.qp c.args.changed c.either.result (λ x l none. sym (parts x l) ∙ none)

pub returns-in-ToPredicates-clause-reached : goal.returns-in-ToPredicates-clause-reached
returns-in-ToPredicates-clause-reached c =
    let parts : (x : ℕ) → x < 64 → has_bit c.either-in-ToPredicates.result x ≡ has_part c.args.action.now c.args.qp c.args.changed x =
    λ x l. c.either-in-ToPredicates.ensures x ∙ (rw (
      c.all_if-in-ToPredicates.ensures x l,
      c.has_bit-in-ToPredicates.ensures,
      c.in-ToPredicates.is,
      c.number-in-ToPredicates.ensures.value,
    ) refl) in
    agree_past c.args.action.now c.args.qp c.args.changed c.either-in-ToPredicates.result (λ x l none. sym (parts x l) ∙ none)

pub returns-in-Loop-clause-reached : goal.returns-in-Loop-clause-reached
returns-in-Loop-clause-reached c =
    agree_past c.args.action.now c.args.qp c.args.changed c.either-in-Loop.result
    (λ x l none. rw c.in-Loop.is (before_part c.args.changed c.moved_up.result c.either-in-Loop.result x (c.moved_up.ensures x l)
    (c.either-in-Loop.ensures x) none))
