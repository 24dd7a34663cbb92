use Rattle.std.proofs.Common.{◌≡◌, ◌∙◌, sym, ap, ◌-◌, ◌+◌, ◌++◌, suc, length, arith}
use Rattle.std.specs.List.{filter, range_with_len}
use Rattle.asm_matching.specs.Relations.{is_named}
use Rattle.asm_matching.proofs.NamedPredicates.{none_yet, kept, left_out}
use Rattle.asm_matching.proofs.relation.named_predicates.Goals.{then-is_named, else-is_named}
use Rattle.asm_matching.proofs.relation.named_predicates.Goals as goal

pub loop-p-init : goal.loop-p-init
loop-p-init c = record {
  room = omega (arith, ap (λ xs. length xs) c.new-numbers.ensures);
  value = none_yet c.args.tokens.now c.new-numbers.result.items c.new-numbers.ensures;
}

pub loop-p-preserved : goal.loop-p-preserved
loop-p-preserved c =
    let t = is_named c.args.tokens.now in
    let p = c.loop-p.p in
    let one : 16 - p ≡ suc (16 - (p + 1)) = omega (arith, c.loop-p-test.true) in
    elim c.if-is_named.branch [
      | then-is_named w ↦ record {
        room = rw w.numbers-is (omega (arith, w.push.ensures.len, c.loop-p.invariant.room));
        value =
            ap (λ xs. xs ++ filter t (range_with_len (p + 1) (16 - (p + 1)))) (ap (λ v. v.items) w.numbers-is ∙ w.push.ensures.items)
            ∙ kept t c.loop-p.numbers.items p (16 - p) (16 - (p + 1)) one (sym c.is_named.ensures ∙ w.if-is_named.true)
            ∙ c.loop-p.invariant.value;
      }
      | else-is_named w ↦ record {
        room = rw w.numbers-is (omega (arith, c.loop-p.invariant.room));
        value =
            ap (λ v. v.items ++ filter t (range_with_len (p + 1) (16 - (p + 1)))) w.numbers-is
            ∙ left_out t c.loop-p.numbers.items p (16 - p) (16 - (p + 1)) one (sym c.is_named.ensures ∙ w.if-is_named.false)
            ∙ c.loop-p.invariant.value;
      }
    ]
