use Rattle.std.proofs.Common.{◌≡◌, ◌∙◌, ap, ℕ, List, ◌++◌, codes, append_assoc}
use Rattle.std.proofs.lemmas.Result.{on_ok_weaker}
use Rattle.std.specs.Fmt.{decimal}
use Rattle.asm_build.specs.CanonicalText.{relation_text}
use Rattle.asm_build.proofs.bundles.push_relation.Goals as goal

joined : (old one two three new : List ℕ) (m n p q : ℕ) → m ≡ p → n ≡ q → one ≡ old ++ codes ".pred.rel \"mutex\",p"
    → two ≡ one ++ decimal m → three ≡ two ++ codes ",p" → new ≡ three ++ decimal n → new ≡ old ++ relation_text p q
joined old one two three new m n p q e f a b c d =
    let head = codes ".pred.rel \"mutex\",p" in
    d ∙ ap (λ k. three ++ decimal k) f ∙ ap (λ xs. xs ++ decimal q)
    (c ∙ ap (λ xs. xs ++ codes ",p") (b ∙ ap (λ k. one ++ decimal k) e ∙ ap (λ xs. xs ++ decimal p) a
    ∙ append_assoc old head (decimal p)) ∙ append_assoc old (head ++ decimal p) (codes ",p"))
    ∙ append_assoc old (head ++ decimal p ++ codes ",p") (decimal q)

pub returns : goal.returns
returns c =
    on_ok_weaker c.push_decimal-2.result
    (joined c.args.out.now.items c.push_bytes.new.out.items c.push_decimal.new.out.items c.push_bytes-2.new.out.items
    c.push_decimal-2.new.out.items c.from.result c.from-2.result c.args.p c.args.q c.from.ensures c.from-2.ensures
    c.in_ok-push_bytes.ensures.ok c.in_ok-push_decimal.ensures.ok c.in_ok-push_bytes-2.ensures.ok)
    c.push_decimal-2.ensures.ok
