-- A line that declares two predicates is read back.
use Rattle.std.proofs.Common.{◌≡◌, ◌∙◌, ◌≤◌, ◌<◌, ◌^◌, ℕ, true, List, [], ◌∷◌, ◌++◌, codes, Ok, refl, sym, ap, arith, append_assoc}
use Rattle.std.specs.Fmt.{decimal}
use Rattle.std.proofs.lemmas.List.{append-nil}
use Rattle.asm_lexemes.specs.declared.lexeme.LexemeKind.TheVariants as kind
use Rattle.asm_lexemes.specs.declared.tokens.Token.TheVariants as t
use Rattle.asm_lexemes.specs.Bytes.{has_only_plain}
use Rattle.asm_lexemes.specs.Tokens.{token_of}
use Rattle.asm_lexemes.proofs.Lexed.{lexed}
use Rattle.asm_lexemes.proofs.Lexing.{name_lexed}
use Rattle.asm_lexemes.proofs.Readings.{pr_reads, decimal_is_name_bytes, decimal_is_plain, both_plain}
use Rattle.asm_reading.specs.declared.line.Line.TheVariants as line
use Rattle.asm_reading.specs.Lines.{KindAndText, line_of, reading_of, relation_of}
use Rattle.asm_reading.proofs.TwoPredicates.{two_read}
use Rattle.asm_text.proofs.SlotLines.{read_plain}

-- The text of the line.
abbrev pub relation_text : ℕ → ℕ → List ℕ
relation_text p q = codes ".pred.rel \"mutex\",p" ++ decimal p ++ codes ",p" ++ decimal q

abbrev words : ℕ → ℕ → List KindAndText
words p q =
    (kind.Name, codes ".pred.rel") ∷ (kind.Quoted, codes "\"mutex\"") ∷ (kind.Mark, codes ",") ∷ (kind.Name, 112 ∷ decimal p)
    ∷ (kind.Mark, codes ",") ∷ (kind.Name, 112 ∷ decimal q) ∷ []

last_lexed : (q : ℕ) → q < 2 ^ 64 → lexed 0 (codes ",p" ++ decimal q) ≡ (kind.Mark, codes ",") ∷ (kind.Name, 112 ∷ decimal q) ∷ []
last_lexed q l =
    ap (λ ws. (kind.Mark, codes ",") ∷ ws)
    (ap (λ ds. lexed 0 (112 ∷ ds)) (sym (append-nil (decimal q)))
    ∙ name_lexed 112 (decimal q) [] refl refl (decimal_is_name_bytes q l) refl)

relation_lexed : (p q : ℕ) → p < 2 ^ 64 → q < 2 ^ 64 → lexed 0 (relation_text p q) ≡ words p q
relation_lexed p q lp lq =
    let rest = codes ",p" ++ decimal q in
    ap (λ ds. lexed 0 (codes ".pred.rel \"mutex\",p" ++ ds)) (append_assoc (decimal p) (codes ",p") (decimal q))
    ∙ name_lexed 46 (codes "pred.rel") (codes " \"mutex\",p" ++ (decimal p ++ rest)) refl refl refl refl
    ∙ ap (λ ws. (kind.Name, codes ".pred.rel") ∷ (kind.Quoted, codes "\"mutex\"") ∷ (kind.Mark, codes ",") ∷ ws)
    (name_lexed 112 (decimal p) rest refl refl (decimal_is_name_bytes p lp) refl
    ∙ ap (λ ws. (kind.Name, 112 ∷ decimal p) ∷ ws) (last_lexed q lq))

relation_value : (p q : ℕ) → 1 ≤ p → p < q → q ≤ 15 → line_of (words p q) ≡ Ok (line.Relation (p ∷ q ∷ []))
relation_value p q some less few =
    ap (λ x. relation_of (t.Mutex ∷ t.Comma ∷ x ∷ t.Comma ∷ token_of kind.Name (112 ∷ decimal q) ∷ []))
    (pr_reads p (omega (arith, less, few)))
    ∙ ap (λ x. relation_of (t.Mutex ∷ t.Comma ∷ t.Pr p ∷ t.Comma ∷ x ∷ [])) (pr_reads q (omega (arith, few)))
    ∙ two_read p q some less few

pub relation_reads : (p q : ℕ) → 1 ≤ p → p < q → q ≤ 15 → reading_of (relation_text p q) ≡ Ok (line.Relation (p ∷ q ∷ []))
relation_reads p q some less few =
    let lp : p < 2 ^ 64 = omega (arith, less, few) in
    let lq : q < 2 ^ 64 = omega (arith, few) in
    let plain : has_only_plain (relation_text p q) ≡ true =
    both_plain (codes ".pred.rel \"mutex\",p" ++ decimal p ++ codes ",p") (decimal q)
    (both_plain (codes ".pred.rel \"mutex\",p" ++ decimal p) (codes ",p")
    (both_plain (codes ".pred.rel \"mutex\",p") (decimal p) refl (decimal_is_plain p lp)) refl) (decimal_is_plain q lq) in
    read_plain (relation_text p q) plain ∙ ap line_of (relation_lexed p q lp lq) ∙ relation_value p q some less few
