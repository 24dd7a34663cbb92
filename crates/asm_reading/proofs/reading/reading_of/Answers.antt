use Rattle.std.proofs.Common.{◌≤◌, ◌∙◌, ap, ℕ, zero, suc, ◌+◌, Bool, true, false, if◌then◌else◌, List, [], ◌∷◌, length, arith}
use Rattle.asm_lexemes.specs.declared.lexeme.Lexeme.{Lexeme}
use Rattle.asm_lexemes.specs.Bytes.{is_blank}
use Rattle.asm_lexemes.specs.Lexemes.{begins_comment, more_at, sharp_at, lexemes_from}
use Rattle.asm_reading.proofs.LexemeLists.{read_by_text}
use Rattle.asm_reading.proofs.reading.reading_of.Goals as goal

-- A line has no more lexemes than bytes.
one_more : (blank comment : Bool) (w : Lexeme) (xs ys : List Lexeme) (n : ℕ) → length xs ≤ n → length ys ≤ n
    → length (if blank then xs else (if comment then [] else w ∷ ys)) ≤ suc n
one_more true comment w xs ys n h i = omega (arith, h)
one_more false true w xs ys n h i = omega arith
one_more false false w xs ys n h i = omega (arith, i)

few : (skip at : ℕ) (cs : List ℕ) → length (lexemes_from skip at cs) ≤ length cs
few skip at [] = omega arith
few (suc k) at (c ∷ cs) = omega (arith, few k (at + 1) cs)
few zero at (c ∷ cs) =
    one_more (is_blank c) (begins_comment c cs) _ _ _ (length cs) (few 0 (at + 1) cs) (few (more_at c cs + sharp_at c cs) (at + 1) cs)

pub line_of-requires-clause-few : goal.line_of-requires-clause-few
line_of-requires-clause-few c =
    omega (arith, few 0 0 c.args.line.now, ap length (c.as_slice.ensures ∙ c.in_ok-lexemes_into.ensures.ok.1), c.requires)

pub returns : goal.returns
returns c =
    c.line_of.ensures
    ∙ read_by_text c.args.line.now _ (c.as_slice.ensures ∙ c.in_ok-lexemes_into.ensures.ok.1) c.in_ok-lexemes_into.ensures.ok.0
