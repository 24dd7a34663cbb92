-- The numbers of a data line.
use Rattle.std.proofs.Common.{◌≡◌, ◌≤◌, ◌<◌, ◌∙◌, sym, ap, refl, ℕ, ◌+◌, List, [], ◌∷◌, ◌++◌, length, drop, get_or, arith}
use Rattle.std.proofs.lemmas.Bool.{le-ltb}
use Rattle.std.proofs.lemmas.List.{append_assoc, drop-drop, drop_more}
use Rattle.asm_lexemes.specs.declared.limits.TheConstants.{NUMBER_TOKEN_LIMIT}
use Rattle.asm_lexemes.specs.declared.tokens.Token.{Token}
use Rattle.asm_forms.specs.declared.items.NumberField.{NumberField}
use Rattle.asm_instructions.specs.Operands.{wrapped, is_negative, magnitude}
use Rattle.asm_reading.specs.Lines.{agreed_data, numbers_of}

-- After the last number that there may be nothing is wanted.
pub agreed_past : (f : NumberField) (at : ℕ) (xs : List Token) → NUMBER_TOKEN_LIMIT ≤ at → agreed_data f at xs ≡ 0
agreed_past f at [] h = refl
agreed_past f at (x ∷ xs) h = rw (le-ltb at NUMBER_TOKEN_LIMIT h) refl

numbers_step : (m : ℕ) (x : Token) (xs : List Token) → numbers_of m (x ∷ xs) ≡ wrapped m (is_negative x)
    (magnitude x) ∷ numbers_of m (drop 1 xs)
numbers_step m x [] = refl
numbers_step m x (y ∷ xs) = refl

-- One more number, and its comma is left out.
pub one_more : (m : ℕ) (tokens : List Token) (at : ℕ) (x : Token) (list new : List ℕ) (n : ℕ) → at < length tokens → x ≡ get_or tokens at x
    → n ≡ wrapped m (is_negative x) (magnitude x) → new ≡ list ++ n ∷ []
    → new ++ numbers_of m (drop (at + 2) tokens) ≡ list ++ numbers_of m (drop at tokens)
one_more m tokens at x list new n h is number grown =
    let rest : drop 1 (drop (at + 1) tokens) ≡ drop (at + 2) tokens = drop-drop 1 (at + 1) tokens ∙ ap (λ k. drop k tokens) (omega arith) in
    let there : drop at tokens ≡ x ∷ drop (at + 1) tokens = drop_more tokens at x h ∙ ap (λ y. y ∷ drop (at + 1) tokens) (sym is) in
    let next : numbers_of m (drop at tokens) ≡ n ∷ numbers_of m (drop (at + 2) tokens) =
    ap (numbers_of m) there ∙ numbers_step m x (drop (at + 1) tokens) ∙ rw (number, rest) refl in
    rw (grown, next) (append_assoc list (n ∷ []) (numbers_of m (drop (at + 2) tokens)))
