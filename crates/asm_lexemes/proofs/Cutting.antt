-- A step of cutting a line into lexemes.
use Rattle.std.proofs.Common.{◌≡◌, refl, sym, ◌∙◌, ap, ℕ, zero, suc, ◌+◌, ◌<◌, false, List, [], ◌∷◌, ◌++◌, length, drop, get_or, arith}
use Rattle.std.proofs.lemmas.List.{at_drop_more, drop-drop}
use Rattle.std.proofs.Math.Seq.{append_snoc}
use Rattle.asm_lexemes.specs.declared.lexeme.Lexeme.{Lexeme}
use Rattle.asm_lexemes.specs.declared.lexeme.LexemeKind.{LexemeKind}
use Rattle.asm_lexemes.specs.Bytes.{is_blank}
use Rattle.asm_lexemes.specs.Lexemes.{begins_comment, kind_at, more_at, sharp_at, lexemes_from}

pub skipped : (k at : ℕ) (cs : List ℕ) → lexemes_from k at cs ≡ lexemes_from 0 (at + k) (drop k cs)
skipped zero at cs = ap (λ n. lexemes_from 0 n cs) (omega arith)
skipped (suc k) at [] = refl
skipped (suc k) at (c ∷ cs) = skipped k (at + 1) cs ∙ ap (λ n. lexemes_from 0 n (drop k cs)) (omega arith)

pub turn_at : (c : ℕ) (cs : List ℕ) (at : ℕ) → is_blank c ≡ false → begins_comment c cs ≡ false
    → lexemes_from 0 at (c ∷ cs) ≡ record { kind = kind_at c cs; start = at; end = at + 1 + more_at c cs } ∷ lexemes_from 0
    (at + 1 + (more_at c cs + sharp_at c cs)) (drop (more_at c cs + sharp_at c cs) cs)
turn_at c cs at b m =
    rw (b, m) (ap (λ ws. record { kind = kind_at c cs; start = at; end = at + 1 + more_at c cs } ∷ ws)
    (skipped (more_at c cs + sharp_at c cs) (at + 1) cs))

pub turn : (line : List ℕ) (at more sharp : ℕ) (ws new : List Lexeme) (k : LexemeKind) → at < length line
    → is_blank (get_or line at 0) ≡ false → begins_comment (get_or line at 0) (drop (at + 1) line) ≡ false
    → k ≡ kind_at (get_or line at 0) (drop (at + 1) line) → more ≡ more_at (get_or line at 0) (drop (at + 1) line)
    → sharp ≡ sharp_at (get_or line at 0) (drop (at + 1) line)
    → new ≡ ws ++ record { kind = k; start = at; end = at + 1 + more } ∷ []
    → new ++ lexemes_from 0 (at + 1 + more + sharp) (drop (at + 1 + more + sharp) line) ≡ ws ++ lexemes_from 0 at (drop at line)
turn line at more sharp ws new k h b m ek em es en =
    let c = get_or line at 0 in
    let cs = drop (at + 1) line in
    let F = λ (x : ℕ) (y : List ℕ). ws ++ record { kind = kind_at c cs; start = at; end = at + 1 + more_at c cs } ∷ lexemes_from 0 x y in
    let left : new ++ lexemes_from 0 (at + 1 + more + sharp) (drop (at + 1 + more + sharp) line) ≡ F (at + 1 + more + sharp)
    (drop (at + 1 + more + sharp) line) =
    rw (en, ek, em) (append_snoc ws _ _) in
    let reach : at + 1 + more + sharp ≡ at + 1 + (more_at c cs + sharp_at c cs) = omega arith in
    let rest : drop (at + 1 + more + sharp) line ≡ drop (more_at c cs + sharp_at c cs) cs =
    ap (λ n. drop n line) reach ∙ sym (drop-drop (more_at c cs + sharp_at c cs) (at + 1) line) in
    let joined : F (at + 1 + more + sharp) (drop (at + 1 + more + sharp) line) ≡ F (at + 1 + (more_at c cs + sharp_at c cs))
    (drop (more_at c cs + sharp_at c cs) cs) = rw (rest, reach) refl in
    left ∙ joined ∙ ap (λ x. ws ++ x) (sym (at_drop_more (lexemes_from 0 at) line at 0 h ∙ turn_at c cs at b m))

-- A step of cutting a line into lexemes, where the rest of the line is `rest`.
pub turn_rest : (line rest : List ℕ) (at more sharp : ℕ) (ws new : List Lexeme) (k : LexemeKind) → at < length line
    → rest ≡ drop (at + 1) line → is_blank (get_or line at 0) ≡ false → begins_comment (get_or line at 0) rest ≡ false
    → k ≡ kind_at (get_or line at 0) rest → more ≡ more_at (get_or line at 0) rest → sharp ≡ sharp_at (get_or line at 0) rest
    → new ≡ ws ++ record { kind = k; start = at; end = at + 1 + more } ∷ []
    → new ++ lexemes_from 0 (at + 1 + more + sharp) (drop (at + 1 + more + sharp) line) ≡ ws ++ lexemes_from 0 at (drop at line)
turn_rest line rest at more sharp ws new k h e b m ek em es en =
    turn line at more sharp ws new k h b (ap (begins_comment (get_or line at 0)) (sym e) ∙ m) (ek ∙ ap (kind_at (get_or line at 0)) e)
    (em ∙ ap (more_at (get_or line at 0)) e) (es ∙ ap (sharp_at (get_or line at 0)) e) en
