-- The lexemes of a line, by position and by text.
use Rattle.std.proofs.Common.{◌≡◌, refl, sym, ◌∙◌, ap, ℕ, zero, suc, ◌+◌, ◌-◌, true, false, cond, List, [], ◌∷◌, ◌++◌, length, take, map, slice_range, arith}
use Rattle.std.proofs.lemmas.List.{drop_at, length-append}
use Rattle.std.proofs.Math.Seq.{append_snoc}
use Rattle.asm_lexemes.specs.declared.lexeme.Lexeme.{Lexeme}
use Rattle.asm_lexemes.specs.declared.lexeme.LexemeKind.{LexemeKind}
use Rattle.asm_lexemes.specs.Bytes.{is_blank}
use Rattle.asm_lexemes.specs.Lexemes.{begins_comment, kind_at, more_at, sharp_at, lexemes_from}
use Rattle.asm_lexemes.proofs.Lexed.{lexed}

abbrev pair_in : List ℕ → Lexeme → LexemeKind × List ℕ
pair_in line w = (w.kind, slice_range line w.start w.end)

part_is : (line front : List ℕ) (c : ℕ) (cs : List ℕ) (m : ℕ) → line ≡ front ++ c ∷ cs
    → slice_range line (length front) (length front + 1 + m) ≡ c ∷ take m cs
part_is line front c cs m e =
    let n : length front + 1 + m - length front ≡ suc m = omega arith in
    rw (e, n, drop_at front (c ∷ cs) (length front) refl) refl

cut_same : (line front : List ℕ) (k at : ℕ) (cs : List ℕ) → line ≡ front ++ cs → at ≡ length front
    → map (pair_in line) (lexemes_from k at cs) ≡ lexed k cs
cut_same line front k at [] e a = refl
cut_same line front (suc k) at (c ∷ cs) e a =
    cut_same line (front ++ c ∷ []) k (at + 1) cs (e ∙ sym (append_snoc front c cs)) (omega (arith, length-append front (c ∷ [])))
cut_same line front zero at (c ∷ cs) e a =
    let next : (k : ℕ) → map (pair_in line) (lexemes_from k (at + 1) cs) ≡ lexed k cs =
    λ k. cut_same line (front ++ c ∷ []) k (at + 1) cs (e ∙ sym (append_snoc front c cs))
    (omega (arith, length-append front (c ∷ []))) in
    let here : slice_range line at (at + 1 + more_at c cs) ≡ c ∷ take (more_at c cs) cs = rw a (part_is line front c cs (more_at c cs) e) in
    elim (is_blank c) as (λ b. map (pair_in line) (cond b (lexemes_from 0 (at + 1) cs)
    (cond (begins_comment c cs) [] (record { kind = kind_at c cs; start = at; end = at + 1 + more_at c cs } ∷ lexemes_from
    (more_at c cs + sharp_at c cs) (at + 1) cs)))
    ≡ cond b (lexed 0 cs) (cond (begins_comment c cs) [] ((kind_at c cs, c ∷ take (more_at c cs) cs) ∷ lexed (more_at c cs + sharp_at c cs)
    cs))) [
      | true ↦ next 0
      | false ↦ elim (begins_comment c cs) as (λ b. map (pair_in line)
          (cond b [] (record { kind = kind_at c cs; start = at; end = at + 1 + more_at c cs } ∷ lexemes_from
          (more_at c cs + sharp_at c cs) (at + 1) cs))
          ≡ cond b [] ((kind_at c cs, c ∷ take (more_at c cs) cs) ∷ lexed (more_at c cs + sharp_at c cs) cs)) [
            | true ↦ refl
            | false ↦ ap (λ x. (kind_at c cs, x) ∷ map (pair_in line) (lexemes_from (more_at c cs + sharp_at c cs) (at + 1) cs)) here
                ∙ ap (λ x. (kind_at c cs, c ∷ take (more_at c cs) cs) ∷ x) (next (more_at c cs + sharp_at c cs))
          ]
    ]

-- The lexemes of a line by position have these kinds and texts.
pub lexemes_lexed : (line : List ℕ) → map (λ w. (w.kind, slice_range line w.start w.end)) (lexemes_from 0 0 line) ≡ lexed 0 line
lexemes_lexed line = cut_same line [] 0 0 line refl refl
