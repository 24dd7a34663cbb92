-- The lexemes of a line are parts of it, in order.
use Rattle.std.proofs.Common.{ℕ, zero, suc, ◌+◌, ◌≤◌, Bool, true, false, ◌&&◌, cond, eqb, List, [], ◌∷◌, length, arith}
use Rattle.std.specs.List.{AllByRecursion}
use Rattle.std.proofs.lemmas.List.Elements.{All-from_recursion}
use Rattle.asm_lexemes.specs.declared.lexeme.LexemeKind.{LexemeKind}
use Rattle.asm_lexemes.specs.declared.lexeme.LexemeKind.TheVariants as lexeme
use Rattle.asm_lexemes.specs.Bytes.{is_blank, is_name_byte, begins_with}
use Rattle.asm_lexemes.specs.Lexemes.{begins_comment, name_run, quoted_run, kind_at, more_at, sharp_at, lexemes_from, pick}
use Rattle.asm_lexemes.specs.Slices.{IsPart, AreInOrder, AreSlices}

run_le : (cs : List ℕ) → name_run cs ≤ length cs
run_le [] = omega arith
run_le (c ∷ cs) =
    elim (is_name_byte c) as (λ b. cond b (name_run cs + 1) 0 ≤ suc (length cs))
    [ true ↦ let h = run_le cs in omega arith | false ↦ omega arith ]

quoted_le : (cs : List ℕ) → quoted_run cs ≤ length cs
quoted_le [] = omega arith
quoted_le (c ∷ cs) =
    elim (eqb c 34) as (λ b. cond b 1 (quoted_run cs + 1) ≤ suc (length cs))
    [ true ↦ omega arith | false ↦ let h = quoted_le cs in omega arith ]

by_kind : (k : LexemeKind) (a q m n : ℕ) → a ≤ n → q ≤ n → m ≤ n → pick k a a q m ≤ n
by_kind lexeme.Name a q m n ha hq hm = ha
by_kind lexeme.Number a q m n ha hq hm = ha
by_kind lexeme.Quoted a q m n ha hq hm = hq
by_kind lexeme.Mark a q m n ha hq hm = hm

semi : (b : Bool) (cs : List ℕ) → cond (b && begins_with 59 cs) 1 0 ≤ length cs
semi true [] = omega arith
semi true (c ∷ cs) = elim (eqb c 59) as (λ b. cond b 1 0 ≤ suc (length cs)) [ true ↦ omega arith | false ↦ omega arith ]
semi false cs = omega arith

pub more_le : (c : ℕ) (cs : List ℕ) → more_at c cs ≤ length cs
more_le c cs = by_kind (kind_at c cs) (name_run cs) (quoted_run cs) _ (length cs) (run_le cs) (quoted_le cs) (semi (eqb c 59) cs)

parts : (skip at n : ℕ) (cs : List ℕ) → at + length cs ≤ n → AllByRecursion (IsPart n) (lexemes_from skip at cs)
parts skip at n [] h = tt
parts (suc k) at n (c ∷ cs) h = parts k (at + 1) n cs (omega arith)
parts zero at n (c ∷ cs) h =
    let m = more_le c cs in
    let here : IsPart n (record { kind = kind_at c cs; start = at; end = at + 1 + more_at c cs }) = (omega arith, omega arith) in
    elim (is_blank c) as (λ b. AllByRecursion (IsPart n) (cond b (lexemes_from 0 (at + 1) cs)
    (cond (begins_comment c cs) [] (record { kind = kind_at c cs; start = at; end = at + 1 + more_at c cs } ∷ lexemes_from
    (more_at c cs + sharp_at c cs) (at + 1) cs)))) [
      | true ↦ parts 0 (at + 1) n cs (omega arith)
      | false ↦ elim (begins_comment c cs) as (λ b. AllByRecursion (IsPart n)
          (cond b [] (record { kind = kind_at c cs; start = at; end = at + 1 + more_at c cs } ∷ lexemes_from
          (more_at c cs + sharp_at c cs) (at + 1) cs))) [
            | true ↦ tt
            | false ↦ (here, parts (more_at c cs + sharp_at c cs) (at + 1) n cs (omega arith))
          ]
    ]

order : (skip at from : ℕ) (cs : List ℕ) → from ≤ at + skip → AreInOrder from (lexemes_from skip at cs)
order skip at from [] h = tt
order (suc k) at from (c ∷ cs) h = order k (at + 1) from cs (omega arith)
order zero at from (c ∷ cs) h =
    elim (is_blank c) as (λ b. AreInOrder from (cond b (lexemes_from 0 (at + 1) cs)
    (cond (begins_comment c cs) [] (record { kind = kind_at c cs; start = at; end = at + 1 + more_at c cs } ∷ lexemes_from
    (more_at c cs + sharp_at c cs) (at + 1) cs)))) [
      | true ↦ order 0 (at + 1) from cs (omega arith)
      | false ↦ elim (begins_comment c cs) as (λ b. AreInOrder from
          (cond b [] (record { kind = kind_at c cs; start = at; end = at + 1 + more_at c cs } ∷ lexemes_from
          (more_at c cs + sharp_at c cs) (at + 1) cs))) [
            | true ↦ tt
            | false ↦ (omega arith, order (more_at c cs + sharp_at c cs) (at + 1) (at + 1 + more_at c cs) cs (omega arith))
          ]
    ]

-- The lexemes of a line are nonempty parts of it, in order.
pub lexemes_are_slices : (line : List ℕ) → AreSlices line (lexemes_from 0 0 line)
lexemes_are_slices line = record {
  parts = All-from_recursion _ _ (parts 0 0 (length line) line (omega arith));
  order = order 0 0 0 line (omega arith);
}
