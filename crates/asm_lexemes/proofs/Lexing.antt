-- A name or a number before an end is one lexeme.
use Rattle.std.proofs.Common.{◌≡◌, refl, sym, ◌∙◌, ℕ, ◌+◌, Bool, true, false, cond, eqb, List, [], ◌∷◌, ◌++◌, length, take, arith}
use Rattle.std.specs.List.{list_all}
use Rattle.std.proofs.lemmas.Bool.Decides.{nat_tests}
use Rattle.std.proofs.Math.Seq.{drop-append_seam, take-append_seam}
use Rattle.ia_program.proofs.Tests.{left, right}
use Rattle.asm_lexemes.specs.declared.lexeme.LexemeKind.{LexemeKind}
use Rattle.asm_lexemes.specs.declared.lexeme.LexemeKind.TheVariants as lexeme
use Rattle.asm_lexemes.specs.Bytes.{is_blank, begins_with, is_name_byte, is_digit_byte}
use Rattle.asm_lexemes.specs.Lexemes.{begins_comment, name_run, kind_at, more_at, sharp_at}
use Rattle.asm_lexemes.proofs.Lexed.{lexed, is_end}

-- A run of name bytes before such an end.
run_is : (n cs : List ℕ) → list_all is_name_byte n ≡ true → is_end cs ≡ true → name_run (n ++ cs) ≡ length n
run_is [] [] h e = refl
run_is [] (c ∷ cs) h e =
    elim (is_name_byte c) as (λ b. cond b false (cond (eqb c 35) false true) ≡ true → cond b (name_run cs + 1) 0 ≡ 0)
    [ true ↦ λ f. cc | false ↦ λ f. refl ] e
run_is (c ∷ n) cs h e = rw (left (is_name_byte c) _ h, run_is n cs (right (is_name_byte c) _ h) e) (omega arith)

skip_all : (n cs : List ℕ) → lexed (length n) (n ++ cs) ≡ lexed 0 cs
skip_all [] cs = refl
skip_all (c ∷ n) cs = skip_all n cs

not_blank : (c : ℕ) → is_name_byte c ≡ true → is_blank c ≡ false
not_blank c h = grind (arith, nat_tests)

not_comment : (c : ℕ) (cs : List ℕ) → is_name_byte c ≡ true → begins_comment c cs ≡ false
not_comment c cs h = let e : eqb c 47 ≡ false = grind (arith, nat_tests) in rw e refl

both : (b : Bool) → cond b false false ≡ true → true ≡ false
both true f = sym f
both false f = sym f

no_sharp : (cs : List ℕ) → is_end cs ≡ true → begins_with 35 cs ≡ false
no_sharp [] e = refl
no_sharp (c ∷ cs) e =
    elim (eqb c 35) as (λ b. cond (is_name_byte c) false (cond b false true) ≡ true → b ≡ false)
    [ true ↦ λ f. both (is_name_byte c) f | false ↦ λ f. refl ] e

pieces : (c : ℕ) (n cs : List ℕ) (k : LexemeKind) (m s : ℕ) → {j : LexemeKind} → k ≡ j → m ≡ length n → s ≡ 0
    → (k, c ∷ take m (n ++ cs)) ∷ lexed (m + s) (n ++ cs) ≡ (j, c ∷ n) ∷ lexed 0 cs
pieces c n cs k m s ek em es =
    let z : length n + 0 ≡ length n = omega arith in
    rw (ek, em, es, z, take-append_seam n cs, skip_all n cs) refl

pub name_lexed : (c : ℕ) (n cs : List ℕ) → is_name_byte c ≡ true → is_digit_byte c ≡ false → list_all is_name_byte n ≡ true
    → is_end cs ≡ true
    → lexed 0 (c ∷ n ++ cs) ≡ (lexeme.Name, c ∷ n) ∷ lexed 0 cs
name_lexed c n cs a d h e =
    let k : kind_at c (n ++ cs) ≡ lexeme.Name = rw (a, d) refl in
    let r = run_is n cs h e in
    let s : sharp_at c (n ++ cs) ≡ 0 = rw (k, r, drop-append_seam n cs, no_sharp cs e) refl in
    let m : more_at c (n ++ cs) ≡ length n = rw k r in
    let all : lexed 0 (c ∷ n ++ cs) ≡ (kind_at c (n ++ cs), c ∷ take (more_at c (n ++ cs)) (n ++ cs)) ∷ lexed
    (more_at c (n ++ cs) + sharp_at c (n ++ cs)) (n ++ cs) = rw (not_blank c a, not_comment c (n ++ cs) a) refl in
    all ∙ pieces c n cs (kind_at c (n ++ cs)) (more_at c (n ++ cs)) (sharp_at c (n ++ cs)) k m s

pub digit_is_name : (c : ℕ) → is_digit_byte c ≡ true → is_name_byte c ≡ true
digit_is_name c h = rw h refl

swap : (c : ℕ) (rest : List ℕ) (k : LexemeKind) (m s : ℕ) → k ≡ lexeme.Number → m ≡ name_run rest → s ≡ 0
    → (k, c ∷ take m rest) ∷ lexed (m + s) rest ≡ (lexeme.Number, c ∷ take (name_run rest) rest) ∷ lexed (name_run rest + 0) rest
swap c rest k m s ek em es = rw (ek, em, es) refl

-- The step of a number.
number_step : (c : ℕ) (rest : List ℕ) → is_blank c ≡ false → begins_comment c rest ≡ false → kind_at c rest ≡ lexeme.Number
    → lexed 0 (c ∷ rest) ≡ (lexeme.Number, c ∷ take (name_run rest) rest) ∷ lexed (name_run rest + 0) rest
number_step c rest b m k =
    let s : sharp_at c rest ≡ 0 = rw k refl in
    let r : more_at c rest ≡ name_run rest = rw k refl in
    let all : lexed 0 (c ∷ rest) ≡ (kind_at c rest, c ∷ take (more_at c rest) rest) ∷ lexed (more_at c rest + sharp_at c rest) rest =
    rw (b, m) refl in
    all ∙ swap c rest (kind_at c rest) (more_at c rest) (sharp_at c rest) k r s

pub number_lexed : (c : ℕ) (n cs : List ℕ) → is_digit_byte c ≡ true → list_all is_name_byte n ≡ true → is_end cs ≡ true
    → lexed 0 (c ∷ n ++ cs) ≡ (lexeme.Number, c ∷ n) ∷ lexed 0 cs
number_lexed c n cs d h e =
    let a = digit_is_name c d in
    let k : kind_at c (n ++ cs) ≡ lexeme.Number = rw d refl in
    number_step c (n ++ cs) (not_blank c a) (not_comment c (n ++ cs) a) k
    ∙ pieces c n cs lexeme.Number (name_run (n ++ cs)) 0 refl (run_is n cs h e) refl

pub minus_lexed : (c : ℕ) (n cs : List ℕ) → is_digit_byte c ≡ true → list_all is_name_byte n ≡ true → is_end cs ≡ true
    → lexed 0 (45 ∷ c ∷ n ++ cs) ≡ (lexeme.Number, 45 ∷ c ∷ n) ∷ lexed 0 cs
minus_lexed c n cs d h e =
    let k : kind_at 45 (c ∷ n ++ cs) ≡ lexeme.Number = rw d refl in
    let a : list_all is_name_byte (c ∷ n) ≡ true = rw (digit_is_name c d) h in
    number_step 45 (c ∷ n ++ cs) refl refl k ∙ pieces 45 (c ∷ n) cs lexeme.Number (name_run (c ∷ n ++ cs)) 0 refl (run_is (c ∷ n) cs a e)
    refl
