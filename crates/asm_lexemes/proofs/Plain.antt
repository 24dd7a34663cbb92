-- Which bytes of a line are plain, lexeme by lexeme.
use Rattle.std.proofs.Common.{◌≡◌, refl, sym, ◌∙◌, ap, ℕ, ◌+◌, ◌<◌, Bool, true, false, ◌&&◌, cond, eqb, List, [], ◌∷◌, length, take, drop, get_or, arith, add-one}
use Rattle.std.proofs.lemmas.Bool.{eqb-true}
use Rattle.std.proofs.lemmas.List.{at_drop_more, drop-drop, take-append-drop}
use Rattle.std.proofs.lemmas.List.Folds.{list_all-append}
use Rattle.asm_lexemes.specs.declared.lexeme.LexemeKind.{LexemeKind}
use Rattle.asm_lexemes.specs.declared.lexeme.LexemeKind.TheVariants as lexeme
use Rattle.asm_lexemes.specs.Bytes.{is_plain_byte, is_digit_byte, is_name_byte, has_only_plain, begins_digit, begins_with}
use Rattle.asm_lexemes.specs.Lexemes.{name_run, has_quote, kind_at, more_at, has_sharp, sharp_at, is_plain_lexeme, pick}
use Rattle.asm_lexemes.proofs.Lexing.{digit_is_name}
use Rattle.asm_lexemes.proofs.Readings.{name_byte_is_plain}

run_plain : (cs : List ℕ) → has_only_plain cs ≡ has_only_plain (drop (name_run cs) cs)
run_plain [] = refl
run_plain (c ∷ cs) =
    elim (is_name_byte c) as (λ b. is_name_byte c ≡ b → has_only_plain (c ∷ cs)
    ≡ has_only_plain (drop (cond b (name_run cs + 1) 0) (c ∷ cs))) [
      | true ↦ λ e. rw (name_byte_is_plain c e, add-one) (run_plain cs)
      | false ↦ λ e. refl
    ] refl

-- The sharp after a name is plain.
sharp_plain : (cs : List ℕ) → has_only_plain (drop (cond (begins_with 35 cs) 1 0) cs) ≡ has_only_plain cs
sharp_plain [] = refl
sharp_plain (c ∷ cs) =
    elim (eqb c 35) as (λ b. eqb c 35 ≡ b → has_only_plain (drop (cond b 1 0) (c ∷ cs)) ≡ has_only_plain (c ∷ cs)) [
      | true ↦ λ e. rw (eqb-true c 35 e) refl
      | false ↦ λ e. refl
    ] refl

no_run : (b : Bool) (c : ℕ) → pick (cond b lexeme.Quoted lexeme.Mark) true true false false ≡ true → is_plain_byte c ≡ true
no_run true c h = cc
no_run false c h = cc

-- A name or a number begins with a plain byte.
plain_first : (c : ℕ) (cs : List ℕ) → pick (kind_at c cs) true true false false ≡ true → is_plain_byte c ≡ true
plain_first c cs =
    elim (is_digit_byte c) as (λ b. is_digit_byte c ≡ b → pick (cond b lexeme.Number
    (cond (is_name_byte c) lexeme.Name (cond (eqb c 45 && begins_digit cs) lexeme.Number
    (cond (eqb c 34 && has_quote cs) lexeme.Quoted lexeme.Mark)))) true true false false ≡ true → is_plain_byte c ≡ true) [
      | true ↦ λ e h. name_byte_is_plain c (digit_is_name c e)
      | false ↦ λ e. elim (is_name_byte c) as (λ b. is_name_byte c ≡ b
          → pick (cond b lexeme.Name (cond (eqb c 45 && begins_digit cs) lexeme.Number
          (cond (eqb c 34 && has_quote cs) lexeme.Quoted lexeme.Mark))) true true false false ≡ true → is_plain_byte c ≡ true) [
            | true ↦ λ f h. name_byte_is_plain c f
            | false ↦ λ f. elim (eqb c 45) as (λ b. eqb c 45 ≡ b → pick
                (cond (b && begins_digit cs) lexeme.Number (cond (eqb c 34 && has_quote cs) lexeme.Quoted lexeme.Mark)) true true false false
                ≡ true → is_plain_byte c ≡ true) [
                  | true ↦ λ g h. rw (eqb-true c 45 g) refl
                  | false ↦ λ g h. no_run (eqb c 34 && has_quote cs) c h
                ] refl
          ] refl
    ] refl

split : (p : Bool) (m : ℕ) (cs : List ℕ) → (p && has_only_plain cs)
    ≡ ((p && has_only_plain (take m cs)) && has_only_plain (drop (m + 0) cs))
split false m cs = refl
split true m cs =
    let z : m + 0 ≡ m = omega arith in
    rw z (ap has_only_plain (sym (take-append-drop m cs)) ∙ list_all-append is_plain_byte (take m cs) (drop m cs))

-- Of a lexeme, what follows it and its own bytes.
by_kind : (k : LexemeKind) (c m : ℕ) (cs : List ℕ) → k ≡ kind_at c cs → m ≡ more_at c cs
    → has_only_plain (c ∷ cs) ≡ (is_plain_lexeme k c (take m cs) && has_only_plain (drop (m + cond (has_sharp k (drop m cs)) 1 0) cs))
by_kind lexeme.Name c m cs e f =
    let p : is_plain_byte c ≡ true = plain_first c cs (rw (sym e) refl) in
    let r : m ≡ name_run cs = f ∙ rw (sym e) refl in
    rw (p, r) (run_plain cs ∙ sym (sharp_plain (drop (name_run cs) cs))
    ∙ ap has_only_plain (drop-drop (cond (begins_with 35 (drop (name_run cs) cs)) 1 0) (name_run cs) cs))
by_kind lexeme.Number c m cs e f =
    let p : is_plain_byte c ≡ true = plain_first c cs (rw (sym e) refl) in
    let r : m ≡ name_run cs = f ∙ rw (sym e) refl in
    let z : name_run cs + 0 ≡ name_run cs = omega arith in
    rw (p, r, z) (run_plain cs)
by_kind lexeme.Quoted c m cs e f = split (is_plain_byte c) m cs
by_kind lexeme.Mark c m cs e f = split (is_plain_byte c) m cs

-- A step of cutting a line into lexemes, where the rest of the line is `rest`.
pub plain_turn : (line rest : List ℕ) (at more sharp : ℕ) (k : LexemeKind) (b : Bool) → at < length line → rest ≡ drop (at + 1) line
    → k ≡ kind_at (get_or line at 0) rest → more ≡ more_at (get_or line at 0) rest → sharp ≡ sharp_at (get_or line at 0) rest
    → b ≡ is_plain_lexeme k (get_or line at 0) (take more rest)
    → has_only_plain (drop at line) ≡ (b && has_only_plain (drop (at + 1 + more + sharp) line))
plain_turn line rest at more sharp k b h er ek em es eb =
    let c = get_or line at 0 in
    let s : sharp ≡ cond (has_sharp k (drop more rest)) 1 0 =
    es ∙ ap (λ j. cond (has_sharp j (drop (more_at c rest) rest)) 1 0) (sym ek)
    ∙ ap (λ m. cond (has_sharp k (drop m rest)) 1 0) (sym em) in
    let step : has_only_plain (c ∷ rest) ≡ (b && has_only_plain (drop (more + sharp) rest)) = rw (eb, s) (by_kind k c more rest ek em) in
    let reach : at + 1 + more + sharp ≡ at + 1 + (more + sharp) = omega arith in
    let same : drop (more + sharp) rest ≡ drop (at + 1 + more + sharp) line =
    ap (drop (more + sharp)) er ∙ drop-drop (more + sharp) (at + 1) line ∙ ap (λ n. drop n line) (sym reach) in
    at_drop_more has_only_plain line at 0 h ∙ ap (λ cs. has_only_plain (c ∷ cs)) (sym er) ∙ step ∙ ap (λ cs. b && has_only_plain cs) same
