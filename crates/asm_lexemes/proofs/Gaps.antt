-- Only gaps stand between the lexemes of a line.
use Rattle.std.proofs.Common.{◌≡◌, refl, sym, ◌∙◌, ap, ℕ, zero, suc, ◌+◌, ◌-◌, ◌≤◌, Bool, true, false, ◌&&◌, cond, eqb, List, [], ◌∷◌, ◌++◌, length, take, drop, slice_range, arith, append_assoc}
use Rattle.std.specs.List.{list_all}
use Rattle.std.proofs.lemmas.Bool.Decides.{nat_tests}
use Rattle.std.proofs.lemmas.List.{take-append-drop, length-append, length-take-le, length-drop, drop-drop}
use Rattle.std.proofs.Math.Seq.{append_snoc, drop-append_seam, take-append_seam}
use Rattle.asm_lexemes.specs.declared.lexeme.Lexeme.{Lexeme}
use Rattle.asm_lexemes.specs.declared.lexeme.LexemeKind.{LexemeKind}
use Rattle.asm_lexemes.specs.declared.lexeme.LexemeKind.TheVariants as lexeme
use Rattle.asm_lexemes.specs.Bytes.{is_blank}
use Rattle.asm_lexemes.specs.Lexemes.{begins_comment, kind_at, more_at, has_sharp, sharp_at, lexemes_from}
use Rattle.asm_lexemes.specs.Slices.{is_name, without_sharp, is_gap, is_rest, LeavesOutGaps}
use Rattle.asm_lexemes.proofs.Cutting.{skipped}
use Rattle.asm_lexemes.proofs.Slicing.{more_le}

not_sharp : (c : ℕ) → is_blank c ≡ true → eqb c 35 ≡ false
not_sharp c h = grind (arith, nat_tests)

slash_is_no_sharp : (c : ℕ) (cs : List ℕ) → begins_comment c cs ≡ true → eqb c 35 ≡ false
slash_is_no_sharp c cs h =
    elim (eqb c 47) as (λ b. eqb c 47 ≡ b → eqb c 35 ≡ false) [
      | true ↦ λ e. grind (arith, nat_tests)
      | false ↦ λ e. let f : begins_comment c cs ≡ false = rw e refl in cc
    ] refl

all_snoc : (xs : List ℕ) (c : ℕ) → list_all is_blank xs ≡ true → is_blank c ≡ true → list_all is_blank (xs ++ c ∷ []) ≡ true
all_snoc [] c h b = rw b refl
all_snoc (x ∷ xs) c h b =
    elim (is_blank x) as (λ t. (t && list_all is_blank xs) ≡ true → (t && list_all is_blank (xs ++ c ∷ [])) ≡ true)
    [ true ↦ λ k. all_snoc xs c k b | false ↦ λ k. k ] h

-- A gap with one more blank.
gap_more : (after : Bool) (gap : List ℕ) (c : ℕ) → is_gap after gap ≡ true → is_blank c ≡ true → is_gap after (gap ++ c ∷ []) ≡ true
gap_more false gap c h b = all_snoc gap c h b
gap_more true [] c h b = rw (not_sharp c b, b) refl
gap_more true (x ∷ xs) c h b =
    elim (eqb x 35) as (λ t. list_all is_blank (cond t xs (x ∷ xs)) ≡ true
    → list_all is_blank (cond t (xs ++ c ∷ []) (x ∷ xs ++ c ∷ [])) ≡ true) [
      | true ↦ λ k. all_snoc xs c k b
      | false ↦ λ k. all_snoc (x ∷ xs) c k b
    ] h

rest_after : (xs cs : List ℕ) → list_all is_blank xs ≡ true → is_rest cs ≡ true → is_rest (xs ++ cs) ≡ true
rest_after [] cs h r = r
rest_after (x ∷ xs) cs h r =
    elim (is_blank x) as (λ t. (t && list_all is_blank xs) ≡ true → cond t (is_rest (xs ++ cs)) (begins_comment x (xs ++ cs)) ≡ true)
    [ true ↦ λ k. rest_after xs cs k r | false ↦ λ k. cc ] h

-- What may stand at the end: nothing, or a comment.
abbrev is_last : List ℕ → Bool
is_last [] = true
is_last (c ∷ cs) = begins_comment c cs

last_rest : (cs : List ℕ) → is_last cs ≡ true → is_rest cs ≡ true
last_rest [] h = refl
last_rest (c ∷ cs) h = elim (is_blank c) as (λ t. is_blank c ≡ t → cond t (is_rest cs) (begins_comment c cs) ≡ true) [
  | true ↦ λ e. let s : eqb c 47 ≡ false = grind (arith, nat_tests) in let f : begins_comment c cs ≡ false = rw s refl in cc
  | false ↦ λ e. h
] refl

last_sharp : (cs : List ℕ) → is_last cs ≡ true → without_sharp true cs ≡ cs
last_sharp [] h = refl
last_sharp (c ∷ cs) h = rw (slash_is_no_sharp c cs h) refl

-- A gap and then nothing or a comment.
gap_last : (after : Bool) (gap cs : List ℕ) → is_gap after gap ≡ true → is_last cs ≡ true → is_rest (without_sharp after (gap ++ cs)) ≡ true
gap_last false gap cs h l = rest_after gap cs h (last_rest cs l)
gap_last true [] cs h l = ap is_rest (last_sharp cs l) ∙ last_rest cs l
gap_last true (x ∷ xs) cs h l =
    elim (eqb x 35) as (λ t. list_all is_blank (cond t xs (x ∷ xs)) ≡ true → is_rest (cond t (xs ++ cs) (x ∷ xs ++ cs)) ≡ true) [
      | true ↦ λ k. rest_after xs cs k (last_rest cs l)
      | false ↦ λ k. rest_after (x ∷ xs) cs k (last_rest cs l)
    ] h

-- The sharp after a lexeme is a gap of its own.
sharp_gap : (k : LexemeKind) (rest : List ℕ) → (is_gap (is_name k) (take (cond (has_sharp k rest) 1 0) rest) ≡ true)
    × (length (take (cond (has_sharp k rest) 1 0) rest) ≡ cond (has_sharp k rest) 1 0)
sharp_gap lexeme.Name [] = (refl, refl)
sharp_gap lexeme.Name (c ∷ cs) =
    elim (eqb c 35) as (λ t. eqb c 35 ≡ t → (is_gap true (take (cond (eqb c 35) 1 0) (c ∷ cs)) ≡ true)
    × (length (take (cond (eqb c 35) 1 0) (c ∷ cs)) ≡ cond (eqb c 35) 1 0)) [
      | true ↦ λ e. (rw (e, e) refl, rw e refl)
      | false ↦ λ e. (rw e refl, rw e refl)
    ] refl
sharp_gap lexeme.Number rest = (refl, refl)
sharp_gap lexeme.Quoted rest = (refl, refl)
sharp_gap lexeme.Mark rest = (refl, refl)

middle : (done gap cs : List ℕ) (at : ℕ) → at ≡ length done + length gap → slice_range (done ++ (gap ++ cs)) (length done) at ≡ gap
middle done gap cs at e =
    let n : at - length done ≡ length gap = omega arith in
    rw (n, drop-append_seam done (gap ++ cs)) (take-append_seam gap cs)

-- A lexeme cut from the line, and the sharp after it.
cut_lexeme : (done gap cs : List ℕ) (c m s : ℕ) → done ++ (gap ++ c ∷ cs)
    ≡ (done ++ (gap ++ c ∷ take m cs)) ++ (take s (drop m cs) ++ drop (m + s) cs)
cut_lexeme done gap cs c m s =
    let two : take s (drop m cs) ++ drop (m + s) cs ≡ drop m cs =
    ap (λ x. take s (drop m cs) ++ x) (sym (drop-drop s m cs)) ∙ take-append-drop s (drop m cs) in
    let one : take m cs ++ (take s (drop m cs) ++ drop (m + s) cs) ≡ cs = ap (λ x. take m cs ++ x) two ∙ take-append-drop m cs in
    ap (λ x. done ++ (gap ++ c ∷ x)) (sym one)
    ∙ ap (λ x. done ++ x) (sym (append_assoc gap (c ∷ take m cs) (take s (drop m cs) ++ drop (m + s) cs)))
    ∙ sym (append_assoc done (gap ++ c ∷ take m cs) (take s (drop m cs) ++ drop (m + s) cs))

length_lexeme : (done gap cs : List ℕ) (c m at : ℕ) → at ≡ length done + length gap → m ≤ length cs
    → length (done ++ (gap ++ c ∷ take m cs)) ≡ at + 1 + m
length_lexeme done gap cs c m at e h =
    omega (arith, length-append done (gap ++ c ∷ take m cs), length-append gap (c ∷ take m cs), length-take-le m cs h)

gaps : (n at : ℕ) (line done gap cs : List ℕ) (after : Bool) → length cs ≤ n → line ≡ done ++ (gap ++ cs) → at ≡ length done + length gap
    → is_gap after gap ≡ true
    → LeavesOutGaps line after (length done) (lexemes_from 0 at cs)
gaps n at line done gap [] after h e a g = rw (e, drop-append_seam done (gap ++ [])) (gap_last after gap [] g refl)
gaps zero at line done gap (c ∷ cs) after h e a g = absurd (omega arith)
gaps (suc n) at line done gap (c ∷ cs) after h e a g =
    let w : Lexeme = record { kind = kind_at c cs; start = at; end = at + 1 + more_at c cs } in
    let next = lexemes_from (more_at c cs + sharp_at c cs) (at + 1) cs in
    let blank : is_blank c ≡ true → LeavesOutGaps line after (length done) (lexemes_from 0 (at + 1) cs) = λ b.
    gaps n (at + 1) line done (gap ++ c ∷ []) cs after (omega arith) (e ∙ ap (λ x. done ++ x) (sym (append_snoc gap c cs)))
    (omega (arith, length-append gap (c ∷ []))) (gap_more after gap c g b) in
    let comment : begins_comment c cs ≡ true → LeavesOutGaps line after (length done) [] = λ m.
    rw (e, drop-append_seam done (gap ++ c ∷ cs)) (gap_last after gap (c ∷ cs) g m) in
    let here : LeavesOutGaps line after (length done) (w ∷ next) =
    let m = more_at c cs in
    let s = sharp_at c cs in
    let k = kind_at c cs in
    let sharp = sharp_gap k (drop m cs) in
    let done' = done ++ (gap ++ c ∷ take m cs) in
    let gap' = take s (drop m cs) in
    let reach : length done' ≡ at + 1 + m = length_lexeme done gap cs c m at a (more_le c cs) in
    let rest : LeavesOutGaps line (is_name k) (length done') (lexemes_from 0 (at + 1 + (m + s)) (drop (m + s) cs)) =
    gaps n (at + 1 + (m + s)) line done' gap' (drop (m + s) cs) (is_name k) (omega (arith, length-drop (m + s) cs))
    (e ∙ cut_lexeme done gap cs c m s) (omega (arith, reach, sharp.1)) sharp.0 in
    (rw e (ap (is_gap after) (middle done gap (c ∷ cs) at a) ∙ g), rw (← reach, skipped (m + s) (at + 1) cs) rest) in
    elim (is_blank c) as (λ b. is_blank c ≡ b → LeavesOutGaps line after (length done)
    (cond b (lexemes_from 0 (at + 1) cs) (cond (begins_comment c cs) [] (w ∷ next)))) [
      | true ↦ λ b. blank b
      | false ↦ λ b. elim (begins_comment c cs) as (λ x. begins_comment c cs ≡ x
          → LeavesOutGaps line after (length done) (cond x [] (w ∷ next))) [
            | true ↦ λ m. comment m
            | false ↦ λ m. here
          ] refl
    ] refl

-- The lexemes of a line leave out only gaps.
pub lexemes_leave_out_gaps : (line : List ℕ) → LeavesOutGaps line false 0 (lexemes_from 0 0 line)
lexemes_leave_out_gaps line = gaps (length line) 0 line [] [] line false (omega arith) refl refl refl
