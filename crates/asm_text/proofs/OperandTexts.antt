-- The text of printed operands is cut into a word for each, and what the words may be read as are the
-- operands.
use Rattle.std.proofs.Common.{◌≡◌, refl, sym, ◌∙◌, ap, ℕ, suc, ◌<◌, ◌≤◌, ◌^◌, Bool, true, false, ◌&&◌, not, cond, leb, List, [], ◌∷◌, ◌++◌, length, Option, Some, None, arith, append_assoc, codes, lit<}
use Rattle.std.specs.Prelude.{if◌then◌else◌}
use Rattle.std.specs.List.{AllByRecursion}
use Rattle.std.specs.Fmt.{decimal}
use Rattle.std.proofs.lemmas.Fmt.{length-decimal-le}
use Rattle.std.proofs.lemmas.Bool.{le-leb}
use Rattle.std.proofs.lemmas.Option.{same_Some}
use Rattle.ia_insn.specs.declared.registers.Ar.TheVariants as ar
use Rattle.ia_program.proofs.Tests.{left, right}
use Rattle.asm_lexemes.specs.declared.limits.TheConstants.{NAME_LIMIT}
use Rattle.asm_lexemes.specs.declared.tokens.Token.{Token}
use Rattle.asm_lexemes.specs.declared.tokens.Token.TheVariants as t
use Rattle.asm_lexemes.specs.declared.lexeme.LexemeKind.{LexemeKind}
use Rattle.asm_lexemes.specs.declared.lexeme.LexemeKind.TheVariants as kind
use Rattle.asm_lexemes.specs.Bytes.{is_name_byte, is_digit_byte, has_only_plain}
use Rattle.asm_lexemes.proofs.Lexed.{lexed, is_end}
use Rattle.asm_lexemes.specs.Tokens.{token_of}
use Rattle.asm_lexemes.proofs.Lexing.{name_lexed}
use Rattle.asm_lexemes.proofs.Readings.{gr_reads, pr_reads, br_reads, decimal_reads, minus_reads, hex_reads, minus_hex_reads, decimal_is_name_bytes, decimal_is_plain, hex_is_plain, both_plain, decimal_lexed, minus_decimal_lexed, hex_lexed, minus_hex_lexed}
use Rattle.asm_forms.specs.declared.items.FormItem.{FormItem}
use Rattle.asm_forms.specs.declared.items.FormItem.TheVariants.{Is, Takes}
use Rattle.asm_forms.specs.Items.{fixed_token, filled, is_label_item}
use Rattle.asm_reading.specs.Lines.{KindAndText, tokens, name_of, label_name}
use Rattle.asm_canonical.proofs.Written.{IsPrinted}
use Rattle.asm_printing.specs.SlotTexts.{is_hex, label_text, token_text, operands_text}

-- fixed tokens and operands in turn, as they are printed.
abbrev pub item_hex : FormItem → Bool
item_hex (Is fixed) = false
item_hex (Takes kind n) = is_hex kind

abbrev pub tokens_text : ℕ → List FormItem → List Token → List ℕ
tokens_text target [] ts = []
tokens_text target (i ∷ is) [] = []
tokens_text target (i ∷ is) (x ∷ xs) = token_text target (item_hex i) x ++ tokens_text target is xs

pub filled_text : (target : ℕ) (is : List FormItem) (xs : List Token) → operands_text target is xs ≡ tokens_text target is (filled is xs)
filled_text target [] xs = refl
filled_text target (Is fixed ∷ is) xs = ap (λ cs. token_text target false (fixed_token fixed) ++ cs) (filled_text target is xs)
filled_text target (Takes kind n ∷ is) [] = refl
filled_text target (Takes kind n ∷ is) (x ∷ xs) = ap (λ cs. token_text target (is_hex kind) x ++ cs) (filled_text target is xs)

-- The kind of the word that an operand is printed as.
abbrev pub lexeme_kind_of : Token → LexemeKind
lexeme_kind_of (t.Gr n) = kind.Name
lexeme_kind_of (t.Pr n) = kind.Name
lexeme_kind_of (t.Br n) = kind.Name
lexeme_kind_of (t.Ar a) = kind.Name
lexeme_kind_of t.Predicates = kind.Name
lexeme_kind_of t.RotatingPredicates = kind.Name
lexeme_kind_of t.Ip = kind.Name
lexeme_kind_of t.Name = kind.Name
lexeme_kind_of (t.Number s m) = kind.Number
lexeme_kind_of _ = kind.Mark

-- A name or a number, which runs on where another one follows.
abbrev pub is_lexemelike : Token → Bool
is_lexemelike (t.Gr n) = true
is_lexemelike (t.Pr n) = true
is_lexemelike (t.Br n) = true
is_lexemelike (t.Ar a) = true
is_lexemelike t.Predicates = true
is_lexemelike t.RotatingPredicates = true
is_lexemelike t.Ip = true
is_lexemelike t.Name = true
is_lexemelike (t.Number s m) = true
is_lexemelike _ = false

-- No two neighbours would run into one another.
abbrev pub are_apart : List Token → Bool
are_apart [] = true
are_apart (x ∷ []) = true
are_apart (x ∷ y ∷ xs) = not (is_lexemelike x && is_lexemelike y) && are_apart (y ∷ xs)

-- The words that operands are printed as.
abbrev pub lexemes_of : ℕ → List FormItem → List Token → List KindAndText
lexemes_of target [] xs = []
lexemes_of target (i ∷ is) [] = []
lexemes_of target (i ∷ is) (x ∷ xs) = (lexeme_kind_of x, token_text target (item_hex i) x) ∷ lexemes_of target is xs

-- The operand at the position of the first label.
abbrev pub label_token : List FormItem → List Token → Option Token
label_token [] xs = None
label_token (i ∷ is) [] = None
label_token (i ∷ is) (x ∷ xs) = if is_label_item i then Some x else label_token is xs

-- The label of a bundle is a name that no line is too short for.
pub label_is_short : (n : ℕ) → n < 2 ^ 34 → length (label_text n) ≤ NAME_LIMIT
label_is_short n l = let s = length-decimal-le 11 n (lit< tt) (omega arith) (omega arith) in omega (arith, s)

label_reads : (n : ℕ) → n < 2 ^ 34 → token_of kind.Name (label_text n) ≡ t.Name
label_reads n l = let e : leb (length (label_text n)) NAME_LIMIT ≡ true = le-leb _ _ (label_is_short n l) in rw e refl

pub label_is_name : (n : ℕ) → n < 2 ^ 34 → name_of (label_text n) ≡ Some (label_text n)
label_is_name n l =
    let b : leb 1 (length (label_text n)) ≡ true = le-leb _ _ (omega arith) in
    let e : leb (length (label_text n)) NAME_LIMIT ≡ true = le-leb _ _ (label_is_short n l) in
    rw (b, e) refl

-- A letter and a number are one word.
numbered : (c n : ℕ) (cs : List ℕ) → is_name_byte c ≡ true → is_digit_byte c ≡ false → n < 2 ^ 64 → is_end cs ≡ true
    → lexed 0 (c ∷ decimal n ++ cs) ≡ (kind.Name, c ∷ decimal n) ∷ lexed 0 cs
numbered c n cs a d l e = name_lexed c (decimal n) cs a d (decimal_is_name_bytes n l) e

-- An operand's text before anything, or before an end where it would run on, is one word.
one_lexed : (target : ℕ) (hex : Bool) (x : Token) (cs : List ℕ) → target < 2 ^ 34 → IsPrinted x
    → (is_lexemelike x ≡ true → is_end cs ≡ true)
    → lexed 0 (token_text target hex x ++ cs) ≡ (lexeme_kind_of x, token_text target hex x) ∷ lexed 0 cs
one_lexed target hex (t.Gr n) cs l p e = numbered 114 n cs refl refl (omega arith) (e refl)
one_lexed target hex (t.Pr n) cs l p e = numbered 112 n cs refl refl (omega arith) (e refl)
one_lexed target hex (t.Br n) cs l p e = numbered 98 n cs refl refl (omega arith) (e refl)
one_lexed target hex (t.Ar ar.Unat) cs l p e = name_lexed 97 (codes "r.unat") cs refl refl refl (e refl)
one_lexed target hex (t.Ar ar.Pfs) cs l p e = name_lexed 97 (codes "r.pfs") cs refl refl refl (e refl)
one_lexed target hex (t.Ar ar.Lc) cs l p e = name_lexed 97 (codes "r.lc") cs refl refl refl (e refl)
one_lexed target hex (t.Ar ar.Ec) cs l p e = name_lexed 97 (codes "r.ec") cs refl refl refl (e refl)
one_lexed target hex t.Predicates cs l p e = name_lexed 112 (codes "r") cs refl refl refl (e refl)
one_lexed target hex t.RotatingPredicates cs l p e = name_lexed 112 (codes "r.rot") cs refl refl refl (e refl)
one_lexed target hex t.Ip cs l p e = name_lexed 105 (codes "p") cs refl refl refl (e refl)
one_lexed target hex t.Name cs l p e = numbered 76 target cs refl refl (omega arith) (e refl)
one_lexed target false (t.Number false m) cs l p e = decimal_lexed m cs p (e refl)
one_lexed target false (t.Number true m) cs l p e = minus_decimal_lexed m cs p (e refl)
one_lexed target true (t.Number false m) cs l p e = hex_lexed m cs p (e refl)
one_lexed target true (t.Number true m) cs l p e = minus_hex_lexed m cs p (e refl)
one_lexed target hex t.Equals cs l p e = refl
one_lexed target hex t.Comma cs l p e = refl
one_lexed target hex t.OpenBracket cs l p e = refl
one_lexed target hex t.CloseBracket cs l p e = refl
one_lexed target hex x cs l p e = absurd p

-- The word of an operand's text may be read as the operand.
one_reads : (target : ℕ) (hex : Bool) (x : Token) → target < 2 ^ 34 → IsPrinted x
    → token_of (lexeme_kind_of x) (token_text target hex x) ≡ x
one_reads target hex (t.Gr n) l p = gr_reads n p
one_reads target hex (t.Pr n) l p = pr_reads n p
one_reads target hex (t.Br n) l p = br_reads n p
one_reads target hex (t.Ar ar.Unat) l p = refl
one_reads target hex (t.Ar ar.Pfs) l p = refl
one_reads target hex (t.Ar ar.Lc) l p = refl
one_reads target hex (t.Ar ar.Ec) l p = refl
one_reads target hex t.Predicates l p = refl
one_reads target hex t.RotatingPredicates l p = refl
one_reads target hex t.Ip l p = refl
one_reads target hex t.Name l p = label_reads target l
one_reads target false (t.Number false m) l p = decimal_reads m p
one_reads target false (t.Number true m) l p = minus_reads m p
one_reads target true (t.Number false m) l p = hex_reads m p
one_reads target true (t.Number true m) l p = minus_hex_reads m p
one_reads target hex t.Equals l p = refl
one_reads target hex t.Comma l p = refl
one_reads target hex t.OpenBracket l p = refl
one_reads target hex t.CloseBracket l p = refl
one_reads target hex x l p = absurd p

-- The bytes of an operand's text are plain.
one_plain : (target : ℕ) (hex : Bool) (x : Token) → target < 2 ^ 34 → IsPrinted x → has_only_plain (token_text target hex x) ≡ true
one_plain target hex (t.Gr n) l p = decimal_is_plain n (omega arith)
one_plain target hex (t.Pr n) l p = decimal_is_plain n (omega arith)
one_plain target hex (t.Br n) l p = decimal_is_plain n (omega arith)
one_plain target hex (t.Ar ar.Unat) l p = refl
one_plain target hex (t.Ar ar.Pfs) l p = refl
one_plain target hex (t.Ar ar.Lc) l p = refl
one_plain target hex (t.Ar ar.Ec) l p = refl
one_plain target hex t.Name l p = decimal_is_plain target (omega arith)
one_plain target false (t.Number false m) l p = decimal_is_plain m p
one_plain target false (t.Number true m) l p = decimal_is_plain m p
one_plain target true (t.Number false m) l p = hex_is_plain m p
one_plain target true (t.Number true m) l p = hex_is_plain m p
one_plain target hex x l p = refl

pub operands_plain : (target : ℕ) (is : List FormItem) (xs : List Token) → target < 2 ^ 34 → AllByRecursion IsPrinted xs
    → has_only_plain (tokens_text target is xs) ≡ true
operands_plain target [] xs l p = refl
operands_plain target (i ∷ is) [] l p = refl
operands_plain target (i ∷ is) (x ∷ xs) l p =
    both_plain (token_text target (item_hex i) x) (tokens_text target is xs) (one_plain target (item_hex i) x l p.0)
    (operands_plain target is xs l p.1)

-- A fixed token ends what stands before it.
fixed_ends : (target : ℕ) (hex : Bool) (x : Token) (cs : List ℕ) → IsPrinted x → is_lexemelike x ≡ false
    → is_end (token_text target hex x ++ cs) ≡ true
fixed_ends target hex t.Equals cs p w = refl
fixed_ends target hex t.Comma cs p w = refl
fixed_ends target hex t.OpenBracket cs p w = refl
fixed_ends target hex t.CloseBracket cs p w = refl
fixed_ends target hex (t.Gr n) cs p w = cc
fixed_ends target hex (t.Pr n) cs p w = cc
fixed_ends target hex (t.Br n) cs p w = cc
fixed_ends target hex (t.Ar a) cs p w = cc
fixed_ends target hex t.Predicates cs p w = cc
fixed_ends target hex t.RotatingPredicates cs p w = cc
fixed_ends target hex t.Ip cs p w = cc
fixed_ends target hex t.Name cs p w = cc
fixed_ends target hex (t.Number s m) cs p w = cc
fixed_ends target hex x cs p w = absurd p

second : (a b : Bool) → a ≡ true → not (a && b) ≡ true → b ≡ false
second true true e h = sym h
second true false e h = refl
second false b e h = cc

end_after : (target : ℕ) (is : List FormItem) (x : Token) (xs : List Token) (cs : List ℕ) → length is ≡ length xs
    → AllByRecursion IsPrinted xs → are_apart (x ∷ xs) ≡ true → is_lexemelike x ≡ true → is_end cs ≡ true
    → is_end (tokens_text target is xs ++ cs) ≡ true
end_after target [] x [] cs n p a w e = e
end_after target [] x (y ∷ ys) cs n p a w e = cc
end_after target (i ∷ is) x [] cs n p a w e = cc
end_after target (i ∷ is) x (y ∷ ys) cs n p a w e =
    rw (append_assoc (token_text target (item_hex i) y) (tokens_text target is ys) cs)
    (fixed_ends target (item_hex i) y (tokens_text target is ys ++ cs) p.0
    (second (is_lexemelike x) (is_lexemelike y) w (left _ (are_apart (y ∷ ys)) a)))

apart_tail : (x : Token) (xs : List Token) → are_apart (x ∷ xs) ≡ true → are_apart xs ≡ true
apart_tail x [] a = refl
apart_tail x (y ∷ ys) a = right (not (is_lexemelike x && is_lexemelike y)) _ a

same_tail : (m n : ℕ) → suc m ≡ suc n → m ≡ n
same_tail m n h = cc

-- The text of the operands before an end is cut into a word for each operand.
pub operands_lexed : (target : ℕ) (is : List FormItem) (xs : List Token) (cs : List ℕ) → target < 2 ^ 34 → length is ≡ length xs
    → AllByRecursion IsPrinted xs → are_apart xs ≡ true → is_end cs ≡ true
    → lexed 0 (tokens_text target is xs ++ cs) ≡ lexemes_of target is xs ++ lexed 0 cs
operands_lexed target [] [] cs l n p a e = refl
operands_lexed target [] (x ∷ xs) cs l n p a e = cc
operands_lexed target (i ∷ is) [] cs l n p a e = cc
operands_lexed target (i ∷ is) (x ∷ xs) cs l n p a e =
    let m : length is ≡ length xs = same_tail _ _ n in
    rw (append_assoc (token_text target (item_hex i) x) (tokens_text target is xs) cs)
    (one_lexed target (item_hex i) x (tokens_text target is xs ++ cs) l p.0 (λ w. end_after target is x xs cs m p.1 a w e)
    ∙ ap (λ ws. (lexeme_kind_of x, token_text target (item_hex i) x) ∷ ws) (operands_lexed target is xs cs l m p.1 (apart_tail x xs a) e))

-- What these words may be read as.
pub lexemes_read : (target : ℕ) (is : List FormItem) (xs : List Token) (ws : List KindAndText) → target < 2 ^ 34 → length is ≡ length xs
    → AllByRecursion IsPrinted xs → tokens (lexemes_of target is xs ++ ws) ≡ xs ++ tokens ws
lexemes_read target [] [] ws l n p = refl
lexemes_read target [] (x ∷ xs) ws l n p = cc
lexemes_read target (i ∷ is) [] ws l n p = cc
lexemes_read target (i ∷ is) (x ∷ xs) ws l n p =
    ap (λ y. y ∷ tokens (lexemes_of target is xs ++ ws)) (one_reads target (item_hex i) x l p.0)
    ∙ ap (λ ys. x ∷ ys) (lexemes_read target is xs ws l (same_tail _ _ n) p.1)

-- The text of the operands before an end may be read as those operands.
pub operands_back : (target : ℕ) (is : List FormItem) (xs : List Token) (cs : List ℕ) → target < 2 ^ 34 → length is ≡ length xs
    → AllByRecursion IsPrinted xs → are_apart xs ≡ true → is_end cs ≡ true
    → tokens (lexed 0 (tokens_text target is xs ++ cs)) ≡ xs ++ tokens (lexed 0 cs)
operands_back target is xs cs l n p a e =
    ap tokens (operands_lexed target is xs cs l n p a e) ∙ lexemes_read target is xs (lexed 0 cs) l n p

name_at : (target : ℕ) (hex : Bool) (x : Token) → target < 2 ^ 34 → x ≡ t.Name
    → name_of (token_text target hex x) ≡ Some (label_text target)
name_at target hex x l e = rw e (label_is_name target l)

lexemes_name : (target : ℕ) (is : List FormItem) (xs : List Token) (ws : List KindAndText) → target < 2 ^ 34
    → label_token is xs ≡ Some t.Name → label_name is (lexemes_of target is xs ++ ws) ≡ Some (label_text target)
lexemes_name target [] xs ws l h = cc
lexemes_name target (i ∷ is) [] ws l h = cc
lexemes_name target (i ∷ is) (x ∷ xs) ws l h =
    elim (is_label_item i) as (λ b. cond b (Some x) (label_token is xs) ≡ Some t.Name
    → cond b (name_of (token_text target (item_hex i) x)) (label_name is (lexemes_of target is xs ++ ws)) ≡ Some (label_text target)) [
      | true ↦ λ k. name_at target (item_hex i) x l (same_Some x t.Name k)
      | false ↦ λ k. lexemes_name target is xs ws l k
    ] h

lexemes_no_name : (target : ℕ) (is : List FormItem) (xs : List Token) (ws : List KindAndText) → length is ≡ length xs
    → label_token is xs ≡ None → label_name is (lexemes_of target is xs ++ ws) ≡ None
lexemes_no_name target [] xs ws n h = refl
lexemes_no_name target (i ∷ is) [] ws n h = cc
lexemes_no_name target (i ∷ is) (x ∷ xs) ws n h =
    elim (is_label_item i) as (λ b. cond b (Some x) (label_token is xs) ≡ None
    → cond b (name_of (token_text target (item_hex i) x)) (label_name is (lexemes_of target is xs ++ ws)) ≡ None) [
      | true ↦ λ k. cc
      | false ↦ λ k. lexemes_no_name target is xs ws (same_tail _ _ n) k
    ] h

-- Where a name is printed at the position of the label, the name of the line is the label of the target.
pub label_found : (target : ℕ) (is : List FormItem) (xs : List Token) (cs : List ℕ) → target < 2 ^ 34 → length is ≡ length xs
    → AllByRecursion IsPrinted xs → are_apart xs ≡ true → is_end cs ≡ true → label_token is xs ≡ Some t.Name
    → label_name is (lexed 0 (tokens_text target is xs ++ cs)) ≡ Some (label_text target)
label_found target is xs cs l n p a e h =
    ap (label_name is) (operands_lexed target is xs cs l n p a e) ∙ lexemes_name target is xs (lexed 0 cs) l h

-- Where there is no position of a label, the line has no name.
pub label_missing : (target : ℕ) (is : List FormItem) (xs : List Token) (cs : List ℕ) → target < 2 ^ 34 → length is ≡ length xs
    → AllByRecursion IsPrinted xs → are_apart xs ≡ true → is_end cs ≡ true → label_token is xs ≡ None
    → label_name is (lexed 0 (tokens_text target is xs ++ cs)) ≡ None
label_missing target is xs cs l n p a e h =
    ap (label_name is) (operands_lexed target is xs cs l n p a e) ∙ lexemes_no_name target is xs (lexed 0 cs) n h
