-- The texts of registers, numbers and labels are read back.
use Rattle.std.proofs.Common.{◌≡◌, refl, sym, ◌∙◌, ap, ℕ, suc, ◌<◌, ◌≤◌, ◌^◌, Bool, true, false, cond, eqb, ltb, leb, List, [], ◌∷◌, ◌++◌, length, Some, arith, lit<}
use Rattle.std.specs.List.{list_all}
use Rattle.std.specs.Fmt.{decimal, digits}
use Rattle.std.specs.Char.{digit_value}
use Rattle.std.specs.Str.Parse.{digits_value, AllDigits, IsNumeral}
use Rattle.std.proofs.lemmas.Fmt.{digits_is_IsNumeral, decimal_is_IsNumeral, length-decimal-le}
use Rattle.std.proofs.lemmas.Bool.Decides.{nat_tests}
use Rattle.std.proofs.lemmas.Bool.{eqb-true, le-leb}
use Rattle.std.proofs.lemmas.Str.Parse.{digit_from_value}
use Rattle.ia_program.proofs.Tests.{left, right, all_below, below}
use Rattle.asm_lexemes.specs.declared.limits.TheConstants.{NAME_LIMIT}
use Rattle.asm_lexemes.specs.declared.tokens.Token.{Token}
use Rattle.asm_lexemes.specs.declared.tokens.Token.TheVariants as t
use Rattle.asm_lexemes.specs.declared.lexeme.LexemeKind.TheVariants as lexeme
use Rattle.asm_lexemes.specs.Bytes.{is_name_byte, is_digit_byte, is_plain_byte, has_only_plain}
use Rattle.asm_lexemes.proofs.Lexed.{lexed, is_end}
use Rattle.asm_lexemes.specs.Numbers.{number_token, unsigned_token, based, are_digits, numeral}
use Rattle.asm_lexemes.specs.Tokens.{token_of, name_token}
use Rattle.asm_lexemes.proofs.Lexing.{digit_is_name, number_lexed, minus_lexed}
use Rattle.asm_lexemes.proofs.Numerals.{is_held}

abbrev gr_of : Token → ℕ
gr_of (t.Gr n) = suc n
gr_of _ = 0

abbrev pr_of : Token → ℕ
pr_of (t.Pr n) = suc n
pr_of _ = 0

abbrev br_of : Token → ℕ
br_of (t.Br n) = suc n
br_of _ = 0

abbrev is_gr : ℕ → Bool
is_gr n = eqb (gr_of (name_token (114 ∷ decimal n))) (suc n)

abbrev is_pr : ℕ → Bool
is_pr n = eqb (pr_of (name_token (112 ∷ decimal n))) (suc n)

abbrev is_br : ℕ → Bool
is_br n = eqb (br_of (name_token (98 ∷ decimal n))) (suc n)

grs : all_below is_gr 128 ≡ true
unfolding digits
grs = refl

prs : all_below is_pr 64 ≡ true
unfolding digits
prs = refl

brs : all_below is_br 8 ≡ true
unfolding digits
brs = refl

gr_from : (n : ℕ) (x : Token) → gr_of x ≡ suc n → x ≡ t.Gr n
gr_from n (t.Gr m) h = cc
gr_from n x h = cc

pr_from : (n : ℕ) (x : Token) → pr_of x ≡ suc n → x ≡ t.Pr n
pr_from n (t.Pr m) h = cc
pr_from n x h = cc

br_from : (n : ℕ) (x : Token) → br_of x ≡ suc n → x ≡ t.Br n
br_from n (t.Br m) h = cc
br_from n x h = cc

-- `r` and a number below 128
pub gr_reads : (n : ℕ) → n < 128 → token_of lexeme.Name (114 ∷ decimal n) ≡ t.Gr n
gr_reads n h = gr_from n _ (eqb-true _ _ (below is_gr 128 n grs h))

-- `p` and a number below 64
pub pr_reads : (n : ℕ) → n < 64 → token_of lexeme.Name (112 ∷ decimal n) ≡ t.Pr n
pr_reads n h = pr_from n _ (eqb-true _ _ (below is_pr 64 n prs h))

-- `b` and a number below 8
pub br_reads : (n : ℕ) → n < 8 → token_of lexeme.Name (98 ∷ decimal n) ≡ t.Br n
br_reads n h = br_from n _ (eqb-true _ _ (below is_br 8 n brs h))

digits_are : (base : ℕ) (ds : List ℕ) → AllDigits base ds → are_digits base ds ≡ true
digits_are base [] h = refl
digits_are base (c ∷ cs) h =
    let e : ltb (digit_value c) base ≡ true = le-leb (suc (digit_value c)) base h.0 in rw (e, digits_are base cs h.1) refl

pub is_decimal_byte : (c : ℕ) → digit_value c < 10 → is_digit_byte c ≡ true
is_decimal_byte c h = let r = digit_from_value c h in grind (arith, nat_tests, r)

pub is_hex_byte : (c : ℕ) → digit_value c < 16 → is_name_byte c ≡ true
is_hex_byte c h = grind (arith, nat_tests)

based_reads : (s : Bool) (base : ℕ) (ds : List ℕ) (m : ℕ) → m < 18446744073709551616 → IsNumeral base ds → digits_value base ds ≡ m
    → based s base ds ≡ t.Number s m
based_reads s base [] m l h e = absurd (omega (arith, h.0))
based_reads s base (c ∷ cs) m l h e =
    let n : numeral base (c ∷ cs) ≡ Some m = sym (is_held base (c ∷ cs) (omega arith)) ∙ ap (λ x. Some x) e in
    rw (digits_are base (c ∷ cs) h.1, n) refl

unsigned_decimal : (s : Bool) (ds : List ℕ) → AllDigits 10 ds → unsigned_token s ds ≡ based s 10 ds
unsigned_decimal s [] h = refl
unsigned_decimal s (c ∷ []) h =
    elim (eqb c 48) as (λ b. cond b (based s 10 (c ∷ [])) (based s 10 (c ∷ [])) ≡ based s 10 (c ∷ [])) [ true ↦ refl | false ↦ refl ]
unsigned_decimal s (c ∷ d ∷ ds) h =
    let r = digit_from_value d h.1.0 in
    let n : eqb d 120 ≡ false = grind (arith, nat_tests, r) in
    rw n (elim (eqb c 48) as (λ b. cond b (based s 10 (c ∷ d ∷ ds)) (based s 10 (c ∷ d ∷ ds)) ≡ based s 10 (c ∷ d ∷ ds))
    [ true ↦ refl | false ↦ refl ])

number_decimal : (ds : List ℕ) → AllDigits 10 ds → number_token ds ≡ unsigned_token false ds
number_decimal [] h = refl
number_decimal (c ∷ cs) h =
    let r = digit_from_value c h.0 in
    let n : eqb c 45 ≡ false = grind (arith, nat_tests, r) in
    rw n refl

-- decimal digits.
pub decimal_reads : (n : ℕ) → n < 2 ^ 64 → token_of lexeme.Number (decimal n) ≡ t.Number false n
decimal_reads n l =
    let d = decimal_is_IsNumeral n l in
    number_decimal (decimal n) d.0.1 ∙ unsigned_decimal false (decimal n) d.0.1 ∙ based_reads false 10 (decimal n) n l d.0 d.1

-- `-` and decimal digits
pub minus_reads : (n : ℕ) → n < 2 ^ 64 → token_of lexeme.Number (45 ∷ decimal n) ≡ t.Number true n
minus_reads n l =
    let d = decimal_is_IsNumeral n l in
    unsigned_decimal true (decimal n) d.0.1 ∙ based_reads true 10 (decimal n) n l d.0 d.1

fits_64 : (m : ℕ) → m < 18446744073709551616 → m < 16 ^ 64
fits_64 m l = omega arith

pub hex_is_numeral : (n : ℕ) → n < 2 ^ 64 → IsNumeral 16 (digits 16 false n) × (digits_value 16 (digits 16 false n) ≡ n)
hex_is_numeral n l = digits_is_IsNumeral 16 false (omega arith) (omega arith) n (fits_64 n l)

-- `0x` and hexadecimal digits
pub hex_reads : (n : ℕ) → n < 2 ^ 64 → token_of lexeme.Number (48 ∷ 120 ∷ digits 16 false n) ≡ t.Number false n
hex_reads n l = let d = hex_is_numeral n l in based_reads false 16 (digits 16 false n) n l d.0 d.1

-- `-0x` and hexadecimal digits
pub minus_hex_reads : (n : ℕ) → n < 2 ^ 64 → token_of lexeme.Number (45 ∷ 48 ∷ 120 ∷ digits 16 false n) ≡ t.Number true n
minus_hex_reads n l = let d = hex_is_numeral n l in based_reads true 16 (digits 16 false n) n l d.0 d.1

-- digits are bytes of names.
pub decimal_digits_are_name_bytes : (ds : List ℕ) → AllDigits 10 ds → list_all is_name_byte ds ≡ true
decimal_digits_are_name_bytes [] h = refl
decimal_digits_are_name_bytes (c ∷ cs) h = rw (digit_is_name c (is_decimal_byte c h.0), decimal_digits_are_name_bytes cs h.1) refl

pub hex_digits_are_name_bytes : (ds : List ℕ) → AllDigits 16 ds → list_all is_name_byte ds ≡ true
hex_digits_are_name_bytes [] h = refl
hex_digits_are_name_bytes (c ∷ cs) h = rw (is_hex_byte c h.0, hex_digits_are_name_bytes cs h.1) refl

pub decimal_is_name_bytes : (n : ℕ) → n < 2 ^ 64 → list_all is_name_byte (decimal n) ≡ true
decimal_is_name_bytes n l = decimal_digits_are_name_bytes (decimal n) (decimal_is_IsNumeral n l).0.1

pub hex_is_name_bytes : (n : ℕ) → n < 2 ^ 64 → list_all is_name_byte (digits 16 false n) ≡ true
hex_is_name_bytes n l = hex_digits_are_name_bytes (digits 16 false n) (hex_is_numeral n l).0.1

-- `L` and a number below 2^32
pub label_is_short : (n : ℕ) → n < 2 ^ 32 → length (76 ∷ decimal n) ≤ 63
label_is_short n l = let s = length-decimal-le 10 n (lit< tt) (omega arith) (omega arith) in omega (arith, s)

pub label_reads : (n : ℕ) → n < 2 ^ 32 → token_of lexeme.Name (76 ∷ decimal n) ≡ t.Name
label_reads n l = let e : leb (length (76 ∷ decimal n)) NAME_LIMIT ≡ true = le-leb _ _ (label_is_short n l) in rw e refl

-- Bytes of names are plain, and so are digits.
pub name_byte_is_plain : (c : ℕ) → is_name_byte c ≡ true → is_plain_byte c ≡ true
name_byte_is_plain c h = grind (arith, nat_tests)

pub name_bytes_are_plain : (cs : List ℕ) → list_all is_name_byte cs ≡ true → has_only_plain cs ≡ true
name_bytes_are_plain [] h = refl
name_bytes_are_plain (c ∷ cs) h = rw (name_byte_is_plain c (left _ _ h)) (name_bytes_are_plain cs (right (is_name_byte c) _ h))

pub decimal_is_plain : (n : ℕ) → n < 2 ^ 64 → has_only_plain (decimal n) ≡ true
decimal_is_plain n l = name_bytes_are_plain (decimal n) (decimal_is_name_bytes n l)

pub hex_is_plain : (n : ℕ) → n < 2 ^ 64 → has_only_plain (digits 16 false n) ≡ true
hex_is_plain n l = name_bytes_are_plain (digits 16 false n) (hex_is_name_bytes n l)

pub both_plain : (xs ys : List ℕ) → has_only_plain xs ≡ true → has_only_plain ys ≡ true → has_only_plain (xs ++ ys) ≡ true
both_plain [] ys h k = k
both_plain (x ∷ xs) ys h k = rw (left (is_plain_byte x) _ h) (both_plain xs ys (right (is_plain_byte x) _ h) k)

-- A number's text before an end is one lexeme.
decimals_lexed : (ds cs : List ℕ) → IsNumeral 10 ds → is_end cs ≡ true → lexed 0 (ds ++ cs) ≡ (lexeme.Number, ds) ∷ lexed 0 cs
decimals_lexed [] cs h e = absurd (omega (arith, h.0))
decimals_lexed (c ∷ n) cs h e = number_lexed c n cs (is_decimal_byte c h.1.0) (decimal_digits_are_name_bytes n h.1.1) e

minus_decimals_lexed : (ds cs : List ℕ) → IsNumeral 10 ds → is_end cs ≡ true
    → lexed 0 (45 ∷ ds ++ cs) ≡ (lexeme.Number, 45 ∷ ds) ∷ lexed 0 cs
minus_decimals_lexed [] cs h e = absurd (omega (arith, h.0))
minus_decimals_lexed (c ∷ n) cs h e = minus_lexed c n cs (is_decimal_byte c h.1.0) (decimal_digits_are_name_bytes n h.1.1) e

pub decimal_lexed : (n : ℕ) (cs : List ℕ) → n < 2 ^ 64 → is_end cs ≡ true
    → lexed 0 (decimal n ++ cs) ≡ (lexeme.Number, decimal n) ∷ lexed 0 cs
decimal_lexed n cs l e = decimals_lexed (decimal n) cs (decimal_is_IsNumeral n l).0 e

pub minus_decimal_lexed : (n : ℕ) (cs : List ℕ) → n < 2 ^ 64 → is_end cs ≡ true
    → lexed 0 (45 ∷ decimal n ++ cs) ≡ (lexeme.Number, 45 ∷ decimal n) ∷ lexed 0 cs
minus_decimal_lexed n cs l e = minus_decimals_lexed (decimal n) cs (decimal_is_IsNumeral n l).0 e

pub hex_lexed : (n : ℕ) (cs : List ℕ) → n < 2 ^ 64 → is_end cs ≡ true
    → lexed 0 (48 ∷ 120 ∷ digits 16 false n ++ cs) ≡ (lexeme.Number, 48 ∷ 120 ∷ digits 16 false n) ∷ lexed 0 cs
hex_lexed n cs l e = number_lexed 48 (120 ∷ digits 16 false n) cs refl (hex_is_name_bytes n l) e

pub minus_hex_lexed : (n : ℕ) (cs : List ℕ) → n < 2 ^ 64 → is_end cs ≡ true
    → lexed 0 (45 ∷ 48 ∷ 120 ∷ digits 16 false n ++ cs) ≡ (lexeme.Number, 45 ∷ 48 ∷ 120 ∷ digits 16 false n) ∷ lexed 0 cs
minus_hex_lexed n cs l e = minus_lexed 48 (120 ∷ digits 16 false n) cs refl (hex_is_name_bytes n l) e
