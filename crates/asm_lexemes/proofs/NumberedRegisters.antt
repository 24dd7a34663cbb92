-- The number of a register, digit by digit.
use Rattle.std.proofs.Common.{◌≡◌, refl, sym, ◌∙◌, ℕ, ◌+◌, ◌*◌, ◌-◌, ◌<◌, ◌≤◌, Bool, true, false, cond, not, ◌||◌, None, Option, List, take, drop, length, get_or, ltb, arith}
use Rattle.std.proofs.lemmas.Bool.Decides.{nat_tests}
use Rattle.std.proofs.lemmas.List.{at_drop_more}
use Rattle.std.proofs.lemmas.Str.Parse.{digits_value-take-le}
use Rattle.std.specs.Char.{digit_value}
use Rattle.std.specs.Str.Parse.{digits_value}
use Rattle.asm_lexemes.specs.Bytes.{is_digit_byte}
use Rattle.asm_lexemes.specs.Numbers.{are_digits}
use Rattle.asm_lexemes.specs.Registers.{numbered, has_needless_zero}
use Rattle.asm_lexemes.proofs.Numerals.{one_more}

-- The value of a digit.
digit_of : (c : ℕ) → is_digit_byte c ≡ true → c - 48 ≡ digit_value c
digit_of c h = grind (arith, nat_tests)

is_digit : (c : ℕ) → is_digit_byte c ≡ true → ltb (digit_value c) 10 ≡ true
is_digit c h = grind (arith, nat_tests)

either : (b : Bool) (o : Option ℕ) → o ≡ None → None ≡ cond b None o
either true o e = refl
either false o e = sym e

too_high : (limit : ℕ) (ds : List ℕ) → limit ≤ digits_value 10 ds → None ≡ numbered limit ds
too_high limit ds h =
    let t : ltb (digits_value 10 ds) limit ≡ false = grind (arith, nat_tests) in
    rw t (either (not (are_digits 10 ds) || has_needless_zero ds) None refl)

pub more_digits : (ds : List ℕ) (i : ℕ) → i < length ds → are_digits 10 (drop i ds) ≡ are_digits 10 ds
    → is_digit_byte (get_or ds i 0) ≡ true → are_digits 10 (drop (i + 1) ds) ≡ are_digits 10 ds
more_digits ds i h so digit = sym (at_drop_more (are_digits 10) ds i 0 h ∙ rw (is_digit (get_or ds i 0) digit) refl) ∙ so

pub more_value : (ds : List ℕ) (i n : ℕ) → i < length ds → n ≡ digits_value 10 (take i ds) → is_digit_byte (get_or ds i 0) ≡ true
    → n * 10 + (get_or ds i 0 - 48) ≡ digits_value 10 (take (i + 1) ds)
more_value ds i n h is digit = one_more 10 ds i n (get_or ds i 0 - 48) h is (digit_of (get_or ds i 0) digit)

pub past_limit : (limit : ℕ) (ds : List ℕ) (i n : ℕ) → i < length ds → n ≡ digits_value 10 (take i ds)
    → is_digit_byte (get_or ds i 0) ≡ true → limit ≤ n * 10 + (get_or ds i 0 - 48) → None ≡ numbered limit ds
past_limit limit ds i n h is digit high =
    let v = more_value ds i n h is digit in
    let low = digits_value-take-le 10 ds (i + 1) (omega arith) in
    too_high limit ds (omega arith)
