-- Arguments that are numbers.
use Rattle.std.proofs.Common.{◌≡◌, ℕ, zero, suc, ◌<◌, ◌≤◌, ◌^◌, Bool, true, false, List, length, get_or, Option, Some, None, refl, sym, ap, ◌∙◌, subst, arith}
use Rattle.std.specs.Prelude.{nat_le, ◌&&◌, bytes_eq, decimal, if◌then◌else◌}
use Rattle.std.specs.Prelude.{Result, Ok, Err, IsUtf8}
use Rattle.std.specs.Int.{IsInRange}
use Rattle.std.specs.Str.Parse.{digits_value, AllDigits, ParsesUnsigned}
use Rattle.std.proofs.lemmas.Bool.{leb-true, le-leb}
use Rattle.std.proofs.lemmas.Slice.Eq.{bytes_eq-Decides}
use Rattle.std.proofs.lemmas.Str.Parse.{IsNumeralModel, numerals_by_value, tells_digits, digit_at, parse_plain}
use Rattle.std.proofs.lemmas.Str.{IsUtf8-from_ascii}
use Rattle.std.proofs.lemmas.Fmt.{digits_value-decimal, digits_decimal, decimal-digits_value, decimal_digit, decimal_nonempty, first_decimal, parse-decimal, IsAscii-decimal}
use Rattle.ia64_top.specs.Numbers.{number_between, BeginsAsNumeral, OneNumeral}

own : IsNumeralModel (AllDigits 10) (digits_value 10)
own = numerals_by_value (AllDigits 10) tells_digits

-- The argument is the decimal text of the number, which is in range.
abbrev pub IsNumeralOf : ℕ → ℕ → List ℕ → ℕ → Type 0
IsNumeralOf least most argument n = (least ≤ n) × (n ≤ most) × (argument ≡ decimal n)

chosen : (a b c : Bool) (n : ℕ) → a ≡ true → b ≡ true → c ≡ true → (if a && b && c then Some n else None) ≡ Some n
chosen a b c n ea eb ec = rw (ea, eb, ec) refl

-- What is there where a choice among three tests gave a number.
chosen_all : (a b c : Bool) (m n : ℕ) → (if a && b && c then Some m else None) ≡ Some n → (a ≡ true) × (b ≡ true) × (c ≡ true) × (m ≡ n)
chosen_all true true true m n e = (refl, refl, refl, cc)
chosen_all true true false m n e = cc
chosen_all true false c m n e = cc
chosen_all false b c m n e = cc

pub number_of_numeral : (least most : ℕ) (argument : List ℕ) (n : ℕ) → most < 2 ^ 64 → IsNumeralOf least most argument n
    → number_between least most argument ≡ Some n
unfolding number_between
number_of_numeral least most argument n small h =
    let v : digits_value 10 argument ≡ n = ap (digits_value 10) h.2 ∙ digits_value-decimal own n (omega (arith, small, h.1)) in
    rw v (chosen (nat_le least n) (nat_le n most) (bytes_eq argument (decimal n)) n (le-leb least n h.0) (le-leb n most h.1)
    ((bytes_eq-Decides argument (decimal n)).1 h.2))

pub numeral_of_number : (least most : ℕ) (argument : List ℕ) (n : ℕ) → number_between least most argument ≡ Some n
    → IsNumeralOf least most argument n
unfolding number_between
numeral_of_number least most argument n e =
    let m : ℕ = digits_value 10 argument in
    let all : (nat_le least m ≡ true) × (nat_le m most ≡ true) × (bytes_eq argument (decimal m) ≡ true) × (m ≡ n) =
    chosen_all (nat_le least m) (nat_le m most) (bytes_eq argument (decimal m)) m n e in
    subst (IsNumeralOf least most argument) all.3 (
      leb-true least m all.0,
      leb-true m most all.1,
      (bytes_eq-Decides argument (decimal m)).0 all.2,
    )

pub one_numeral : OneNumeral
one_numeral least most argument n small = (numeral_of_number least most argument n, number_of_numeral least most argument n small)

-- An argument that is no number's decimal text.
none_of : (least most : ℕ) (argument : List ℕ) → ((n : ℕ) → IsNumeralOf least most argument n → ⊥) → (found : Option ℕ)
    → number_between least most argument ≡ found → number_between least most argument ≡ None
none_of least most argument none None e = e
none_of least most argument none (Some n) e = absurd (none n (numeral_of_number least most argument n e))

pub no_number_there : (least most : ℕ) (argument : List ℕ) → ((n : ℕ) → IsNumeralOf least most argument n → ⊥)
    → None ≡ number_between least most argument
no_number_there least most argument none = sym (none_of least most argument none (number_between least most argument) refl)

-- A number's text is `0`, or begins with another digit.
text_begins : (n : ℕ) → n < 2 ^ 64 → BeginsAsNumeral (decimal n)
text_begins zero small = rw (decimal_digit 0 (omega arith)) (omega arith, omega arith, omega arith, λ e. refl)
text_begins (suc n) small =
    let high : IsInRange 48 57 (get_or (decimal (suc n)) 0 0) =
    digit_at (decimal (suc n)) 0 (digits_decimal own (suc n) small) (decimal_nonempty (suc n) small) in
    let low : 48 < get_or (decimal (suc n)) 0 0 = first_decimal (suc n) (omega arith) small in
    (decimal_nonempty (suc n) small, omega (arith, low), omega (arith, high), λ e. absurd (omega (arith, low, e)))

pub no_first_digit : (least most : ℕ) (argument : List ℕ) → most < 2 ^ 64 → (BeginsAsNumeral argument → ⊥)
    → None ≡ number_between least most argument
no_first_digit least most argument small other =
    no_number_there least most argument (λ n h. other (subst BeginsAsNumeral (sym h.2) (text_begins n (omega (arith, small, h.1)))))

pub no_text : (least most : ℕ) (argument : List ℕ) → most < 2 ^ 64 → ¬ IsUtf8 argument → None ≡ number_between least most argument
no_text least most argument small other =
    no_number_there least most argument (λ n h. other (subst IsUtf8 (sym h.2)
    (IsUtf8-from_ascii (decimal n) (IsAscii-decimal n (omega (arith, small, h.1))))))

-- A number's text is read as the number.
numeral_parses : {E : Type 0} (least most : ℕ) (argument : List ℕ) (r : Result ℕ E) (n : ℕ) → most < 2 ^ 64
    → ParsesUnsigned 64 10 argument r → IsNumeralOf least most argument n → r ≡ Ok n
numeral_parses least most argument r n small parsed h =
    parse-decimal 64 n argument r (omega (arith, small, h.1)) (omega (arith, small, h.1)) h.2 parsed

pub no_number : {E : Type 0} (least most : ℕ) (argument : List ℕ) (r : Result ℕ E) (e : E) → most < 2 ^ 64 → ParsesUnsigned 64 10 argument r
    → r ≡ Err e → None ≡ number_between least most argument
no_number least most argument r e small parsed error =
    no_number_there least most argument (λ n h. let read : r ≡ Ok n = numeral_parses least most argument r n small parsed h in cc)

pub out_of_range : {E : Type 0} (least most : ℕ) (argument : List ℕ) (r : Result ℕ E) (m : ℕ) → most < 2 ^ 64
    → ParsesUnsigned 64 10 argument r → r ≡ Ok m → ((least ≤ m) × (m ≤ most) → ⊥) → None ≡ number_between least most argument
out_of_range least most argument r m small parsed read outside =
    no_number_there least most argument
    (λ n h. let other : r ≡ Ok n = numeral_parses least most argument r n small parsed h in let same : n ≡ m = cc in
    outside (subst (λ k. (least ≤ k) × (k ≤ most)) same (h.0, h.1)))

pub counted : {E : Type 0} (least most : ℕ) (argument : List ℕ) (r : Result ℕ E) (n : ℕ) → most < 2 ^ 64 → BeginsAsNumeral argument
    → ParsesUnsigned 64 10 argument r → r ≡ Ok n → least ≤ n → n ≤ most → Some n ≡ number_between least most argument
counted least most argument r n small begins parsed read above within =
    let plain : ((AllDigits 10 argument × (0 < length argument) × (digits_value 10 argument < 2 ^ 64)) × (n ≡ digits_value 10 argument)) =
    rw read at (parse_plain own 64 argument r parsed (λ plus. omega (arith, begins.1, plus))) in
    let back : decimal (digits_value 10 argument) ≡ argument = decimal-digits_value own argument plain.0.0 begins.0 begins.3 plain.0.2 in
    sym (number_of_numeral least most argument n small (above, within, sym back ∙ ap decimal (sym plain.1)))
