-- The numbers that digits write.
use Rattle.std.specs.Prelude.{ℕ, ◌^◌, Bool, true, false, not, ◌||◌, nat_lt, ◌==◌, if◌then◌else◌, List, [], ◌∷◌, Option, Some, None}
use Rattle.std.specs.List.{list_all}
use Rattle.std.specs.Char.{digit_value}
use Rattle.std.specs.Str.Parse.{digits_value}
use Rattle.asm_lexemes.specs.declared.tokens.Token.{Token}
use Rattle.asm_lexemes.specs.declared.tokens.Token.TheVariants as t

-- Each byte is a digit of the base, in either case.
abbrev pub are_digits : ℕ → List ℕ → Bool
are_digits base ds = list_all (λ c. nat_lt (digit_value c) base) ds

-- The number that the digits write, where 64 bits hold it.
abbrev pub numeral : ℕ → List ℕ → Option ℕ
numeral base ds = if nat_lt (digits_value base ds) (2 ^ 64) then Some (digits_value base ds) else None

abbrev or_too_large : Bool → Option ℕ → Token
or_too_large negative None = t.TooLarge
or_too_large negative (Some m) = t.Number negative m

abbrev pub is_none_left : List ℕ → Bool
is_none_left [] = true
is_none_left (c ∷ cs) = false

-- One digit or more of the base.
abbrev pub based : Bool → ℕ → List ℕ → Token
based negative base ds = if is_none_left ds || not (are_digits base ds) then t.Malformed else or_too_large negative (numeral base ds)

-- A number whose first digit is 0, by what follows that digit: hexadecimal after an `x`.
abbrev pub after_zero : Bool → List ℕ → List ℕ → Token
after_zero negative number [] = based negative 10 number
after_zero negative number (c ∷ cs) = if c == 120 then based negative 16 cs else based negative 10 number

-- A number without its `-`.
abbrev pub unsigned_token : Bool → List ℕ → Token
unsigned_token negative [] = t.Malformed
unsigned_token negative (c ∷ cs) = if c == 48 then after_zero negative (c ∷ cs) cs else based negative 10 (c ∷ cs)

-- A number, with its `-` where it has one.
abbrev pub number_token : List ℕ → Token
number_token [] = t.Malformed
number_token (c ∷ cs) = if c == 45 then unsigned_token true cs else unsigned_token false (c ∷ cs)
