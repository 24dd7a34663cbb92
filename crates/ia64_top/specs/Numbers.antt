-- The number that an argument is.
use Rattle.std.specs.Prelude.{◌≡◌, ◌↔◌, ℕ, ◌<◌, ◌≤◌, ◌^◌, nat_le, ◌&&◌, List, length, get_or, Option, Some, None, if◌then◌else◌, bytes_eq, decimal}
use Rattle.std.specs.Str.Parse.{digits_value}

-- The number, from the least to the most, whose decimal text the argument is. So it has neither a sign nor a leading zero.
unfoldable pub number_between : ℕ → ℕ → List ℕ → Option ℕ
number_between least most argument =
    let number = digits_value 10 argument
    in if nat_le least number && nat_le number most && bytes_eq argument (decimal number) then Some number else None

-- The argument begins with a digit, and with 0 only where it is `0` alone.
abbrev pub BeginsAsNumeral : List ℕ → Type 0
BeginsAsNumeral argument =
    (0 < length argument) × (48 ≤ get_or argument 0 0) × (get_or argument 0 0 ≤ 57) × (get_or argument 0 0 ≡ 48 → length argument ≡ 1)

-- An argument is a number in a range of 64 bits exactly where it is the number's decimal text.
abbrev pub OneNumeral : Type 0
OneNumeral =
    (least most : ℕ) (argument : List ℕ) (number : ℕ) → most < 2 ^ 64
    → (number_between least most argument ≡ Some number) ↔ ((least ≤ number) × (number ≤ most) × (argument ≡ decimal number))
