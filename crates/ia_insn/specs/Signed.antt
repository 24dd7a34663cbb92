-- Signed numbers and flags as the bits of a field (volume 3, chapter 4: a signed immediate is its
-- field, sign-extended).
use Rattle.std.specs.Prelude.{ℕ, ℤ, pos, negsuc, suc, nat_lt, if◌then◌else◌, ◌-◌, ◌^◌, ◌<◌, Bool, true, false}

-- A signed number in two's complement of `width` bits.
abbrev pub twos : ℕ → ℤ → ℕ
twos width (pos n) = n
twos width (negsuc n) = 2 ^ width - suc n

-- The signed number has a two's complement of `width` bits: it is from -2^(width - 1) to 2^(width - 1) - 1.
abbrev pub FitsSigned : ℕ → ℤ → Type 0
FitsSigned width (pos n) = n < 2 ^ (width - 1)
FitsSigned width (negsuc n) = n < 2 ^ (width - 1)

-- The signed number that has these bits.
abbrev pub signed_value : ℕ → ℕ → ℤ
signed_value width n = if nat_lt n (2 ^ (width - 1)) then pos n else negsuc (2 ^ width - suc n)

-- A choice as a bit.
abbrev pub flag : Bool → ℕ
flag false = 0
flag true = 1
