-- The bytes of the numbers of a data line.
use Rattle.std.proofs.Common.{◌≡◌, ap, refl, ℕ, ◌+◌, ◌*◌, ◌≤◌, min, List, [], ◌∷◌, ◌++◌, length, take, arith}
use Rattle.std.specs.Int.{w64, to_le_bytes}
use Rattle.std.proofs.lemmas.List.{length-append, length-take-le, take_min}
use Rattle.asm_build.specs.TextParts.{numbers_bytes}

-- Of a number's eight bytes no more than eight are taken.
pub most_bytes : (size : ℕ) (v : ℕ) → take (min size 8) (to_le_bytes w64 v) ≡ take size (to_le_bytes w64 v)
most_bytes size v = take_min size (to_le_bytes w64 v)

pub most_numbers : (size : ℕ) (values : List ℕ) → numbers_bytes (min size 8) values ≡ numbers_bytes size values
most_numbers size [] = refl
most_numbers size (v ∷ vs) = rw (most_bytes size v, most_numbers size vs) refl

pub length_numbers : (size : ℕ) (values : List ℕ) → size ≤ 8 → length (numbers_bytes size values) ≡ length values * size
length_numbers size [] h = omega arith
length_numbers size (v ∷ vs) h =
    omega (
      arith,
      length-append (take size (to_le_bytes w64 v)) (numbers_bytes size vs),
      length-take-le size (to_le_bytes w64 v) h,
      length_numbers size vs h,
    )

-- A part of a list is no longer than it.
pub shorter : (front rest before more : List ℕ) → front ++ rest ≡ before ++ more → length front ≤ length before + length more
shorter front rest before more same =
    omega (arith, length-append front rest, length-append before more, ap length same)
