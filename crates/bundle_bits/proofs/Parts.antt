-- The parts of a bundle's number.
use Rattle.std.proofs.Common.{◌≡◌, ℕ, ◌+◌, ◌*◌, ◌/◌, ◌%◌, ◌^◌, ◌<◌, List, [], ◌∷◌, refl, sym, ◌∙◌, arith}
use Rattle.bundle_bits.specs.RawBundle.{bundle_number, HasWidths}
use Rattle.bundle_bits.specs.declared.bundle.RawBundle.{RawBundle}

-- What the code computes of a number.
abbrev pub parts_of : ℕ → RawBundle
parts_of n =
    record {
      template = n % 32;
      slots = n / 32 % 2199023255552 ∷ n / 32 / 2199023255552 % 2199023255552 ∷ n / 32 / 2199023255552
          / 2199023255552 ∷ [];
    }

digits : (t a b c n : ℕ) → t < 2 ^ 5 → a < 2 ^ 41 → b < 2 ^ 41 → t + a * 2 ^ 5 + b * 2 ^ 46 + c * 2 ^ 87 ≡ n
    → (t ≡ n % 32) × (a ≡ n / 32 % 2199023255552) × (b ≡ n / 32 / 2199023255552 % 2199023255552)
    × (c ≡ n / 32 / 2199023255552 / 2199023255552)
digits t a b c n ht ha hb is = (omega arith, omega arith, omega arith, omega arith)

same_parts : (t : ℕ) (slots : List ℕ) (n : ℕ) → HasWidths (record { template = t; slots = slots })
    → bundle_number (record { template = t; slots = slots }) ≡ n → record { template = t; slots = slots } ≡ parts_of n
same_parts t (a ∷ b ∷ c ∷ []) n parts is =
    let d = digits t a b c n parts.template parts.first parts.second is in
    λ i. record { template = d.0 i; slots = d.1 i ∷ d.2 i ∷ d.3 i ∷ [] }
same_parts t slots n parts is = absurd (omega (arith, parts.count))

-- A bundle of this number has the parts that the code computes.
pub only-parts : (raw : RawBundle) (n : ℕ) → HasWidths raw → bundle_number raw ≡ n → raw ≡ parts_of n
only-parts raw n parts is = same_parts raw.template raw.slots n parts is

-- Two bundles of one number are the same.
pub one-raw : (raw other : RawBundle) → HasWidths raw → HasWidths other → bundle_number raw ≡ bundle_number other → raw ≡ other
one-raw raw other parts others is =
    only-parts raw (bundle_number other) parts is ∙ sym (only-parts other (bundle_number other) others refl)

-- The parts of a number of 128 bits are those of a bundle, and make the number.
pub are-parts : (n : ℕ) → n < 2 ^ 128 → HasWidths (parts_of n)
are-parts n fits =
    record { template = omega arith; count = refl; first = omega arith; second = omega arith; third = omega arith }

pub number-of-parts : (n : ℕ) → bundle_number (parts_of n) ≡ n
number-of-parts n = omega arith
