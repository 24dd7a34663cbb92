-- Words whose bits are accesses.
use Rattle.std.proofs.Common.{◌≡◌, ℕ, ◌*◌, ◌%◌, ◌^◌, ◌<◌, Bool, true, false, ◌&&◌, ◌||◌, not, eqb, eqb-true, eq-eqb, refl, sym, ap, ◌∙◌, arith, inl, inr}
use Rattle.std.specs.Prelude.{bit_and, bit_or, min, max}
use Rattle.std.specs.Int.{bit_at, trailing_zeros, Width}
use mir.Val.{bits}
use Rattle.std.proofs.lemmas.Nat.{and_le_l, one_shl}
use Rattle.std.proofs.lemmas.Bool.{cases_eq, ne_eqb, and_parts, not-true, true≢false, not-false, or_right}
use Rattle.std.proofs.lemmas.Bool.Decides.{nat_tests}
use Rattle.std.proofs.lemmas.Nat.Bits.{bit_at_and, bit_at_or, bit_at-lt, bit_at-zero, bit_at-pow_same, bit_at-pow_other, bit_at_set_same, bit_at_set_other, bit_at-trailing_zeros}
use Rattle.ia_meaning.specs.Arithmetic.{bit}

max_test : (a b : ℕ) → a < 2 → b < 2 → eqb (max a b) 1 ≡ (eqb a 1 || eqb b 1)
max_test a b h k = grind (arith, nat_tests)

min_test : (a b : ℕ) → a < 2 → b < 2 → eqb (min a b) 1 ≡ (eqb a 1 && eqb b 1)
min_test a b h k = grind (arith, nat_tests)

pub bit_or_at : (a b y : ℕ) → bit (bit_or a b) y ≡ (bit a y || bit b y)
bit_or_at a b y = ap (λ (v : ℕ). eqb v 1) (bit_at_or a b y) ∙ max_test (bit_at a y) (bit_at b y) (bit_at-lt a y) (bit_at-lt b y)

pub bit_and_at : (a b y : ℕ) → bit (bit_and a b) y ≡ (bit a y && bit b y)
bit_and_at a b y = ap (λ (v : ℕ). eqb v 1) (bit_at_and a b y) ∙ min_test (bit_at a y) (bit_at b y) (bit_at-lt a y) (bit_at-lt b y)

pub bit_none : (y : ℕ) → bit 0 y ≡ false
bit_none y = ne_eqb (bit_at 0 y) 1 (λ q. omega (arith, bit_at-zero y))

pub or_false : (b : Bool) → (b || false) ≡ b
or_false true = refl
or_false false = refl

-- A word with one more bit.
pub bit_more : (w : Width) (a k y : ℕ) → k < bits w → bit (bit_or a (1 * 2 ^ k % 2 ^ bits w)) y ≡ (bit a y || eqb y k)
bit_more w a k y l = elim (cases_eq y k) [
  | inl e ↦ rw (eq-eqb y k e) (rw e (eq-eqb _ 1 (bit_at_set_same w a k l)) ∙ sym (or_right (bit a y) true refl))
  | inr e ↦ rw (ne_eqb y k e) (ap (λ (v : ℕ). eqb v 1) (bit_at_set_other w a k l y e) ∙ sym (or_false (bit a y)))
]

-- A word of one bit.
pub one_bit : (k y : ℕ) → k < 64 → bit (1 * 2 ^ k % 2 ^ 64) y ≡ eqb k y
one_bit k y l = ap (λ (n : ℕ). bit n y) (one_shl k 64 l) ∙ (elim (cases_eq k y) [
  | inl e ↦ rw e (eq-eqb (bit_at (2 ^ y) y) 1 (bit_at-pow_same y) ∙ sym (eq-eqb y y refl))
  | inr e ↦ ne_eqb (bit_at (2 ^ k) y) 1 (λ q. omega (arith, bit_at-pow_other k y (λ s. e (sym s)))) ∙ sym (ne_eqb k y e)
])
