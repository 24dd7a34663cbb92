-- Bits of a row.
use Rattle.std.proofs.Common.{◌≡◌, ◌≢◌, ℕ, ◌+◌, ◌-◌, ◌*◌, ◌/◌, ◌%◌, ◌^◌, ◌<◌, Bool, true, false, cond, ◌&&◌, ◌||◌, not, eqb, ltb, eqb-true, eq-eqb, refl, sym, ap, ◌∙◌, arith, inl, inr}
use Rattle.std.specs.Prelude.{bit_and, bit_or, min, max}
use Rattle.std.specs.Int.{bit_at, trailing_zeros, w64}
use Rattle.std.proofs.lemmas.Bool.{cases_eq, cases_lt, lt-ltb, le-ltb, ne_eqb, true≢false}
use Rattle.std.proofs.lemmas.Bool.Decides.{nat_tests}
use Rattle.std.proofs.lemmas.Nat.{and_le_l}
use Rattle.std.proofs.lemmas.Nat.Bits.{shr_and_one, bit_at_and, bit_at_or, bit_at-lt, bit_at_ones, bit_at-zero, bit_at_set_same, bit_at_set_other, bit_at_clear_same, bit_at_clear_other, bit_at_not, bit_at-trailing_zeros, bit_at_ones_above, bit_at_cat_low, bit_at_cat_high}
use Rattle.predicate_rel.specs.Pairs.{has_bit}
use Rattle.predicate_rel.specs.Rules.{is_moved}

pub has_bit_test : (n y : ℕ) → eqb (bit_and (n / 2 ^ y) 1) 1 ≡ has_bit n y
unfolding has_bit
has_bit_test n y = ap (λ (v : ℕ). eqb v 1) (shr_and_one n y)

pub has_bit_one : (n y : ℕ) → bit_at n y ≡ 1 → has_bit n y ≡ true
unfolding has_bit
has_bit_one n y e = eq-eqb (bit_at n y) 1 e

pub has_bit_zero : (n y : ℕ) → bit_at n y ≡ 0 → has_bit n y ≡ false
unfolding has_bit
has_bit_zero n y e = ne_eqb (bit_at n y) 1 (λ q. omega arith)

pub one_from : (n y : ℕ) → has_bit n y ≡ true → bit_at n y ≡ 1
unfolding has_bit
one_from n y e = eqb-true (bit_at n y) 1 e

has_bit_apart : (n m y k : ℕ) → bit_at n y ≡ bit_at m k → has_bit n y ≡ has_bit m k
unfolding has_bit
has_bit_apart n m y k e = ap (λ (v : ℕ). eqb v 1) e

has_bit_like : (n m y : ℕ) → bit_at n y ≡ bit_at m y → has_bit n y ≡ has_bit m y
has_bit_like n m y e = has_bit_apart n m y y e

min_test : (a b : ℕ) → a < 2 → b < 2 → eqb (min a b) 1 ≡ (eqb a 1 && eqb b 1)
min_test a b h k = grind (arith, nat_tests)

pub has_bit_and : (a b y : ℕ) → has_bit (bit_and a b) y ≡ (has_bit a y && has_bit b y)
unfolding has_bit
has_bit_and a b y = ap (λ (v : ℕ). eqb v 1) (bit_at_and a b y) ∙ min_test (bit_at a y) (bit_at b y) (bit_at-lt a y) (bit_at-lt b y)

pub has_bit_all : (y : ℕ) → y < 64 → has_bit 18446744073709551615 y ≡ true
has_bit_all y l = has_bit_one 18446744073709551615 y (bit_at_ones 64 y l)

pub has_bit_none : (y : ℕ) → has_bit 0 y ≡ false
has_bit_none y = has_bit_zero 0 y (bit_at-zero y)

pub set_value : (n k : ℕ) (v : Bool) → k < 64 → v ≡ true → (y : ℕ) → y < 64
    → has_bit (bit_or n (1 * 2 ^ k % 18446744073709551616)) y ≡ cond (eqb y k) v (has_bit n y)
set_value n k v l is y m = elim (cases_eq y k) [
  | inl e ↦ rw (eq-eqb y k e, is) (rw e (has_bit_one _ k (bit_at_set_same w64 n k l)))
  | inr e ↦ rw (ne_eqb y k e) (has_bit_like _ n y (bit_at_set_other w64 n k l y e))
]

pub clear_value : (n k : ℕ) (v : Bool) → k < 64 → v ≡ false → (y : ℕ) → y < 64
    → has_bit (bit_and n (18446744073709551615 - 1 * 2 ^ k % 18446744073709551616)) y ≡ cond (eqb y k) v (has_bit n y)
clear_value n k v l is y m = elim (cases_eq y k) [
  | inl e ↦ rw (eq-eqb y k e, is) (rw e (has_bit_zero _ k (bit_at_clear_same w64 n k l)))
  | inr e ↦ rw (ne_eqb y k e) (has_bit_like _ n y (bit_at_clear_other w64 n k l y m e))
]

less_bit : (a b y : ℕ) → b < 2 ^ 64 → y < 64 → bit_at (bit_and a (18446744073709551615 - b)) y ≡ min (bit_at a y) (1 - bit_at b y)
less_bit a b y h l = bit_at_and a (18446744073709551615 - b) y ∙ ap (λ (v : ℕ). min (bit_at a y) v) (bit_at_not w64 b y h l)

pub none_less : (a b : ℕ) → b < 2 ^ 64 → bit_and a (18446744073709551615 - b) ≡ 0 → (y : ℕ) → y < 64 → has_bit a y ≡ true
    → has_bit b y ≡ true
none_less a b h none y l t =
    let e : min (bit_at a y) (1 - bit_at b y) ≡ 0 = sym (less_bit a b y h l) ∙ ap (λ (n : ℕ). bit_at n y) none ∙ bit_at-zero y in
    let one : bit_at a y ≡ 1 = one_from a y t in
    let small : bit_at b y < 2 = bit_at-lt b y in
    has_bit_one b y (omega arith)

pub some_less : (a b : ℕ) → b < 2 ^ 64 → 0 < bit_and a (18446744073709551615 - b) → bit_and a (18446744073709551615 - b) < 2 ^ 64
    → (y : ℕ) × (y < 64) × (has_bit a y ≡ true) × (has_bit b y ≡ false)
some_less a b h some fits =
    let (below, one, rest) = bit_at-trailing_zeros w64 (bit_and a (18446744073709551615 - b)) some fits in
    let y = trailing_zeros w64 (bit_and a (18446744073709551615 - b)) in
    let e : min (bit_at a y) (1 - bit_at b y) ≡ 1 = sym (less_bit a b y h below) ∙ one in
    let small : bit_at a y < 2 = bit_at-lt a y in
    (y, below, has_bit_one a y (omega arith), has_bit_zero b y (omega arith))

max_test : (a b : ℕ) → a < 2 → b < 2 → eqb (max a b) 1 ≡ (eqb a 1 || eqb b 1)
max_test a b h k = grind (arith, nat_tests)

pub has_bit_or : (a b y : ℕ) → has_bit (bit_or a b) y ≡ (has_bit a y || has_bit b y)
unfolding has_bit
has_bit_or a b y = ap (λ (v : ℕ). eqb v 1) (bit_at_or a b y) ∙ max_test (bit_at a y) (bit_at b y) (bit_at-lt a y) (bit_at-lt b y)

has_bit_not : (a y : ℕ) → a < 2 ^ 64 → y < 64 → has_bit (18446744073709551615 - a) y ≡ not (has_bit a y)
unfolding has_bit
has_bit_not a y h l = ap (λ (v : ℕ). eqb v 1) (bit_at_not w64 a y h l) ∙ flip (bit_at a y) (bit_at-lt a y)
  where
    flip : (b : ℕ) → b < 2 → eqb (1 - b) 1 ≡ not (eqb b 1)
    flip b h = grind (arith, nat_tests)

pick : (m a b : Bool) → ((a && m) || (b && not m)) ≡ cond m a b
pick true true b = refl
pick true false true = refl
pick true false false = refl
pick false true b = and_true_l b
  where
    and_true_l : (b : Bool) → (b && true) ≡ b
    and_true_l true = refl
    and_true_l false = refl
pick false false b = and_true_l b
  where
    and_true_l : (b : Bool) → (b && true) ≡ b
    and_true_l true = refl
    and_true_l false = refl

pub chosen_bits : (m a b y : ℕ) → m < 2 ^ 64 → y < 64 → has_bit (bit_or (bit_and a m) (bit_and b (18446744073709551615 - m))) y
    ≡ cond (has_bit m y) (has_bit a y) (has_bit b y)
chosen_bits m a b y h l =
    has_bit_or (bit_and a m) (bit_and b (18446744073709551615 - m)) y
    ∙ (rw (has_bit_and a m y, has_bit_and b (18446744073709551615 - m) y, has_bit_not m y h l)
    (pick (has_bit m y) (has_bit a y) (has_bit b y)))

-- Bits 0 to 15.
pub has_bit_fixed : (y : ℕ) → has_bit 65535 y ≡ ltb y 16
has_bit_fixed y = elim (cases_lt y 16) [
  | inl l ↦ has_bit_one 65535 y (bit_at_ones 16 y l) ∙ sym (lt-ltb y 16 l)
  | inr l ↦ has_bit_zero 65535 y (bit_at_ones_above 16 y l) ∙ sym (le-ltb y 16 l)
]

-- A word moved up by one bit.
has_bit_doubled : (n y : ℕ) → y ≢ 0 → has_bit (n * 2 ^ 1 + 0) y ≡ has_bit n (y - 1)
has_bit_doubled n y some = has_bit_apart (n * 2 ^ 1 + 0) n y (y - 1) (bit_at_cat_high n 1 0 y (omega arith) (omega arith))

-- What it loses at its top has no part in the bits below.
pub has_bit_moved : (n y : ℕ) → y < 64 → y ≢ 0 → has_bit (n * 2 ^ 1 % 18446744073709551616) y ≡ has_bit n (y - 1)
has_bit_moved n y l some =
    let whole : (n * 2 ^ 1 / 2 ^ 64) * 2 ^ 64 + n * 2 ^ 1 % 2 ^ 64 ≡ n * 2 ^ 1 + 0 = omega arith in
    has_bit_like _ _ y (sym (bit_at_cat_low (n * 2 ^ 1 / 2 ^ 64) 64 (n * 2 ^ 1 % 2 ^ 64) y l) ∙ ap (λ (m : ℕ). bit_at m y) whole)
    ∙ has_bit_doubled n y some

-- The bits that a move's mask stands for.
pub moved_bits : (mask y : ℕ) → is_moved mask y ≡ (not (eqb y 0) && cond (ltb y 16) (has_bit mask y) (has_bit mask 16))
unfolding has_bit
moved_bits mask y = refl

-- The lowest bit of a word that has one.
pub lowest_there : (n : ℕ) → n ≢ 0 → n < 2 ^ 64 → has_bit n (trailing_zeros w64 n) ≡ true
lowest_there n some fits = has_bit_one n (trailing_zeros w64 n) (bit_at-trailing_zeros w64 n (omega arith) fits).1

-- A word without one of its bits, which is less.
pub without_bits : (n k y : ℕ) → k < 64 → y < 64 → has_bit (bit_and n (18446744073709551615 - 1 * 2 ^ k % 18446744073709551616)) y
    ≡ (not (eqb y k) && has_bit n y)
without_bits n k y l m = clear_value n k false l refl y m ∙ by_bool (eqb y k)
  where
    by_bool : (b : Bool) → cond b false (has_bit n y) ≡ (not b && has_bit n y)
    by_bool true = refl
    by_bool false = refl

pub without_less : (n k : ℕ) → k < 64 → has_bit n k ≡ true → bit_and n (18446744073709551615 - 1 * 2 ^ k % 18446744073709551616) < n
without_less n k l there = omega (arith, and_le_l n (18446744073709551615 - 1 * 2 ^ k % 18446744073709551616), apart)
  where
    apart : bit_and n (18446744073709551615 - 1 * 2 ^ k % 18446744073709551616) ≡ n → ⊥
    apart e = true≢false (sym there ∙ ap (λ (m : ℕ). has_bit m k) (sym e) ∙ without_bits n k k l l ∙ (rw (eq-eqb k k refl) refl))
