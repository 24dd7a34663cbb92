-- A word with one bit changed.
use Rattle.std.proofs.Common.{◌≡◌, ℕ, ◌+◌, ◌-◌, ◌*◌, ◌/◌, ◌%◌, ◌^◌, ◌<◌, ◌≤◌, Bool, true, false, sym, ap, ◌∙◌, arith, subst, pow-add}
use mathlib.Core.Bool.{beq}
use Rattle.std.specs.Prelude.{◌==◌}
use Rattle.std.proofs.lemmas.Bool.Decides.{nat_tests}
use Rattle.std.proofs.lemmas.Grind.{pow_more}
use Rattle.std.proofs.lemmas.Nat.{pow_pos, shr_split, shr-shr, shr_below, mod_below}
use Rattle.std.proofs.Math.Nat.{add-mul, mul_comm, mul_assoc, mul-le-mul_right, mod-eq_of_lt}
use Rattle.std.proofs.Math.Pow.{pow-lt}
use Rattle.ia_meaning.specs.Arithmetic.{bit}
use Rattle.ia_meaning.specs.Steps.{with_bit}

-- A word by the bits below one, this one and those above it.
parts : (n k : ℕ) → n ≡ n % 2 ^ k + n / 2 ^ k % 2 * 2 ^ k + 2 ^ (k + 1) * (n / 2 ^ (k + 1))
parts n k =
    let half : n / 2 ^ k / 2 ≡ n / 2 ^ (k + 1) = shr-shr n k 1 in
    let halves : n / 2 ^ k ≡ n / 2 ^ k / 2 * 2 + n / 2 ^ k % 2 = omega arith in
    let split : n / 2 ^ k * 2 ^ k ≡ n / 2 ^ k / 2 * 2 * 2 ^ k + n / 2 ^ k % 2 * 2 ^ k =
    ap (λ q. q * 2 ^ k) halves ∙ add-mul (n / 2 ^ k / 2 * 2) (n / 2 ^ k % 2) (2 ^ k) in
    let above : n / 2 ^ k / 2 * 2 * 2 ^ k ≡ 2 ^ (k + 1) * (n / 2 ^ (k + 1)) =
    mul_assoc (n / 2 ^ k / 2) 2 (2 ^ k)
    ∙ ap (λ w. n / 2 ^ k / 2 * w) (mul_comm 2 (2 ^ k) ∙ sym (pow_more 2 k))
    ∙ ap (λ h. h * 2 ^ (k + 1)) half
    ∙ mul_comm (n / 2 ^ (k + 1)) (2 ^ (k + 1)) in
    let whole = shr_split n k in
    omega arith

-- The weight of a bit, as code makes it.
weight : (k : ℕ) → k ≤ 63 → 1 * 2 ^ k % 18446744073709551616 ≡ 2 ^ k
weight k h =
    let below : 2 ^ k < 2 ^ 64 = pow-lt {i = k} {j = 64} (omega arith) in
    let one : 1 * 2 ^ k ≡ 2 ^ k = omega arith in
    ap (λ w. w % 18446744073709551616) one ∙ mod-eq_of_lt below

set_is_one : (d : ℕ) → (d == 1) ≡ true → d ≡ 1
set_is_one d e = grind (arith, nat_tests)

clear_is_zero : (d : ℕ) → d < 2 → (d == 1) ≡ false → d ≡ 0
clear_is_zero d h e = grind (arith, nat_tests)

with_one : (n k : ℕ) → n / 2 ^ k % 2 ≡ 1 → n ≡ n % 2 ^ k + 2 ^ k + 2 ^ (k + 1) * (n / 2 ^ (k + 1))
with_one n k e =
    let p : n / 2 ^ k % 2 * 2 ^ k ≡ 1 * 2 ^ k = ap (λ d. d * 2 ^ k) e in
    let whole = parts n k in
    omega arith

with_zero : (n k : ℕ) → n / 2 ^ k % 2 ≡ 0 → n ≡ n % 2 ^ k + 2 ^ (k + 1) * (n / 2 ^ (k + 1))
with_zero n k e =
    let p : n / 2 ^ k % 2 * 2 ^ k ≡ 0 * 2 ^ k = ap (λ d. d * 2 ^ k) e in
    let whole = parts n k in
    omega arith

-- The parts of a word with this bit, and of one without it.
when_set : (n k : ℕ) → bit n k ≡ true → n ≡ n % 2 ^ k + 2 ^ k + 2 ^ (k + 1) * (n / 2 ^ (k + 1))
when_set n k e = with_one n k (set_is_one (n / 2 ^ k % 2) e)

when_clear : (n k : ℕ) → bit n k ≡ false → n ≡ n % 2 ^ k + 2 ^ (k + 1) * (n / 2 ^ (k + 1))
when_clear n k e = with_zero n k (clear_is_zero (n / 2 ^ k % 2) (omega arith) e)

-- The bit is as given.
same_bit : (n k : ℕ) (b : Bool) → bit n k ≡ b → n ≡ with_bit n k b
same_bit n k true e = when_set n k e
same_bit n k false e = let whole = when_clear n k e in omega arith

-- Where the test of the code finds the bit as given, the number has it already.
pub already : (n k : ℕ) (found b : Bool) → found ≡ bit n k → beq found b ≡ true → n ≡ with_bit n k b
already n k true true e h = same_bit n k true (sym e)
already n k false false e h = same_bit n k false (sym e)
already n k true false e h = cc
already n k false true e h = cc

-- The bit is set.
pub bit_set : (n k : ℕ) → k ≤ 63 → bit n k ≡ false → n + 1 * 2 ^ k % 18446744073709551616 ≡ with_bit n k true
bit_set n k h e =
    let whole = when_clear n k e in
    let w = weight k h in
    omega arith

-- The bit is cleared.
pub bit_cleared : (n k : ℕ) → k ≤ 63 → bit n k ≡ true → n - 1 * 2 ^ k % 18446744073709551616 ≡ with_bit n k false
bit_cleared n k h e =
    let whole = when_set n k e in
    let w = weight k h in
    omega arith

pub weight_within : (n k : ℕ) → k ≤ 63 → bit n k ≡ true → 1 * 2 ^ k % 18446744073709551616 ≤ n
weight_within n k h e =
    let whole = when_set n k e in
    let w = weight k h in
    omega arith

-- The word with the bit set is a word.
pub sum_fits : (n k : ℕ) → n < 18446744073709551616 → k ≤ 63 → bit n k ≡ false → n + 1 * 2 ^ k % 18446744073709551616 < 18446744073709551616
sum_fits n k word h e =
    let whole = when_clear n k e in
    let w = weight k h in
    let j : ℕ = 63 - k in
    let all : j + (k + 1) ≡ 64 = omega arith in
    let top : n / 2 ^ (k + 1) < 2 ^ j = shr_below n j (k + 1) (subst (λ i. n < 2 ^ i) (sym all) word) in
    let room : (n / 2 ^ (k + 1) + 1) * 2 ^ (k + 1) ≤ 2 ^ j * 2 ^ (k + 1) = mul-le-mul_right (2 ^ (k + 1)) (omega arith) in
    let spread : (n / 2 ^ (k + 1) + 1) * 2 ^ (k + 1) ≡ n / 2 ^ (k + 1) * 2 ^ (k + 1) + 1 * 2 ^ (k + 1) =
    add-mul (n / 2 ^ (k + 1)) 1 (2 ^ (k + 1)) in
    let whole_word : 2 ^ j * 2 ^ (k + 1) ≡ 2 ^ 64 = sym (pow-add 2 j (k + 1)) ∙ ap (λ i. 2 ^ i) all in
    let swap : n / 2 ^ (k + 1) * 2 ^ (k + 1) ≡ 2 ^ (k + 1) * (n / 2 ^ (k + 1)) = mul_comm (n / 2 ^ (k + 1)) (2 ^ (k + 1)) in
    let double = pow_more 2 k in
    let low : n % 2 ^ k < 2 ^ k = mod_below n (2 ^ k) (pow_pos k) in
    omega arith
