-- Numbers with a bound on their bits.
use Rattle.std.proofs.Common.{◌≡◌, ℕ, ◌+◌, ◌-◌, ◌*◌, ◌/◌, ◌%◌, ◌^◌, ◌<◌, ◌≤◌, suc, true, false, cond, leb, ltb, eqb, sym, ap, ◌∙◌, arith, lit<, pow-add, subst, refl}
use Rattle.std.proofs.lemmas.Nat.{mod_below, pow_pos, shr_split, one_shl}
use Rattle.std.proofs.Math.Nat.{div-eq_of_lt, pow-le-pow_right, pow-suc}
use Rattle.std.proofs.lemmas.Bool.{leb-true, ltb-true, ltb-false, eqb-true}
use Rattle.std.specs.Prelude.{ℤ, pos, negsuc}
use Rattle.ia_insn.specs.Signed.{twos, signed_value, FitsSigned}
use Rattle.ia_insn.proofs.Numbers.{half}
use Rattle.std.specs.Prelude.{◌&&◌}
use Rattle.bundle_bits.proofs.Words.{both-right}

-- A number has at most w bits where nothing is above them.
pub shifted : (n w : ℕ) → n / 2 ^ w ≡ 0 → n < 2 ^ w
shifted n w h =
    let e : n / 2 ^ w * 2 ^ w + n % 2 ^ w ≡ n = shr_split n w in
    let z : n / 2 ^ w * 2 ^ w ≡ 0 * 2 ^ w = ap (λ q. q * 2 ^ w) h in
    let b : n % 2 ^ w < 2 ^ w = mod_below n (2 ^ w) (pow_pos w) in
    omega arith

pub unshifted : (n w : ℕ) → n < 2 ^ w → n / 2 ^ w ≡ 0
unshifted n w h = div-eq_of_lt h

pub power_is : (n : ℕ) → n ≤ 61 → 1 * 2 ^ n % 18446744073709551616 ≡ 2 ^ n
power_is n h = one_shl n 64 (omega arith)

pub power_most : (n : ℕ) → n ≤ 61 → 1 * 2 ^ n % 18446744073709551616 ≤ 2 ^ 61
power_most n h = rw (power_is n h) (pow-le-pow_right (lit< tt) h)

-- Fewer bits.
pub fewer : (n w k : ℕ) → w ≤ k → n < 2 ^ w → n < 2 ^ k
fewer n w k h fit = let e : 2 ^ w ≤ 2 ^ k = pow-le-pow_right (lit< tt) h in omega arith

-- A power of 2 over the one before it.
pub doubled : (w : ℕ) → 2 ^ (w + 1) ≡ 2 * 2 ^ w
doubled w = ap (λ k. 2 ^ k) (let e : w + 1 ≡ suc w = omega arith in e) ∙ pow-suc 2 w ∙ (omega arith)

pub half_below : (n w : ℕ) → n < 2 ^ (w + 1) → n / 2 < 2 ^ w
half_below n w h = let e = doubled w in omega arith

pub half_above : (n w : ℕ) → n / 2 < 2 ^ w → n < 2 ^ (w + 1)
half_above n w h = let e = doubled w in omega arith

-- A power of 2 over the one that is 16 lower.
pub raised : (w : ℕ) → 2 ^ (w + 16) ≡ 2 ^ w * 65536
raised w = pow-add 2 w 16

pub high_below : (n w : ℕ) → n < 2 ^ (w + 16) → n / 65536 < 2 ^ w
high_below n w h = let e = raised w in omega arith

pub shifted_below : (n w : ℕ) → n < 2 ^ w → n * 65536 < 2 ^ (w + 16)
shifted_below n w h = let e = raised w in omega arith

-- What a coding that suits a width says of it.
pub up_to_below : (n most w : ℕ) → n ≤ most → (leb w 8 && ltb most (2 ^ w)) ≡ true → n < 2 ^ w
up_to_below n most w h s = let a = ltb-true _ _ (both-right (leb w 8) _ s) in omega arith

pub small_below : (n w : ℕ) → leb w 8 ≡ true → n < 2 ^ w → n < 256
small_below n w h fit = let a = fewer n w 8 (leb-true _ _ h) fit in omega arith

pub mask_below : (n w : ℕ) → leb w 31 ≡ true → n < 2 ^ w → 2 * n < 4294967296
mask_below n w h fit = let a = fewer n w 31 (leb-true _ _ h) fit in omega arith

-- The limit of a width that is known.
pub known_below : (n w k : ℕ) → eqb w k ≡ true → n < 2 ^ w → n < 2 ^ k
known_below n w k e fit = let P : ℕ → Type 0 = λ m. n < 2 ^ m in subst P (eqb-true w k e) fit

pub known_above : (n w k : ℕ) → eqb w k ≡ true → n < 2 ^ k → n < 2 ^ w
known_above n w k e fit = let P : ℕ → Type 0 = λ m. n < 2 ^ m in subst P (sym (eqb-true w k e)) fit

pub raised_in_64 : (n w : ℕ) → w ≤ 41 → n < 2 ^ w → n * 65536 % 18446744073709551616 < 2 ^ (w + 16)
raised_in_64 n w s fit =
    let a = fewer n w 41 s fit in
    let b = shifted_below n w fit in
    omega arith

-- A signed number by its two's complement.
pub signed_fits : (w n : ℕ) → 1 ≤ w → n < 2 ^ w → FitsSigned w (signed_value w n)
signed_fits w n s h =
    elim (ltb n (2 ^ (w - 1))) as (λ b. ltb n (2 ^ (w - 1)) ≡ b → FitsSigned w (cond b (pos n) (negsuc (2 ^ w - suc n)))) [
      | true ↦ λ e. ltb-true _ _ e
      | false ↦ λ e. let d = half w s in let f : 2 ^ (w - 1) ≤ n = ltb-false _ _ e in omega arith
    ] refl

-- A number has also as many bits as are enough for all of fewer.
pub wider : (w k : ℕ) (z : ℤ) → w ≤ k → FitsSigned w z → FitsSigned k z
wider w k (pos n) h fit = fewer n (w - 1) (k - 1) (omega arith) fit
wider w k (negsuc n) h fit = fewer n (w - 1) (k - 1) (omega arith) fit

pub twos-signed : (w n : ℕ) → 1 ≤ w → n < 2 ^ w → twos w (signed_value w n) ≡ n
twos-signed w n s h = elim (ltb n (2 ^ (w - 1))) as (λ b. twos w (cond b (pos n) (negsuc (2 ^ w - suc n))) ≡ n) [
  | true ↦ refl
  | false ↦ omega arith
]

-- Of which the low 16 bits are zeros.
pub raised_zeros : (w n : ℕ) → n < 2 ^ w → twos (w + 16) (signed_value (w + 16) (n * 2 ^ 16)) % 2 ^ 16 ≡ 0
raised_zeros w n h =
    let a : twos (w + 16) (signed_value (w + 16) (n * 2 ^ 16)) ≡ n * 2 ^ 16 =
    twos-signed (w + 16) (n * 2 ^ 16) (omega arith) (shifted_below n w h) in
    omega arith

pub raised_fits : (w n : ℕ) → n < 2 ^ w → FitsSigned (w + 16) (signed_value (w + 16) (n * 2 ^ 16))
raised_fits w n h = signed_fits (w + 16) (n * 2 ^ 16) (omega arith) (shifted_below n w h)

pub raised_whole : (n w : ℕ) → w ≤ 41 → n < 2 ^ w → n * 65536 % 18446744073709551616 ≡ n * 2 ^ 16
raised_whole n w s fit = let a = fewer n w 41 s fit in omega arith
