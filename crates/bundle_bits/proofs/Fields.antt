-- A word as what stands above a field, the field, and what stands below it.
use Rattle.std.proofs.Common.{◌≡◌, ℕ, ◌+◌, ◌-◌, ◌*◌, ◌/◌, ◌%◌, ◌^◌, ◌<◌, ◌≤◌, sym, ap, ◌∙◌, arith, subst, pow-add, ◌⊎◌, inl, inr}
use Rattle.std.proofs.lemmas.Nat.{shr_split, shr-shr, shr_high, mod_low, shl_whole, and_mask, field_of, pow_pos, shr_below, mul-add-lt, mod-pow-add, mod_below}
use Rattle.std.proofs.lemmas.Nat.Bits.{ones_shr}
use Rattle.std.specs.Prelude.{bit_and}
use Rattle.bundle_bits.specs.Words.{bits}

-- The parts of a word at a field.
pub whole : (n low width : ℕ) → n ≡ (n / 2 ^ (low + width) * 2 ^ width + bits low width n) * 2 ^ low + n % 2 ^ low
whole n low width =
    sym (shr_split n low) ∙ ap (λ q. q * 2 ^ low + n % 2 ^ low) (sym (shr_split (n / 2 ^ low) width)
    ∙ ap (λ h. h * 2 ^ width + bits low width n) (shr-shr n low width))

-- What the code reads.
pub read : (n low width : ℕ) → width ≤ 64 → bit_and (n / 2 ^ low) (18446744073709551615 / 2 ^ (64 - width)) ≡ bits low width n
read n low width h =
    let mask : 18446744073709551615 / 2 ^ (64 - width) ≡ 2 ^ width - 1 =
    ones_shr 64 (64 - width) (omega arith) ∙ ap (λ k. 2 ^ k - 1) (let e : 64 - (64 - width) ≡ width = omega arith in e) in
    ap (λ m. bit_and (n / 2 ^ low) m) mask ∙ and_mask (n / 2 ^ low) width

below_pow : (n k : ℕ) → n % 2 ^ k < 2 ^ k
below_pow n k = mod_below n (2 ^ k) (pow_pos k)

-- What the code reads is below the field's limit.
pub read-below : (n low width : ℕ) → width ≤ 64 → bit_and (n / 2 ^ low) (18446744073709551615 / 2 ^ (64 - width)) < 2 ^ width
read-below n low width h = rw (read n low width h) (below_pow (n / 2 ^ low) width)

-- The word with another value in the field.
abbrev pub with_bits : (n low width v : ℕ) → ℕ
with_bits n low width v = (n / 2 ^ (low + width) * 2 ^ width + v) * 2 ^ low + n % 2 ^ low

pub with-same : (n low width v : ℕ) → v < 2 ^ width → bits low width (with_bits n low width v) ≡ v
with-same n low width v h =
    ap (λ q. q % 2 ^ width) (shr_high (n / 2 ^ (low + width) * 2 ^ width + v) low (n % 2 ^ low) (below_pow n low))
    ∙ mod_low (n / 2 ^ (low + width)) width v h

pub with-below : (n low width v : ℕ) → with_bits n low width v % 2 ^ low ≡ n % 2 ^ low
with-below n low width v = mod_low (n / 2 ^ (low + width) * 2 ^ width + v) low (n % 2 ^ low) (below_pow n low)

pub with-above : (n low width v : ℕ) → v < 2 ^ width → with_bits n low width v / 2 ^ (low + width) ≡ n / 2 ^ (low + width)
with-above n low width v h =
    sym (shr-shr (with_bits n low width v) low width)
    ∙ ap (λ q. q / 2 ^ width) (shr_high (n / 2 ^ (low + width) * 2 ^ width + v) low (n % 2 ^ low) (below_pow n low))
    ∙ shr_high (n / 2 ^ (low + width)) width v h

pub with-fits : (n low width v w : ℕ) → low + width ≤ w → n < 2 ^ w → v < 2 ^ width → with_bits n low width v < 2 ^ w
with-fits n low width v w within fits h =
    let d : ℕ = w - (low + width) in
    let e : w ≡ d + (low + width) = omega arith in
    let top : n / 2 ^ (low + width) < 2 ^ d = shr_below n d (low + width) (subst (λ k. n < 2 ^ k) e fits) in
    let mid : n / 2 ^ (low + width) * 2 ^ width + v < 2 ^ width * 2 ^ d = mul-add-lt _ (2 ^ width) v (2 ^ d) top h in
    let all : with_bits n low width v < 2 ^ low * (2 ^ width * 2 ^ d) = mul-add-lt _ (2 ^ low) (n % 2 ^ low) _ mid (below_pow n low) in
    let p : 2 ^ low * (2 ^ width * 2 ^ d) ≡ 2 ^ w =
    ap (λ q. 2 ^ low * q) (sym (pow-add 2 width d)) ∙ sym (pow-add 2 low (width + d))
    ∙ ap (λ k. 2 ^ k) (let k : low + (width + d) ≡ w = omega arith in k) in
    subst (λ q. with_bits n low width v < q) p all

-- The low bits of the low bits.
low_low : (n j k : ℕ) → k ≤ j → n % 2 ^ j % 2 ^ k ≡ n % 2 ^ k
low_low n j k h =
    let e : j ≡ (j - k) + k = omega arith in
    ap (λ i. n % 2 ^ i % 2 ^ k) e ∙ ap (λ q. q % 2 ^ k) (mod-pow-add n (j - k) k)
    ∙ mod_low (n / 2 ^ k % 2 ^ (j - k)) k (n % 2 ^ k) (below_pow n k)

-- A field in the low bits.
low_field : (n j low width : ℕ) → low + width ≤ j → bits low width (n % 2 ^ j) ≡ bits low width n
low_field n j low width h =
    let e : j ≡ (j - low) + low = omega arith in
    ap (λ i. n % 2 ^ i / 2 ^ low % 2 ^ width) e ∙ ap (λ q. q % 2 ^ width) (field_of n (j - low) low)
    ∙ low_low (n / 2 ^ low) (j - low) width (omega arith)

-- A field in the high bits.
high_field : (n j low width : ℕ) → j ≤ low → bits low width n ≡ bits (low - j) width (n / 2 ^ j)
high_field n j low width h =
    let e : low ≡ j + (low - j) = omega arith in
    ap (λ i. n / 2 ^ i % 2 ^ width) e ∙ ap (λ q. q % 2 ^ width) (sym (shr-shr n j (low - j)))

-- A field that shares no bit with the changed one stays.
pub with-other : (n low width v : ℕ) → v < 2 ^ width → (l k : ℕ) → (l + k ≤ low) ⊎ (low + width ≤ l)
    → bits l k (with_bits n low width v) ≡ bits l k n
with-other n low width v h l k (inl p) =
    sym (low_field (with_bits n low width v) low l k p) ∙ ap (λ q. bits l k q) (with-below n low width v) ∙ low_field n low l k p
with-other n low width v h l k (inr p) =
    high_field (with_bits n low width v) (low + width) l k p ∙ ap (λ q. bits (l - (low + width)) k q) (with-above n low width v h)
    ∙ sym (high_field n (low + width) l k p)

-- What the code writes.
pub changed : (n low width v : ℕ) → (n - bits low width n * 2 ^ low) + v * 2 ^ low ≡ with_bits n low width v
changed n low width v = omega (arith, whole n low width)
