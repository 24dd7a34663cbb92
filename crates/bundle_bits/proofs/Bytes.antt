-- Sixteen bytes and their number.
use Rattle.std.proofs.Common.{◌≡◌, ℕ, zero, suc, ◌+◌, ◌*◌, ◌/◌, ◌%◌, ◌^◌, ◌<◌, List, [], ◌∷◌, length, get_or, sym, ap, ◌∙◌, subst, refl, arith}
use Rattle.std.specs.Int.{w128, from_le_bytes, to_le_bytes, bytes_low_first, byte_at}
use Rattle.std.proofs.lemmas.Nat.{mod-mul-add, div-mul-add, mod_below, div-add-mod'}
use Rattle.std.proofs.Math.Nat.{div-div-eq-div-mul, pow-suc, one-le-pow}
use Rattle.bundle_bits.specs.RawBundle.{AreBytes}

-- Bytes as a number, by recursion.
abbrev value : List ℕ → ℕ
value [] = 0
value (b ∷ bs) = value bs * 256 + b

from-value : (bs : List ℕ) → length bs ≡ 16 → from_le_bytes w128 bs ≡ value bs
from-value (a ∷ b ∷ c ∷ d ∷ e ∷ f ∷ g ∷ h ∷ i ∷ j ∷ k ∷ l ∷ m ∷ n ∷ o ∷ p ∷ []) is = omega arith
from-value bs is = absurd (omega arith)

byte-value : (i n : ℕ) (b rest : ℕ) → b < 256 → n / 256 ^ i ≡ rest * 256 + b → byte_at i n ≡ b
byte-value zero n b rest small is = omega arith
byte-value (suc i) n b rest small is = ap (λ q. q % 256) is ∙ mod-mul-add rest 256 b small

next : (i n b rest : ℕ) → b < 256 → n / 256 ^ i ≡ rest * 256 + b → n / 256 ^ suc i ≡ rest
next i n b rest small is =
    ap (λ q. n / q) (pow-suc 256 i) ∙ sym (div-div-eq-div-mul n (256 ^ i) 256) ∙ ap (λ q. q / 256) is ∙ div-mul-add rest 256 b small

bytes-value : (bs : List ℕ) (i n : ℕ) → ((k : ℕ) → get_or bs k 0 < 256) → n / 256 ^ i ≡ value bs → bytes_low_first i (length bs) n ≡ bs
bytes-value [] i n small is = refl
bytes-value (b ∷ bs) i n small is =
    let here = byte-value i n b (value bs) (small 0) is in
    let rest = bytes-value bs (suc i) n (λ k. small (suc k)) (next i n b (value bs) (small 0) is) in
    λ t. here t ∷ rest t

-- The bytes of a number that bytes have are these bytes.
pub back : (bs : List ℕ) (n : ℕ) → length bs ≡ 16 → ((k : ℕ) → get_or bs k 0 < 256) → from_le_bytes w128 bs ≡ n → to_le_bytes w128 n ≡ bs
back bs n count small is =
    ap (λ k. bytes_low_first 0 k n) (sym count) ∙ bytes-value bs 0 n small
    (let e : n / 256 ^ 0 ≡ value bs = omega (arith, from-value bs count) in e)

byte-is : (i n : ℕ) → byte_at i n ≡ n / 256 ^ i % 256
byte-is zero n = omega arith
byte-is (suc i) n = refl

-- One digit more.
longer : (x m : ℕ) → 0 < m → (x / 256 % m) * 256 + x % 256 ≡ x % (m * 256)
longer x m h =
    let q : ℕ = x / 256 in
    let small : q % m < m = mod_below q m h in
    let fits : q % m * 256 + x % 256 < m * 256 = omega arith in
    let split : x ≡ q / m * (m * 256) + (q % m * 256 + x % 256) = omega (arith, div-add-mod' q m, div-add-mod' x 256) in
    sym (ap (λ n. n % (m * 256)) split ∙ mod-mul-add (q / m) (m * 256) (q % m * 256 + x % 256) fits)

value-bytes : (k i n : ℕ) → value (bytes_low_first i k n) ≡ n / 256 ^ i % 256 ^ k
value-bytes zero i n = omega arith
value-bytes (suc k) i n =
    let p : 0 < 256 ^ k = one-le-pow k 256 (omega arith) in
    let shift : n / 256 ^ suc i ≡ n / 256 ^ i / 256 = ap (λ q. n / q) (pow-suc 256 i) ∙ sym (div-div-eq-div-mul n (256 ^ i) 256) in
    ap (λ v. v * 256 + byte_at i n) (value-bytes k (suc i) n ∙ ap (λ q. q % 256 ^ k) shift)
    ∙ ap (λ b. n / 256 ^ i / 256 % 256 ^ k * 256 + b) (byte-is i n) ∙ longer (n / 256 ^ i) (256 ^ k) p
    ∙ ap (λ m. n / 256 ^ i % m) (sym (pow-suc 256 k))

-- The number of a number's bytes.
pub forth : (n : ℕ) → n < 2 ^ 128 → from_le_bytes w128 (to_le_bytes w128 n) ≡ n
forth n fits = from-value (to_le_bytes w128 n) refl ∙ value-bytes 16 0 n ∙ (let e : n / 256 ^ 0 % 256 ^ 16 ≡ n = omega arith in e)

-- Bytes of one number are the same.
pub one-bytes : (x y : List ℕ) → AreBytes x → AreBytes y → from_le_bytes w128 x ≡ from_le_bytes w128 y → x ≡ y
one-bytes x y first second is =
    sym (back x (from_le_bytes w128 y) first.count first.small is) ∙ back y (from_le_bytes w128 y) second.count second.small refl

-- The number of bytes is below 256 to the power of their count.
value-below : (bs : List ℕ) → ((k : ℕ) → get_or bs k 0 < 256) → value bs < 256 ^ length bs
value-below [] small = omega arith
value-below (b ∷ bs) small =
    let rest : value bs < 256 ^ length bs = value-below bs (λ k. small (suc k)) in
    let here : b < 256 = small 0 in
    rw (pow-suc 256 (length bs)) (omega arith)

-- The number of sixteen bytes has 128 bits.
pub number-fits : (bs : List ℕ) → AreBytes bs → from_le_bytes w128 bs < 2 ^ 128
number-fits bs are =
    let below : value bs < 256 ^ 16 = subst (λ k. value bs < 256 ^ k) are.count (value-below bs are.small) in
    omega (arith, from-value bs are.count)
