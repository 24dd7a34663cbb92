-- Lists of lanes as the digits of a word.
use Rattle.std.proofs.Common.{◌≡◌, refl, sym, ap, subst, ◌∙◌, ℕ, zero, suc, ◌+◌, ◌-◌, ◌*◌, ◌/◌, ◌%◌, ◌^◌, ◌<◌, length, List, [], ◌∷◌, arith}
use Rattle.std.specs.Int.{w64, to_le_bytes, from_le_bytes}
use Rattle.std.specs.Simd.Lanes.{zip2, Each1, number_l, digits_l}
use Rattle.std.proofs.lemmas.Nat.{pow-add, pow_pos, mod_below, shr-shr, shr_below, div-add-mod', from_le_bytes-to_le_bytes_8}
use Rattle.std.proofs.Math.Nat.{mul_comm, mul_assoc, add-mul, mod-eq_of_lt, mul-add-mod_self_left, mul-add-div, div-eq_of_lt, div-one}
use Rattle.ia_insn.specs.declared.choices.LaneFn.{LaneFn}
use Rattle.ia_meaning.specs.Lanes.{lane, lane_value, lanes_from}
use Rattle.ia_meaning.proofs.LaneValues.{lane_fits, lanes_fit}

number_of_digits : (w n x : ℕ) → x < 2 ^ (w * n) → number_l (2 ^ w) (digits_l (2 ^ w) n x) ≡ x
number_of_digits w zero x h = let one : 2 ^ (w * 0) ≡ 1 = ap (λ k. 2 ^ k) (let e : w * 0 ≡ 0 = omega arith in e) in omega (arith, h, one)
number_of_digits w (suc n) x h =
    let same : w * suc n ≡ w * n + w = omega arith in
    let rest = number_of_digits w n (x / 2 ^ w) (shr_below x (w * n) w (rw same at h)) in
    let whole : x / 2 ^ w * 2 ^ w + x % 2 ^ w ≡ x = div-add-mod' x (2 ^ w) in
    rw rest (omega (arith, whole))

digits_of_number : (p n : ℕ) (xs : List ℕ) → length xs ≡ n → Each1 (λ x. x < p) xs → digits_l p n (number_l p xs) ≡ xs
digits_of_number p zero [] e h = refl
digits_of_number p (suc n) [] e h = absurd (omega (arith, e))
digits_of_number p zero (x ∷ xs) e h = absurd (omega (arith, e))
digits_of_number p (suc n) (x ∷ xs) e h =
    let rest = number_l p xs in
    let turn : x + p * rest ≡ p * rest + x = omega arith in
    let low : (x + p * rest) % p ≡ x = ap (λ m. m % p) turn ∙ mul-add-mod_self_left p rest x ∙ mod-eq_of_lt h.0 in
    let high : (x + p * rest) / p ≡ rest =
    ap (λ m. m / p) turn ∙ mul-add-div (let some : 0 < p = omega (arith, h.0) in some) rest x ∙ (rw (div-eq_of_lt h.0) (omega arith)) in
    rw (low, high, digits_of_number p n xs (omega (arith, e)) h.1) refl

-- The sum of lanes, each at its place, is the number whose digits they are.
lanes_are : (f : LaneFn) (w a b k n : ℕ) → number_l (2 ^ w) (zip2 (lane_value f w) (digits_l (2 ^ w) n (a / 2 ^ (w * k)))
    (digits_l (2 ^ w) n (b / 2 ^ (w * k)))) * 2 ^ (w * k) ≡ lanes_from f w a b k n
lanes_are f w a b k zero = omega arith
lanes_are f w a b k (suc n) =
    let same : w * k + w ≡ w * suc k = omega arith in
    let next = λ (x : ℕ). shr-shr x (w * k) w ∙ ap (λ j. x / 2 ^ j) same in
    let power : 2 ^ (w * suc k) ≡ 2 ^ (w * k) * 2 ^ w = ap (λ j. 2 ^ j) (sym same) ∙ pow-add 2 (w * k) w in
    let rest = lanes_are f w a b (suc k) n in
    let x = lane_value f w (lane w k a) (lane w k b) in
    let m =
    number_l (2 ^ w) (zip2 (lane_value f w) (digits_l (2 ^ w) n (a / 2 ^ (w * suc k))) (digits_l (2 ^ w) n (b / 2 ^ (w * suc k)))) in
    rw (next a, next b) (spread x (2 ^ w) m (2 ^ (w * k)) ∙ ap (λ q. x * 2 ^ (w * k) + m * q) (sym power)
    ∙ ap (λ r. x * 2 ^ (w * k) + r) rest)
  where
    spread : (x p m q : ℕ) → (x + p * m) * q ≡ x * q + m * (q * p)
    spread x p m q =
        add-mul x (p * m) q ∙ ap (λ r. x * q + r) (ap (λ r. r * q) (mul_comm p m) ∙ mul_assoc m p q ∙ ap (λ r. m * r) (mul_comm p q))

-- The lanes of two words, taken as digits, come to the sum of all lanes.
sum_of_lanes : (f : LaneFn) (w n a b : ℕ) → number_l (2 ^ w) (zip2 (lane_value f w) (digits_l (2 ^ w) n a) (digits_l (2 ^ w) n b))
    ≡ lanes_from f w a b 0 n
sum_of_lanes f w n a b =
    let one : 2 ^ (w * 0) ≡ 1 = ap (λ k. 2 ^ k) (let e : w * 0 ≡ 0 = omega arith in e) in
    let whole = λ (x : ℕ). ap (λ q. x / q) one ∙ div-one x in
    let h = lanes_are f w a b 0 n in
    (let g : _ = rw (whole a, whole b, one) at h in omega (arith, g))

-- Bytes, from the low end.

by_bytes : (x0 x1 x2 x3 x4 x5 x6 x7 : ℕ) → from_le_bytes w64 (x0 ∷ x1 ∷ x2 ∷ x3 ∷ x4 ∷ x5 ∷ x6 ∷ x7 ∷ [])
    ≡ number_l 256 (x0 ∷ x1 ∷ x2 ∷ x3 ∷ x4 ∷ x5 ∷ x6 ∷ x7 ∷ [])
by_bytes x0 x1 x2 x3 x4 x5 x6 x7 = omega arith

-- The word with these bytes.
word_of_bytes : (n : ℕ) → n < 2 ^ 64 → from_le_bytes w64 (digits_l 256 8 n) ≡ n
word_of_bytes n h = by_bytes _ _ _ _ _ _ _ _ ∙ number_of_digits 8 8 n h

-- The bytes of a word.
number_of_bytes : (a : ℕ) → a < 2 ^ 64 → number_l 256 (to_le_bytes w64 a) ≡ a
number_of_bytes a h = sym (by_bytes _ _ _ _ _ _ _ _) ∙ from_le_bytes-to_le_bytes_8 a h

bytes_are : (a : ℕ) → a < 2 ^ 64 → to_le_bytes w64 a ≡ digits_l 256 8 a
bytes_are a h =
    let below = λ (n : ℕ). mod_below n 256 (omega arith) in
    sym (digits_of_number 256 8 (to_le_bytes w64 a) refl (
      below _,
      (below _, (below _, (below _, (below _, (below _, (below _, (below _, tt))))))),
    )) ∙ ap (digits_l 256 8) (number_of_bytes a h)

-- Operations on the vectors of two words.

fit : (f : LaneFn) (w : ℕ) (xs ys : List ℕ) → Each1 (λ z. z < 2 ^ w) (zip2 (lane_value f w) xs ys)
fit f w [] ys = tt
fit f w (x ∷ xs) [] = tt
fit f w (x ∷ xs) (y ∷ ys) = (lane_fits f w x y, fit f w xs ys)

long : (f : LaneFn) (w p n a b : ℕ) → length (zip2 (lane_value f w) (digits_l p n a) (digits_l p n b)) ≡ n
long f w p zero a b = refl
long f w p (suc n) a b = ap suc (long f w p n (a / p) (b / p))

-- In lanes of more than a byte.
pub by_lanes : (f : LaneFn) (w n a b : ℕ) (us vs made bytes : List ℕ) → a < 2 ^ 64 → b < 2 ^ 64 → w * n ≡ 64 → us ≡ to_le_bytes w64 a
    → vs ≡ to_le_bytes w64 b
    → made ≡ zip2 (lane_value f w) (digits_l (2 ^ w) n (number_l 256 us)) (digits_l (2 ^ w) n (number_l 256 vs))
    → bytes ≡ digits_l 256 8 (number_l (2 ^ w) made) → from_le_bytes w64 bytes ≡ lanes_from f w a b 0 n
by_lanes f w n a b us vs made bytes h k whole us_are vs_are made_are bytes_are =
    let of_a : number_l 256 us ≡ a = ap (number_l 256) us_are ∙ number_of_bytes a h in
    let of_b : number_l 256 vs ≡ b = ap (number_l 256) vs_are ∙ number_of_bytes b k in
    let zs = zip2 (lane_value f w) (digits_l (2 ^ w) n a) (digits_l (2 ^ w) n b) in
    let are : made ≡ zs = made_are ∙ rw (of_a, of_b) refl in
    let sum = sum_of_lanes f w n a b in
    let most = lanes_fit f w a b 0 n in
    let some = pow_pos (w * 0) in
    let bits : w * (0 + n) ≡ 64 = ap (λ m. w * m) (let e : 0 + n ≡ n = omega arith in e) ∙ whole in
    let below : number_l (2 ^ w) zs < 2 ^ 64 = omega (arith, sum, rw bits at most, some) in
    ap (from_le_bytes w64) (bytes_are ∙ ap (λ xs. digits_l 256 8 (number_l (2 ^ w) xs)) are) ∙ word_of_bytes (number_l (2 ^ w) zs) below
    ∙ sum

-- In bytes.
pub by_single_bytes : (f : LaneFn) (a b : ℕ) (us vs bytes : List ℕ) → a < 2 ^ 64 → b < 2 ^ 64 → us ≡ to_le_bytes w64 a
    → vs ≡ to_le_bytes w64 b → bytes ≡ zip2 (lane_value f 8) us vs → from_le_bytes w64 bytes ≡ lanes_from f 8 a b 0 8
by_single_bytes f a b us vs bytes h k us_are vs_are are =
    let same =
    λ (ws : List ℕ) (n : ℕ) (l : n < 2 ^ 64) (e : ws ≡ to_le_bytes w64 n). e ∙ bytes_are n l
    ∙ ap (digits_l 256 8) (sym (ap (number_l 256) e ∙ number_of_bytes n l)) in
    let made : bytes ≡ zip2 (lane_value f 8) (digits_l 256 8 (number_l 256 us)) (digits_l 256 8 (number_l 256 vs)) =
    are ∙ ap (λ xs. zip2 (lane_value f 8) xs vs) (same us a h us_are)
    ∙ ap (λ ys. zip2 (lane_value f 8) (digits_l 256 8 (number_l 256 us)) ys) (same vs b k vs_are) in
    let eight : length bytes ≡ 8 = ap length made ∙ long f 8 256 8 (number_l 256 us) (number_l 256 vs) in
    let below : Each1 (λ x. x < 256) bytes =
    subst (Each1 (λ x. x < 256)) (sym made) (fit f 8 (digits_l 256 8 (number_l 256 us)) (digits_l 256 8 (number_l 256 vs))) in
    by_lanes f 8 8 a b us vs bytes bytes h k refl us_are vs_are made (sym (digits_of_number 256 8 bytes eight below))
