-- What shifts and masks give.
use Rattle.std.proofs.Common.{◌≡◌, ℕ, ◌+◌, ◌-◌, ◌*◌, ◌/◌, ◌%◌, ◌^◌, ◌<◌, ◌≤◌, sym, ap, ◌∙◌, arith, lit<, pow-add, subst, refl, true, List, [], ◌∷◌, map, add-zero}
use Rattle.std.proofs.lemmas.Nat.{and_mask, shl_whole, mod_below, pow_pos, mul-add-lt}
use Rattle.std.specs.Prelude.{bit_and}
use Rattle.std.proofs.Math.Nat.{zero-mod, zero-div, mul_comm, pow-le-pow_right}
use Rattle.std.proofs.lemmas.Bool.{and_from, eq-eqb}
use Rattle.std.specs.List.{list_all}
use Rattle.bundle_bits.specs.Words.{bits, word_of}
use Rattle.insn_rows.specs.declared.bits.BitField.{BitField}
use Rattle.insn_rows.specs.Scattered.{scattered}
use Rattle.insn_rows.specs.Reading.{gathered}
use Rattle.insn_rows.specs.WellMade.{are_apart_fields, is_clear}
use Rattle.insn_rows.proofs.Spread.{field_of, spread-below}
use Rattle.insn_rows.proofs.Gathering.{scattered_fields, scattered_fit}

pub ones : (w : ℕ) → w ≤ 41 → 1 * 2 ^ w % 18446744073709551616 - 1 ≡ 2 ^ w - 1
ones w h = let fits : 1 + w ≤ 64 = omega arith in ap (λ n. n - 1) (shl_whole 1 1 w 64 (lit< tt) fits ∙ (omega arith))

pub got : (n low w : ℕ) → w ≤ 41 → bit_and (n / 2 ^ low) (1 * 2 ^ w % 18446744073709551616 - 1) ≡ bits low w n
got n low w h = ap (bit_and (n / 2 ^ low)) (ones w h) ∙ and_mask (n / 2 ^ low) w

low_bits : (n w : ℕ) → w ≤ 41 → bit_and n (1 * 2 ^ w % 18446744073709551616 - 1) ≡ n % 2 ^ w
low_bits n w h = ap (bit_and n) (ones w h) ∙ and_mask n w

pub below : (n low w : ℕ) → bits low w n < 2 ^ w
below n low w = mod_below (n / 2 ^ low) (2 ^ w) (pow_pos w)

pub set : (n low w : ℕ) → low + w ≤ 41 → bit_and n (1 * 2 ^ w % 18446744073709551616 - 1) * 2 ^ low % 18446744073709551616
    ≡ n % 2 ^ w * 2 ^ low
set n low w h =
    let fits : w + low ≤ 64 = omega arith in
    ap (λ k. k * 2 ^ low % 18446744073709551616) (low_bits n w (omega arith))
    ∙ shl_whole (n % 2 ^ w) w low 64 (mod_below n (2 ^ w) (pow_pos w)) fits

-- A field lies in its word.
pub field_below : (n low w : ℕ) → low + w ≤ 41 → n % 2 ^ w * 2 ^ low < 2 ^ 41
field_below n low w h =
    let a : n % 2 ^ w * 2 ^ low + 0 < 2 ^ low * 2 ^ w =
    mul-add-lt (n % 2 ^ w) (2 ^ low) 0 (2 ^ w) (mod_below n (2 ^ w) (pow_pos w)) (pow_pos low) in
    let b : 2 ^ low * 2 ^ w ≡ 2 ^ (low + w) = sym (pow-add 2 low w) in
    let c : 2 ^ (low + w) ≤ 2 ^ 41 = pow-le-pow_right (lit< tt) h in
    omega arith

pub set_below : (n low w : ℕ) → low + w ≤ 41 → bit_and n (1 * 2 ^ w % 18446744073709551616 - 1) * 2 ^ low % 18446744073709551616 < 2 ^ 41
set_below n low w h = rw (set n low w h) (field_below n low w h)

-- One number above another.
pub joined : (h l w hw : ℕ) → hw + w ≤ 41 → h < 2 ^ hw → h * 2 ^ w % 18446744073709551616 + l ≡ h * 2 ^ w + l
joined h l w hw room fit = let fits : hw + w ≤ 64 = omega arith in ap (λ k. k + l) (shl_whole h hw w 64 fit fits)

pub joined_below : (h l w hw : ℕ) → h < 2 ^ hw → l < 2 ^ w → h * 2 ^ w + l < 2 ^ (hw + w)
joined_below h l w hw fit low =
    let a : h * 2 ^ w + l < 2 ^ w * 2 ^ hw = mul-add-lt h (2 ^ w) l (2 ^ hw) fit low in let b : 2 ^ (hw + w) ≡ 2 ^ w * 2 ^ hw =
    pow-add 2 hw w ∙ mul_comm (2 ^ hw) (2 ^ w) in rw b a

pub small : (n w : ℕ) → w ≤ 41 → n < 2 ^ w → n < 2 ^ 41
small n w h fit = let e : 2 ^ w ≤ 2 ^ 41 = pow-le-pow_right (lit< tt) h in omega arith

-- The fields of a code in a word that is zero elsewhere.
zero_bits : (low w : ℕ) → bits low w 0 ≡ 0
zero_bits low w = ap (λ k. k % 2 ^ w) (zero-div (2 ^ low)) ∙ zero-mod (2 ^ w)

all_clear : (fs : List BitField) → list_all (is_clear 0) fs ≡ true
all_clear [] = refl
all_clear (f ∷ fs) = and_from _ _ (eq-eqb _ _ (zero_bits f.low f.width)) (all_clear fs)

pub put_below : (fs : List BitField) (n : ℕ) → are_apart_fields fs ≡ true → word_of (scattered fs n) < 2 ^ 41
put_below fs n h =
    let P : List BitField → Type 0 = λ gs. are_apart_fields gs ≡ true in
    let s : are_apart_fields (map field_of (scattered fs n)) ≡ true = subst P (sym (scattered_fields fs n)) h in
    let z : list_all (is_clear 0) (map field_of (scattered fs n)) ≡ true = all_clear (map field_of (scattered fs n)) in
    let r = spread-below 0 (scattered fs n) (lit< tt) (scattered_fit fs n) s z in
    omega (arith, r)

-- What the code makes of one to four fields.
pub put_one : (a : BitField) (n : ℕ) → n % 2 ^ a.width * 2 ^ a.low ≡ word_of (scattered (a ∷ []) n)
put_one a n = let one : n / 1 ≡ n = omega arith in rw (add-zero, one) refl

pub put_two : (a b : BitField) (n : ℕ) → n / 2 ^ b.width % 2 ^ a.width * 2 ^ a.low + n % 2 ^ b.width * 2 ^ b.low
    ≡ word_of (scattered (a ∷ b ∷ []) n)
put_two a b n = let one : n / 1 ≡ n = omega arith in rw (add-zero, add-zero, one) refl

pub put_three : (a b c : BitField) (n : ℕ) → n / 2 ^ (b.width + c.width) % 2 ^ a.width * 2 ^ a.low
    + (n / 2 ^ c.width % 2 ^ b.width * 2 ^ b.low + n % 2 ^ c.width * 2 ^ c.low) ≡ word_of (scattered (a ∷ b ∷ c ∷ []) n)
put_three a b c n = let one : n / 1 ≡ n = omega arith in rw (add-zero, add-zero, one) refl

pub put_four : (a b c d : BitField) (n : ℕ) → n / 2 ^ (b.width + (c.width + d.width)) % 2 ^ a.width * 2 ^ a.low
    + (n / 2 ^ (c.width + d.width) % 2 ^ b.width * 2 ^ b.low + (n / 2 ^ d.width % 2 ^ c.width * 2 ^ c.low + n % 2 ^ d.width * 2 ^ d.low))
    ≡ word_of (scattered (a ∷ b ∷ c ∷ d ∷ []) n)
put_four a b c d n = let one : n / 1 ≡ n = omega arith in rw (add-zero, add-zero, one) refl

pub get_one : (a : BitField) (w : ℕ) → bits a.low a.width w ≡ gathered (a ∷ []) w
get_one a w = omega arith

pub get_two : (a b : BitField) (w : ℕ) → bits a.low a.width w * 2 ^ b.width + bits b.low b.width w ≡ gathered (a ∷ b ∷ []) w
get_two a b w = rw (add-zero) (omega arith)

pub get_three : (a b c : BitField) (w : ℕ) → bits a.low a.width
    w * 2 ^ (b.width + c.width) + (bits b.low b.width w * 2 ^ c.width + bits c.low c.width w) ≡ gathered (a ∷ b ∷ c ∷ []) w
get_three a b c w = rw (add-zero) (omega arith)

pub get_four : (a b c d : BitField) (w : ℕ) → bits a.low a.width
    w * 2 ^ (b.width + (c.width + d.width)) + (bits b.low b.width
    w * 2 ^ (c.width + d.width) + (bits c.low c.width w * 2 ^ d.width + bits d.low d.width w))
    ≡ gathered (a ∷ b ∷ c ∷ d ∷ []) w
get_four a b c d w = rw (add-zero) (omega arith)

-- Limits of two to four widths.
pub below_two : (k a b : ℕ) → k < 2 ^ (a + b) → k < 2 ^ (a + (b + 0))
below_two k a b h = rw (add-zero) h

pub below_three : (k a b c : ℕ) → k < 2 ^ (a + (b + c)) → k < 2 ^ (a + (b + (c + 0)))
below_three k a b c h = rw (add-zero) h

pub below_four : (k a b c d : ℕ) → k < 2 ^ (a + (b + (c + d))) → k < 2 ^ (a + (b + (c + (d + 0))))
below_four k a b c d h = rw (add-zero) h
