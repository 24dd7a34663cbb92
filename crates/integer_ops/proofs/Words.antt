-- Words that code makes by shifts and masks, as the numbers that the definitions speak of.
use Rattle.std.proofs.Common.{◌≡◌, ℕ, ◌+◌, ◌-◌, ◌*◌, ◌/◌, ◌%◌, ◌^◌, ◌<◌, ◌≤◌, bit_and, bit_or, ap, ◌∙◌, sym, refl, ⊎_elim, arith}
use Rattle.std.proofs.lemmas.Bool.{lt-ltb, le-ltb, cases_lt}
use Rattle.std.proofs.lemmas.Nat.{pow_pos, pow-add, shl-shr, shr-shr, shr_split, mod-pow-add, mul-le, and_comm, and_mask, or_shifted, or_block, mod_below, shl_below, shr_below, shl_whole, shr_high, mod_low, and-not}
use Rattle.std.proofs.lemmas.Nat.Bits.{and_high, ones_shr}
use Rattle.std.proofs.Math.Nat.{mul_comm, mul_assoc, add-mul, mul-sub, pow-le-pow_right, mul-mod_left, mul-add-div_right}
use Rattle.std.specs.Int.Bits.{or_zero_r}
use Rattle.ia_meaning.specs.Arithmetic.{extended, shift_right_signed}

-- `MAX >> (64 - width)`
pub ones_of : (width : ℕ) → width ≤ 64 → (2 ^ 64 - 1) / 2 ^ (64 - width) ≡ 2 ^ width - 1
ones_of width h = let e : 64 - (64 - width) ≡ width = omega arith in ones_shr 64 (64 - width) (omega arith) ∙ ap (λ k. 2 ^ k - 1) e

-- `number & mask`
pub masked : (number mask width : ℕ) → mask ≡ 2 ^ width - 1 → bit_and number mask ≡ number % 2 ^ width
masked number mask width e = ap (bit_and number) e ∙ and_mask number width

-- The weights of the two parts of a word.
word_at : (count : ℕ) → count ≤ 64 → 2 ^ (64 - count) * 2 ^ count ≡ 2 ^ 64
word_at count h = let e : 64 - count + count ≡ 64 = omega arith in sym (pow-add 2 (64 - count) count) ∙ ap (λ k. 2 ^ k) e

-- A word shifted left.
shifted_left : (a count : ℕ) → count ≤ 64 → (a * 2 ^ (64 - count)) % 2 ^ 64 ≡ (a % 2 ^ count) * 2 ^ (64 - count)
shifted_left a count h =
    let k = 64 - count in
    let e : count + k ≡ 64 = omega arith in
    let parts = mod-pow-add (a * 2 ^ k) count k in
    let high = shl-shr a k in
    let low = mul-mod_left a (2 ^ k) in
    let split : (a * 2 ^ k) % 2 ^ (count + k) ≡ (a % 2 ^ count) * 2 ^ k = parts ∙ (rw (high, low) (omega arith)) in
    rw e at split

-- A pair shifted right, before it is cut.
pair_right : (count a b : ℕ) → count ≤ 64 → (2 ^ 64 * a + b) / 2 ^ count ≡ a * 2 ^ (64 - count) + b / 2 ^ count
pair_right count a b h =
    let k = 64 - count in
    let e : 2 ^ 64 * a ≡ a * 2 ^ k * 2 ^ count =
    mul_comm (2 ^ 64) a ∙ ap (λ x. a * x) (sym (word_at count h)) ∙ sym (mul_assoc a (2 ^ k) (2 ^ count)) in
    ap (λ x. (x + b) / 2 ^ count) e ∙ mul-add-div_right (pow_pos count) (a * 2 ^ k) b

-- `(a << (64 - count)) | (b >> count)`
pub pair_of : (count a b : ℕ) → count ≤ 63 → b < 2 ^ 64 → bit_or ((a * 2 ^ (64 - count)) % 2 ^ 64) (b / 2 ^ count)
    ≡ ((2 ^ 64 * a + b) / 2 ^ count) % 2 ^ 64
pair_of count a b h fit =
    let k = 64 - count in
    let e : count + k ≡ 64 = omega arith in
    let e' : k + count ≡ 64 = omega arith in
    let low : b / 2 ^ count < 2 ^ k = shr_below b k count (rw e' fit) in
    let joined = or_shifted (a % 2 ^ count) k (b / 2 ^ count) low in
    let sum = a * 2 ^ k + b / 2 ^ count in
    let cut : sum % 2 ^ (count + k) ≡ (a % 2 ^ count) * 2 ^ k + b / 2 ^ count =
    mod-pow-add sum count k ∙ (rw (shr_high a k (b / 2 ^ count) low, mod_low a k (b / 2 ^ count) low) refl) in
    ap (λ x. bit_or x (b / 2 ^ count)) (shifted_left a count (omega arith)) ∙ joined ∙ sym (rw e at cut)
    ∙ ap (λ x. x % 2 ^ 64) (sym (pair_right count a b (omega arith)))

-- The ones of a field at its position.
field_ones : (pos width : ℕ) → (2 ^ width - 1) * 2 ^ pos ≡ 2 ^ (width + pos) - 2 ^ pos
field_ones pos width = mul_comm (2 ^ width - 1) (2 ^ pos) ∙ mul-sub (2 ^ pos) (2 ^ width) 1 ∙ (rw (pow-add 2 width pos) (omega arith))

-- The ones of a field at its position are within a word.
ones_below : (pos width : ℕ) → pos + width ≤ 64 → (2 ^ width - 1) * 2 ^ pos < 2 ^ 64
ones_below pos width h =
    let some = pow_pos width in
    let below = shl_below (2 ^ width - 1) width pos (omega arith) in
    let e : width + pos + (64 - pos - width) ≡ 64 = omega arith in
    let most = pow-le-pow_right {n = 2} (omega arith) (let g : width + pos ≤ 64 = omega arith in g) in
    omega arith

-- A number as what is above a field, the field and what is below it.
three_parts : (pos width a : ℕ) → a ≡ (a / 2 ^ (pos + width) * 2 ^ width) * 2 ^ pos + (a / 2 ^ pos % 2 ^ width) * 2 ^ pos + a % 2 ^ pos
three_parts pos width a =
    let high = shr_split (a / 2 ^ pos) width in
    let whole = shr_split a pos in
    let apart = add-mul (a / 2 ^ (pos + width) * 2 ^ width) (a / 2 ^ pos % 2 ^ width) (2 ^ pos) in
    let e : a / 2 ^ pos ≡ a / 2 ^ (pos + width) * 2 ^ width + a / 2 ^ pos % 2 ^ width = rw (← shr-shr a pos width) (sym high) in
    let e' = ap (λ x. x * 2 ^ pos) e in
    omega arith

-- `a & !(ones << pos)`
others_of : (pos width a : ℕ) → pos + width ≤ 64 → a < 2 ^ 64 → bit_and a (2 ^ 64 - 1 - (2 ^ width - 1) * 2 ^ pos)
    ≡ (a / 2 ^ (pos + width) * 2 ^ width) * 2 ^ pos + a % 2 ^ pos
others_of pos width a h fit =
    let ones = (2 ^ width - 1) * 2 ^ pos in
    let small : ones < 2 ^ 64 = ones_below pos width h in
    let apart = and-not 64 ones a small fit in
    let inner : bit_and a ones ≡ (a / 2 ^ pos % 2 ^ width) * 2 ^ pos = ap (bit_and a) (field_ones pos width) ∙ and_high a width pos in
    let parts = three_parts pos width a in
    let turned = and_comm a ones in
    let turned' = and_comm a (2 ^ 64 - 1 - ones) in
    omega arith

-- Three parts by their weights.
weighed : (top width field pos rest : ℕ) → (top * width + field) * pos + rest ≡ rest + pos * field + (pos * width) * top
weighed top width field pos rest =
    let apart = add-mul (top * width) field pos in
    let turned = mul_comm field pos in
    let moved = mul_comm (top * width) pos ∙ ap (λ x. pos * x) (mul_comm top width) ∙ sym (mul_assoc pos width top) in
    omega arith

-- `(a & !(ones << pos)) | (field << pos)`
pub deposited : (pos width field a : ℕ) → pos + width ≤ 64 → a < 2 ^ 64 → field < 2 ^ width
    → bit_or (bit_and a (2 ^ 64 - 1 - ((2 ^ width - 1) * 2 ^ pos) % 2 ^ 64)) ((field * 2 ^ pos) % 2 ^ 64)
    ≡ a % 2 ^ pos + 2 ^ pos * field + 2 ^ (pos + width) * (a / 2 ^ (pos + width))
deposited pos width field a h fit low =
    let top = a / 2 ^ (pos + width) in
    let rest = a % 2 ^ pos in
    let some = pow_pos width in
    let ones : ((2 ^ width - 1) * 2 ^ pos) % 2 ^ 64 ≡ (2 ^ width - 1) * 2 ^ pos =
    shl_whole (2 ^ width - 1) width pos 64 (omega arith) (omega arith) in
    let shifted : (field * 2 ^ pos) % 2 ^ 64 ≡ field * 2 ^ pos + 0 = shl_whole field width pos 64 low (omega arith) ∙ (omega arith) in
    let block = or_block pos (top * 2 ^ width) field rest 0 (mod_below a (2 ^ pos) (pow_pos pos)) (pow_pos pos) in
    let joined = or_shifted top width field low in
    let sum : (top * 2 ^ width + field) * 2 ^ pos + rest ≡ rest + 2 ^ pos * field + 2 ^ (pos + width) * top =
    weighed top (2 ^ width) field (2 ^ pos) rest ∙ ap (λ x. rest + 2 ^ pos * field + x * top) (sym (pow-add 2 pos width)) in
    rw (ones, others_of pos width a h fit, shifted, block, joined, or_zero_r rest) sum

-- A number moved to the top of a word and back, with its sign: where its top bit is 0.
extended_small : (width number : ℕ) → 1 ≤ width → width ≤ 64 → number < 2 ^ (width - 1)
    → shift_right_signed (number * 2 ^ (64 - width)) (64 - width) ≡ extended width number
extended_small width number some within small =
    let unused = 64 - width in
    let e : width - 1 + unused ≡ 63 = omega arith in
    let low : number * 2 ^ unused < 2 ^ 63 = rw e at (shl_below number (width - 1) unused small) in
    let few : unused < 64 = omega arith in
    rw (lt-ltb (number * 2 ^ unused) (2 ^ 63) low, lt-ltb unused 64 few, lt-ltb number (2 ^ (width - 1)) small) (shl-shr number unused)

-- The complement of the number that was moved, moved back.
turned_right : (width number : ℕ) → width ≤ 64 → number < 2 ^ width
    → (2 ^ 64 - 1 - number * 2 ^ (64 - width)) / 2 ^ (64 - width) ≡ 2 ^ width - 1 - number
turned_right width number within fits =
    let unused = 64 - width in
    let rest = 2 ^ width - 1 - number in
    let e : rest + 1 + number ≡ 2 ^ width = omega arith in
    let e' : width + unused ≡ 64 = omega arith in
    let word : 2 ^ width * 2 ^ unused ≡ 2 ^ 64 = sym (pow-add 2 width unused) ∙ ap (λ k. 2 ^ k) e' in
    let parts : (rest + 1 + number) * 2 ^ unused ≡ 2 ^ 64 = ap (λ x. x * 2 ^ unused) e ∙ word in
    let apart = add-mul (rest + 1) number (2 ^ unused) in
    let apart' = add-mul rest 1 (2 ^ unused) in
    let some = pow_pos unused in
    let low : 2 ^ unused - 1 < 2 ^ unused = omega arith in
    let turned : 2 ^ 64 - 1 - number * 2 ^ unused ≡ rest * 2 ^ unused + (2 ^ unused - 1) = omega arith in
    ap (λ x. x / 2 ^ unused) turned ∙ shr_high rest unused (2 ^ unused - 1) low

-- A number whose top bit is 1, moved to the top and back, is extended with ones.
extended_large : (width number : ℕ) → 1 ≤ width → width ≤ 64 → 2 ^ (width - 1) ≤ number → number < 2 ^ width
    → shift_right_signed (number * 2 ^ (64 - width)) (64 - width) ≡ extended width number
extended_large width number some within large fits =
    let unused = 64 - width in
    let e : width - 1 + unused ≡ 63 = omega arith in
    let half : 2 ^ (width - 1) * 2 ^ unused ≡ 2 ^ 63 = sym (pow-add 2 (width - 1) unused) ∙ ap (λ k. 2 ^ k) e in
    let raised = mul-le (2 ^ (width - 1)) (2 ^ unused) number (2 ^ unused) large (let g : 2 ^ unused ≤ 2 ^ unused = omega arith in g) in
    let high : 2 ^ 63 ≤ number * 2 ^ unused = omega arith in
    let few : unused < 64 = omega arith in
    let most : 2 ^ width ≤ 2 ^ 64 = pow-le-pow_right {n = 2} (omega arith) within in
    let back : 2 ^ 64 - 1 - (2 ^ width - 1 - number) ≡ number + 2 ^ 64 - 2 ^ width = omega arith in
    rw (
      le-ltb (number * 2 ^ unused) (2 ^ 63) high,
      lt-ltb unused 64 few,
      le-ltb number (2 ^ (width - 1)) large,
      turned_right width number within fits,
    ) back

by_lt : {P : Type 0} (a b : ℕ) → (a < b → P) → (b ≤ a → P) → P
by_lt a b f g = ⊎_elim f g (cases_lt a b)

-- A number moved to the top of a word and back, with its sign.
pub extended_of : (width number : ℕ) → 1 ≤ width → width ≤ 64 → number < 2 ^ width
    → shift_right_signed ((number * 2 ^ (64 - width)) % 2 ^ 64) (64 - width) ≡ extended width number
extended_of width number some within fits =
    let whole = shl_whole number width (64 - width) 64 fits (omega arith) in
    rw whole (by_lt number (2 ^ (width - 1)) (extended_small width number some within)
    (λ large. extended_large width number some within large fits))
