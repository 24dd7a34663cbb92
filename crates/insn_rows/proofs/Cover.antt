-- A number is its fields and what they leave.
use Rattle.std.proofs.Common.{◌≡◌, ℕ, ◌+◌, ◌-◌, ◌*◌, ◌/◌, ◌%◌, ◌^◌, ◌<◌, List, [], ◌∷◌, ◌++◌, map, true, ap, ◌∙◌, refl, arith, pow-add}
use Rattle.std.specs.Prelude.{bit_and}
use Rattle.std.proofs.lemmas.Bool.{eqb-true}
use Rattle.std.proofs.lemmas.Nat.{and_block, and_mask, mod_below, pow_pos, shr_high, shr_split, mod_low}
use Rattle.std.specs.Int.Bits.{and_zero_r}
use Rattle.std.proofs.Math.Nat.{mod-eq_of_lt}
use Rattle.bundle_bits.specs.Words.{Part, field, word_of, bits}
use Rattle.bundle_bits.proofs.Words.{Reads, both-left, both-right}
use Rattle.bundle_bits.proofs.Fields.{whole}
use Rattle.insn_rows.specs.declared.bits.BitField.{BitField}
use Rattle.insn_rows.specs.Scattered.{width_of, scattered}
use Rattle.insn_rows.specs.Reading.{gathered}
use Rattle.insn_rows.specs.WellMade.{other_bits, are_left}
use Rattle.insn_rows.proofs.Spread.{field_of}
use Rattle.insn_rows.proofs.Gathering.{gathered_below}

-- The fields of a number.
abbrev pub own : List BitField → ℕ → List Part
own [] w = []
own (f ∷ fs) w = field f.low f.width (bits f.low f.width w) ∷ own fs w

-- The bits that two numbers share, above, in and below a field.
block : (h x l mh mx ml low width : ℕ) → x < 2 ^ width → mx < 2 ^ width → l < 2 ^ low → ml < 2 ^ low
    → bit_and ((h * 2 ^ width + x) * 2 ^ low + l) ((mh * 2 ^ width + mx) * 2 ^ low + ml)
    ≡ (bit_and h mh * 2 ^ width + bit_and x mx) * 2 ^ low + bit_and l ml
block h x l mh mx ml low width fx fmx fl fml =
    and_block low (h * 2 ^ width + x) (mh * 2 ^ width + mx) l ml fl fml
    ∙ ap (λ k. k * 2 ^ low + bit_and l ml) (and_block width h mh x mx fx fmx)

-- A field less in a mask that has it is a field less in what is under the mask.
less : (n m low width : ℕ) → bits low width m ≡ 2 ^ width - 1 → bit_and n (m - (2 ^ width - 1) * 2 ^ low) + bits low width n * 2 ^ low
    ≡ bit_and n m
less n m low width ones =
    let x : bits low width n < 2 ^ width = mod_below (n / 2 ^ low) (2 ^ width) (pow_pos width) in
    let some : 0 < 2 ^ width = pow_pos width in
    let l : n % 2 ^ low < 2 ^ low = mod_below n (2 ^ low) (pow_pos low) in
    let ml : m % 2 ^ low < 2 ^ low = mod_below m (2 ^ low) (pow_pos low) in
    let n-whole : n ≡ (n / 2 ^ (low + width) * 2 ^ width + bits low width n) * 2 ^ low + n % 2 ^ low = whole n low width in
    let m-whole : m ≡ (m / 2 ^ (low + width) * 2 ^ width + (2 ^ width - 1)) * 2 ^ low + m % 2 ^ low =
    whole m low width ∙ ap (λ k. (m / 2 ^ (low + width) * 2 ^ width + k) * 2 ^ low + m % 2 ^ low) ones in
    let left : m - (2 ^ width - 1) * 2 ^ low ≡ (m / 2 ^ (low + width) * 2 ^ width + 0) * 2 ^ low + m % 2 ^ low = omega arith in
    let all : bit_and (bits low width n) (2 ^ width - 1) ≡ bits low width n = and_mask (bits low width n) width ∙ mod-eq_of_lt x in
    let full : bit_and n m ≡ (bit_and (n / 2 ^ (low + width)) (m / 2 ^ (low + width)) * 2 ^ width + bits low width n) * 2 ^ low + bit_and
    (n % 2 ^ low) (m % 2 ^ low) =
    ap (λ k. bit_and k m) n-whole ∙ ap (bit_and _) m-whole ∙ block (n / 2 ^ (low + width)) (bits low width n) (n % 2 ^ low)
    (m / 2 ^ (low + width)) (2 ^ width - 1) (m % 2 ^ low) low width x (omega arith) l ml
    ∙ ap (λ k. (bit_and (n / 2 ^ (low + width)) (m / 2 ^ (low + width)) * 2 ^ width + k) * 2 ^ low + bit_and (n % 2 ^ low) (m % 2 ^ low))
    all in
    let rest : bit_and n (m - (2 ^ width - 1) * 2 ^ low) ≡ (bit_and (n / 2 ^ (low + width)) (m / 2 ^ (low + width)) * 2 ^ width + 0) * 2
    ^ low + bit_and (n % 2 ^ low) (m % 2 ^ low) =
    ap (λ k. bit_and k (m - (2 ^ width - 1) * 2 ^ low)) n-whole ∙ ap (bit_and _) left
    ∙ block (n / 2 ^ (low + width)) (bits low width n) (n % 2 ^ low) (m / 2 ^ (low + width)) 0 (m % 2 ^ low) low width x some l ml
    ∙ ap (λ k. (bit_and (n / 2 ^ (low + width)) (m / 2 ^ (low + width)) * 2 ^ width + k) * 2 ^ low + bit_and (n % 2 ^ low) (m % 2 ^ low))
    (and_zero_r (bits low width n)) in
    omega (arith, full, rest)

pub cover : (fs : List BitField) (w : ℕ) → w < 18446744073709551616 → are_left fs ≡ true
    → bit_and w (other_bits fs) + word_of (own fs w) ≡ w
cover [] w h left = let a : bit_and w (2 ^ 64 - 1) ≡ w % 2 ^ 64 = and_mask w 64 in let b : w % 2 ^ 64 ≡ w = mod-eq_of_lt h in omega arith
cover (f ∷ fs) w h left =
    let before = cover fs w h (both-right _ _ left) in
    let step = less w (other_bits fs) f.low f.width (eqb-true _ _ (both-left _ _ left)) in
    omega (arith, before, step)

-- Fields with the values that a number has in them are its own.
pub own_reads : (ps : List Part) (w : ℕ) → Reads w ps → own (map field_of ps) w ≡ ps
own_reads [] w r = refl
own_reads (p ∷ ps) w r = λ i. field p.low p.width (r.0 i) ∷ own_reads ps w r.1 i

pub own_append : (fs gs : List BitField) (w : ℕ) → own (fs ++ gs) w ≡ own fs w ++ own gs w
own_append [] gs w = refl
own_append (f ∷ fs) gs w = λ i. field f.low f.width (bits f.low f.width w) ∷ own_append fs gs w i

-- A code that is gathered stands where it was.
above : (h n low width : ℕ) → bits low width (h * 2 ^ (width + low) + n) ≡ bits low width n
above h n low width =
    let split : n / 2 ^ low * 2 ^ low + n % 2 ^ low ≡ n = shr_split n low in
    let below : n % 2 ^ low < 2 ^ low = mod_below n (2 ^ low) (pow_pos low) in
    let again : n / 2 ^ low / 2 ^ width * 2 ^ width + n / 2 ^ low % 2 ^ width ≡ n / 2 ^ low = shr_split (n / 2 ^ low) width in
    let fits : n / 2 ^ low % 2 ^ width < 2 ^ width = mod_below (n / 2 ^ low) (2 ^ width) (pow_pos width) in
    let p : 2 ^ (width + low) ≡ 2 ^ width * 2 ^ low = pow-add 2 width low in
    let e : h * 2 ^ (width + low) + n ≡ (h * 2 ^ width + n / 2 ^ low) * 2 ^ low + n % 2 ^ low = rw p (omega (arith, split)) in
    let f : h * 2 ^ width + n / 2 ^ low ≡ (h + n / 2 ^ low / 2 ^ width) * 2 ^ width + n / 2 ^ low % 2 ^ width = omega (arith, again) in
    ap (λ k. k / 2 ^ low % 2 ^ width) e ∙ ap (λ k. k % 2 ^ width) (shr_high (h * 2 ^ width + n / 2 ^ low) low (n % 2 ^ low) below)
    ∙ ap (λ k. k % 2 ^ width) f ∙ mod_low (h + n / 2 ^ low / 2 ^ width) width (n / 2 ^ low % 2 ^ width) fits

scattered_low : (fs : List BitField) (h n : ℕ) → scattered fs (h * 2 ^ width_of fs + n) ≡ scattered fs n
scattered_low [] h n = refl
scattered_low (f ∷ fs) h n =
    let p : 2 ^ (f.width + width_of fs) ≡ 2 ^ f.width * 2 ^ width_of fs = pow-add 2 f.width (width_of fs) in
    let e : h * 2 ^ (f.width + width_of fs) + n ≡ h * 2 ^ f.width * 2 ^ width_of fs + n = rw p (omega arith) in
    λ i. field f.low f.width (above h n (width_of fs) f.width i) ∷ (ap (scattered fs) e ∙ scattered_low fs (h * 2 ^ f.width) n) i

pub scattered_gathered : (fs : List BitField) (w : ℕ) → scattered fs (gathered fs w) ≡ own fs w
scattered_gathered [] w = refl
scattered_gathered (f ∷ fs) w =
    let low : gathered fs w < 2 ^ width_of fs = gathered_below fs w in
    let fits : bits f.low f.width w < 2 ^ f.width = mod_below (w / 2 ^ f.low) (2 ^ f.width) (pow_pos f.width) in
    let top : bits (width_of fs) f.width (bits f.low f.width w * 2 ^ width_of fs + gathered fs w) ≡ bits f.low f.width w =
    ap (λ k. k % 2 ^ f.width) (shr_high (bits f.low f.width w) (width_of fs) (gathered fs w) low) ∙ mod-eq_of_lt fits in
    λ i. field f.low f.width (top i) ∷ (scattered_low fs (bits f.low f.width w) (gathered fs w) ∙ scattered_gathered fs w) i
