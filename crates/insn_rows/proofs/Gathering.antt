-- A code is gathered from the fields that it is scattered over.
use Rattle.std.proofs.Common.{◌≡◌, ℕ, ◌+◌, ◌*◌, ◌/◌, ◌%◌, ◌^◌, ◌<◌, List, [], ◌∷◌, map, sym, ap, ◌∙◌, refl, arith, pow-add}
use Rattle.std.proofs.lemmas.Nat.{mod_below, pow_pos, mod-pow-add, mul-add-lt}
use Rattle.std.proofs.Math.Nat.{mod-eq_of_lt, mul_comm}
use Rattle.bundle_bits.specs.Words.{AllFit, bits}
use Rattle.bundle_bits.proofs.Words.{Reads}
use Rattle.insn_rows.specs.declared.bits.BitField.{BitField}
use Rattle.insn_rows.specs.Scattered.{width_of, scattered}
use Rattle.insn_rows.specs.Reading.{gathered}
use Rattle.insn_rows.proofs.Spread.{field_of}

pub scattered_fit : (fs : List BitField) (n : ℕ) → AllFit (scattered fs n)
scattered_fit [] n = tt
scattered_fit (f ∷ fs) n = (mod_below (n / 2 ^ width_of fs) (2 ^ f.width) (pow_pos f.width), scattered_fit fs n)

pub scattered_fields : (fs : List BitField) (n : ℕ) → map field_of (scattered fs n) ≡ fs
scattered_fields [] n = refl
scattered_fields (f ∷ fs) n = ap (λ gs. f ∷ gs) (scattered_fields fs n)

gathered_mod : (fs : List BitField) (n w : ℕ) → Reads w (scattered fs n) → gathered fs w ≡ n % 2 ^ width_of fs
gathered_mod [] n w r = omega arith
gathered_mod (f ∷ fs) n w r =
    ap (λ h. h * 2 ^ width_of fs + gathered fs w) r.0 ∙ ap (λ l. bits (width_of fs) f.width n * 2 ^ width_of fs + l)
    (gathered_mod fs n w r.1)
    ∙ sym (mod-pow-add n f.width (width_of fs))

pub gathered_back : (fs : List BitField) (n w : ℕ) → n < 2 ^ width_of fs → Reads w (scattered fs n) → gathered fs w ≡ n
gathered_back fs n w fit r = gathered_mod fs n w r ∙ mod-eq_of_lt fit

-- A code has its bits.
pub gathered_below : (fs : List BitField) (w : ℕ) → gathered fs w < 2 ^ width_of fs
gathered_below [] w = omega arith
gathered_below (f ∷ fs) w =
    let below = gathered_below fs w in
    let a : bits f.low f.width w * 2 ^ width_of fs + gathered fs w < 2 ^ width_of fs * 2 ^ f.width =
    mul-add-lt (bits f.low f.width w) (2 ^ width_of fs) (gathered fs w) (2 ^ f.width)
    (mod_below (w / 2 ^ f.low) (2 ^ f.width) (pow_pos f.width)) below in
    let b : 2 ^ (f.width + width_of fs) ≡ 2 ^ width_of fs * 2 ^ f.width =
    pow-add 2 f.width (width_of fs) ∙ mul_comm (2 ^ f.width) (2 ^ width_of fs) in
    rw b a
