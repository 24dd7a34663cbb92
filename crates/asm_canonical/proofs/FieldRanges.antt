-- The numbers of listed instructions have room in the fields of their forms.
use Rattle.std.proofs.Common.{◌≡◌, inl, inr, refl, ℕ, suc, ◌-◌, ◌/◌, ◌%◌, ◌<◌, ◌≤◌, ◌^◌, ℤ, pos, negsuc, unsigned_abs, true, ltb, arith}
use Rattle.std.proofs.lemmas.Bool.{le-leb}
use Rattle.ia_insn.specs.Signed.{twos, FitsSigned}
use Rattle.ia_insn.specs.Ranges.{IsIncrement}
use Rattle.asm_forms.specs.declared.items.NumberField.TheVariants.{Imm8, Imm9, Imm14, Imm22, Tag, RotatingMask, Increment}
use Rattle.asm_forms.specs.Items.{within, has_room}
use Rattle.asm_canonical.specs.Canonical.{negative}

-- How far from 0 a signed number of this width is at most.
pub magnitude_within : (width : ℕ) (z : ℤ) → FitsSigned width z → unsigned_abs z ≤ 2 ^ (width - 1)
magnitude_within width (pos n) h = omega (arith, h)
magnitude_within width (negsuc n) h = omega (arith, h)

-- What is at most a limit is below what is above the limit.
pub is_below : (m k bound : ℕ) → m ≤ k → k < bound → ltb m bound ≡ true
is_below m k bound h l = le-leb (suc m) bound (omega (arith, h, l))

-- A signed number's magnitude is below a bound above its width.
pub is_short : (width bound : ℕ) (z : ℤ) → FitsSigned width z → 2 ^ (width - 1) < bound → ltb (unsigned_abs z) bound ≡ true
is_short width bound z h l = is_below (unsigned_abs z) (2 ^ (width - 1)) bound (magnitude_within width z h) l

-- A signed number is in the range of a field of its width.
pub is_within : (width below above : ℕ) (z : ℤ) → FitsSigned width z → 2 ^ (width - 1) ≡ below → suc above ≡ below
    → within (negative z) (unsigned_abs z) below above ≡ true
is_within width below above (pos n) h b a = le-leb n above (omega (arith, h, b, a))
is_within width below above (negsuc n) h b a = le-leb (suc n) below (omega (arith, h, b))

pub has_imm8 : (z : ℤ) → FitsSigned 8 z → has_room Imm8 (negative z) (unsigned_abs z) ≡ true
has_imm8 z h = is_within 8 128 127 z h refl refl

pub has_imm9 : (z : ℤ) → FitsSigned 9 z → has_room Imm9 (negative z) (unsigned_abs z) ≡ true
has_imm9 z h = is_within 9 256 255 z h refl refl

pub has_imm14 : (z : ℤ) → FitsSigned 14 z → has_room Imm14 (negative z) (unsigned_abs z) ≡ true
has_imm14 z h = is_within 14 8192 8191 z h refl refl

pub has_imm22 : (z : ℤ) → FitsSigned 22 z → has_room Imm22 (negative z) (unsigned_abs z) ≡ true
has_imm22 z h = is_within 22 2097152 2097151 z h refl refl

pub has_tag : (z : ℤ) → FitsSigned 9 z → has_room Tag (negative z) (unsigned_abs z) ≡ true
has_tag z h = is_within 9 256 255 z h refl refl

-- A number of the rotating predicates is a multiple of 65536.
pub is_multiple : (z : ℤ) → FitsSigned 44 z → twos 44 z / 1 % 65536 ≡ 0 → unsigned_abs z % 65536 ≡ 0
is_multiple (pos n) h e = omega (arith, h, e)
is_multiple (negsuc n) h e = omega (arith, h, e)

pub has_rotating_mask : (z : ℤ) → FitsSigned 44 z → twos 44 z / 1 % 65536 ≡ 0 → has_room RotatingMask (negative z) (unsigned_abs z) ≡ true
has_rotating_mask z h e =
    let w : within (negative z) (unsigned_abs z) 8796093022208 8796093022207 ≡ true =
    is_within 44 8796093022208 8796093022207 z h refl refl in
    rw (w, is_multiple z h e) refl

-- An increment has room in its field, and is at most 16 without its sign.
pub has_increment : (z : ℤ) → IsIncrement z → has_room Increment (negative z) (unsigned_abs z) ≡ true
has_increment z (inl e) = rw e refl
has_increment z (inr (inl e)) = rw e refl
has_increment z (inr (inr (inl e))) = rw e refl
has_increment z (inr (inr (inr e))) = rw e refl

pub increment_within : (z : ℤ) → IsIncrement z → unsigned_abs z ≤ 16
increment_within z h = grind arith
