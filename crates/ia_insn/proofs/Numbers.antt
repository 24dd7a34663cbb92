-- Signed numbers and flags as fields.
use Rattle.std.proofs.Common.{◌≡◌, ℕ, suc, ◌+◌, ◌-◌, ◌^◌, ◌<◌, ◌≤◌, Bool, true, false, eqb, ap, ◌∙◌, refl, arith}
use Rattle.std.specs.Prelude.{ℤ, pos, negsuc}
use Rattle.std.proofs.lemmas.Bool.{lt-ltb, le-ltb}
use Rattle.std.proofs.lemmas.Nat.{pow_pos}
use Rattle.std.proofs.Math.Nat.{pow-suc}
use Rattle.ia_insn.specs.Signed.{twos, FitsSigned, signed_value, flag}

pub half : (width : ℕ) → 1 ≤ width → 2 ^ width ≡ 2 ^ (width - 1) + 2 ^ (width - 1)
half width h = ap (λ k. 2 ^ k) (let e : width ≡ suc (width - 1) = omega arith in e) ∙ pow-suc 2 (width - 1) ∙ (omega arith)

-- two's complement and back.
pub signed-twos : (width : ℕ) → 1 ≤ width → (z : ℤ) → FitsSigned width z → signed_value width (twos width z) ≡ z
signed-twos width h (pos n) fit = rw (lt-ltb n (2 ^ (width - 1)) fit) refl
signed-twos width h (negsuc n) fit =
    let e = half width h in
    let far : 2 ^ (width - 1) ≤ 2 ^ width - suc n = omega arith in
    let back : 2 ^ width - suc (2 ^ width - suc n) ≡ n = omega arith in
    rw (le-ltb (2 ^ width - suc n) (2 ^ (width - 1)) far, back) refl

pub twos-fits : (width : ℕ) → 1 ≤ width → (z : ℤ) → FitsSigned width z → twos width z < 2 ^ width
twos-fits width h (pos n) fit = let e = half width h in omega arith
twos-fits width h (negsuc n) fit = let p = pow_pos width in omega arith

-- A flag as a bit and back.
pub flag-back : (b : Bool) → eqb (flag b) 1 ≡ b
flag-back false = refl
flag-back true = refl
