-- Values and codes are each other's way back.
use Rattle.std.proofs.Common.{◌≡◌, ℕ, zero, suc, ◌+◌, ◌-◌, ◌*◌, ◌/◌, ◌%◌, ◌^◌, ◌<◌, Bool, true, false, eqb, sym, ap, ◌∙◌, refl, arith, lit<, inl, inr}
use Rattle.std.specs.Prelude.{ℤ, pos, negsuc, neg_ℤ}
use Rattle.std.proofs.lemmas.Bool.{leb-true}
use Rattle.std.proofs.lemmas.Nat.{pow_pos}
use Rattle.bundle_bits.proofs.Words.{both-left}
use Rattle.ia_insn.specs.Signed.{twos, signed_value, flag, FitsSigned}
use Rattle.ia_insn.specs.Sizes.{code_of_size, size_of_code}
use Rattle.ia_insn.proofs.Numbers.{signed-twos, twos-fits, flag-back}
use Rattle.insn_rows.specs.declared.row.Coding.{Coding}
use Rattle.insn_rows.specs.declared.row.Coding.TheVariants as c
use Rattle.insn_rows.specs.declared.value.Value.{Value}
use Rattle.insn_rows.specs.declared.value.Value.TheVariants as v
use Rattle.ia_insn.specs.Ranges.{IsAccessSize, IsIncrement}
use Rattle.insn_rows.specs.Codings.{code_of_step, Takes, code}
use Rattle.insn_rows.specs.Reading.{increment_of_code, value}
use Rattle.insn_rows.specs.WellMade.{suits}
use Rattle.insn_rows.proofs.Numbers.{known_below, known_above, half_below, high_below, up_to_below, twos-signed, shifted_below}

size_code : (n : ℕ) → IsAccessSize n → code_of_size n < 2 ^ 2
size_code n h = grind arith

size_back : (n : ℕ) → IsAccessSize n → size_of_code (code_of_size n) ≡ n
size_back n h = grind arith

step_code : (n : ℕ) → code_of_step n < 4
step_code n = grind arith

step_fits : (b : Bool) (n : ℕ) → 4 * flag b + code_of_step n < 2 ^ 3
step_fits true n = let a = step_code n in omega arith
step_fits false n = let a = step_code n in omega arith

increment_fits : (z : ℤ) → code c.Increment 3 (v.Short z) < 2 ^ 3
increment_fits (pos n) = step_fits false n
increment_fits (negsuc n) = step_fits true (suc n)

step_back : (n : ℕ) → IsIncrement (pos n) → increment_of_code (4 * flag false + code_of_step n) ≡ pos n
step_back n (inl e) = rw e refl
step_back n (inr (inl e)) = rw e refl
step_back n (inr (inr (inl e))) = rw e refl
step_back n (inr (inr (inr e))) = rw e refl

negative_back : (n : ℕ) → IsIncrement (pos n) → increment_of_code (4 * flag true + code_of_step n) ≡ neg_ℤ (pos n)
negative_back n (inl e) = rw e refl
negative_back n (inr (inl e)) = rw e refl
negative_back n (inr (inr (inl e))) = rw e refl
negative_back n (inr (inr (inr e))) = rw e refl

increment_back : (z : ℤ) → IsIncrement z → increment_of_code (code c.Increment 3 (v.Short z)) ≡ z
increment_back (pos n) h = step_back n h
increment_back (negsuc n) h = negative_back (suc n) h

-- A code has its bits.
pub code_fits : (coding : Coding) (w : ℕ) (x : Value) → Takes coding w x → suits coding w ≡ true → code coding w x < 2 ^ w
code_fits c.Absent w v.Absent t s = pow_pos w
code_fits c.NoPredicate w (v.Pr n) t s = let p = pow_pos w in omega arith
code_fits c.Gr w (v.Gr n) t s = t
code_fits c.LowGr w (v.Gr n) t s = known_above n w 2 s (omega arith)
code_fits c.Target w (v.Gr n) t s = t.1
code_fits c.Pr w (v.Pr n) t s = t
code_fits c.Br w (v.Br n) t s = t
code_fits c.Flag w (v.Flag b) t s = known_above (flag b) w 1 s (elim b as (λ b. flag b < 2 ^ 1) [ true ↦ lit< tt | false ↦ lit< tt ])
code_fits c.Small w (v.Small n) t s = t
code_fits (c.UpTo most) w (v.Small n) t s = up_to_below n most w t s
code_fits c.LoadHint w (v.Small n) t s = known_above n w 2 s (let a = t.0 in omega arith)
code_fits c.StoreHint w (v.Small n) t s = known_above n w 2 s (omega arith)
code_fits c.LessOne w (v.Small n) t s = let a = t.0 in let b = t.1 in omega arith
code_fits c.From63 w (v.Small n) t s = known_above (63 - n) w 6 s (omega arith)
code_fits (c.Size least most) w (v.Small n) t s = known_above (code_of_size n) w 2 (both-left _ _ s) (size_code n t.0)
code_fits c.Increment w (v.Short z) t s = known_above (code c.Increment 3 (v.Short z)) w 3 s (increment_fits z)
code_fits c.Wide w (v.Wide n) t s = t
code_fits c.PredicateMask w (v.Mask n) t s = half_below n w t.0
code_fits c.Signed w (v.Signed z) t s = twos-fits w (leb-true _ _ (both-left _ _ s)) z t
code_fits c.RotatingMask w (v.Signed z) t s = high_below (twos (w + 16) z) w (twos-fits (w + 16) (omega arith) z t.0)
code_fits c.Short w (v.Short z) t s = twos-fits w (leb-true _ _ (both-left _ _ s)) z t
code_fits c.Displacement w (v.Displacement z) t s = twos-fits w (leb-true _ _ (both-left _ _ s)) z t
code_fits coding w x t s = absurd t

rotating_back : (w : ℕ) (z : ℤ) → FitsSigned (w + 16) z → twos (w + 16) z % 2 ^ 16 ≡ 0
    → signed_value (w + 16) (twos (w + 16) z / 2 ^ 16 * 2 ^ 16) ≡ z
rotating_back w z fit low =
    let e : twos (w + 16) z / 2 ^ 16 * 2 ^ 16 ≡ twos (w + 16) z = omega arith in
    ap (signed_value (w + 16)) e ∙ signed-twos (w + 16) (omega arith) z fit

-- A value's code is read back as this value.
pub value_back : (coding : Coding) (w : ℕ) (x : Value) → Takes coding w x → suits coding w ≡ true → value coding w (code coding w x) ≡ x
value_back c.Absent w v.Absent t s = refl
value_back c.NoPredicate w (v.Pr n) t s = ap v.Pr (sym t)
value_back c.Gr w (v.Gr n) t s = refl
value_back c.LowGr w (v.Gr n) t s = refl
value_back c.Target w (v.Gr n) t s = refl
value_back c.Pr w (v.Pr n) t s = refl
value_back c.Br w (v.Br n) t s = refl
value_back c.Flag w (v.Flag b) t s = ap v.Flag (flag-back b)
value_back c.Small w (v.Small n) t s = refl
value_back (c.UpTo most) w (v.Small n) t s = refl
value_back c.LoadHint w (v.Small n) t s = refl
value_back c.StoreHint w (v.Small n) t s = refl
value_back c.LessOne w (v.Small n) t s = let a = t.0 in ap v.Small (let e : n - 1 + 1 ≡ n = omega arith in e)
value_back c.From63 w (v.Small n) t s = ap v.Small (let e : 63 - (63 - n) ≡ n = omega arith in e)
value_back (c.Size least most) w (v.Small n) t s = ap v.Small (size_back n t.0)
value_back c.Increment w (v.Short z) t s = ap v.Short (increment_back z t)
value_back c.Wide w (v.Wide n) t s = refl
value_back c.PredicateMask w (v.Mask n) t s = let a = t.1 in ap v.Mask (let e : 2 * (n / 2) ≡ n = omega arith in e)
value_back c.Signed w (v.Signed z) t s = ap v.Signed (signed-twos w (leb-true _ _ (both-left _ _ s)) z t)
value_back c.RotatingMask w (v.Signed z) t s = ap v.Signed (rotating_back w z t.0 t.1)
value_back c.Short w (v.Short z) t s = ap v.Short (signed-twos w (leb-true _ _ (both-left _ _ s)) z t)
value_back c.Displacement w (v.Displacement z) t s = ap v.Displacement (signed-twos w (leb-true _ _ (both-left _ _ s)) z t)
value_back coding w x t s = absurd t

number_of_flag : (n : ℕ) → n < 2 → flag (eqb n 1) ≡ n
number_of_flag n h = grind arith

code_of_bytes : (n : ℕ) → n < 4 → code_of_size (size_of_code n) ≡ n
code_of_bytes n h = grind arith

code_of_eight : (n : ℕ) → n < 8 → code c.Increment 3 (v.Short (increment_of_code n)) ≡ n
code_of_eight zero h = refl
code_of_eight (suc zero) h = refl
code_of_eight (suc (suc zero)) h = refl
code_of_eight (suc (suc (suc zero))) h = refl
code_of_eight (suc (suc (suc (suc zero)))) h = refl
code_of_eight (suc (suc (suc (suc (suc zero))))) h = refl
code_of_eight (suc (suc (suc (suc (suc (suc zero)))))) h = refl
code_of_eight (suc (suc (suc (suc (suc (suc (suc zero))))))) h = refl
code_of_eight (suc (suc (suc (suc (suc (suc (suc (suc n)))))))) h = absurd (omega (arith, h))

-- The code of the value that is read from bits is these bits.
pub code_back : (coding : Coding) (w n : ℕ) → Takes coding w (value coding w n) → suits coding w ≡ true → n < 2 ^ w
    → code coding w (value coding w n) ≡ n
code_back c.Absent w n t s fit = let a : n < 2 ^ 0 = known_below n w 0 s fit in omega arith
code_back c.NoPredicate w n t s fit = let a : n < 2 ^ 0 = known_below n w 0 s fit in omega arith
code_back c.Gr w n t s fit = refl
code_back c.LowGr w n t s fit = refl
code_back c.Target w n t s fit = refl
code_back c.Pr w n t s fit = refl
code_back c.Br w n t s fit = refl
code_back c.Flag w n t s fit = number_of_flag n (let a : n < 2 ^ 1 = known_below n w 1 s fit in omega arith)
code_back c.Small w n t s fit = refl
code_back (c.UpTo most) w n t s fit = refl
code_back c.LoadHint w n t s fit = refl
code_back c.StoreHint w n t s fit = refl
code_back c.LessOne w n t s fit = omega arith
code_back c.From63 w n t s fit = let a : n < 2 ^ 6 = known_below n w 6 s fit in omega arith
code_back (c.Size least most) w n t s fit = code_of_bytes n (let a : n < 2 ^ 2 = known_below n w 2 (both-left _ _ s) fit in omega arith)
code_back c.Increment w n t s fit = code_of_eight n (let a : n < 2 ^ 3 = known_below n w 3 s fit in omega arith)
code_back c.Wide w n t s fit = refl
code_back c.PredicateMask w n t s fit = omega arith
code_back c.Signed w n t s fit = twos-signed w n (leb-true _ _ (both-left _ _ s)) fit
code_back c.RotatingMask w n t s fit =
    let e : twos (w + 16) (signed_value (w + 16) (n * 2 ^ 16)) ≡ n * 2 ^ 16 =
    twos-signed (w + 16) (n * 2 ^ 16) (omega arith) (shifted_below n w fit) in
    ap (λ k. k / 2 ^ 16) e ∙ (omega arith)
code_back c.Short w n t s fit = twos-signed w n (leb-true _ _ (both-left _ _ s)) fit
code_back c.Displacement w n t s fit = twos-signed w n (leb-true _ _ (both-left _ _ s)) fit
