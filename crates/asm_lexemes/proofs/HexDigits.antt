-- Hexadecimal digits, the last one apart.
use Rattle.std.proofs.Common.{◌≡◌, refl, sym, ◌∙◌, ap, ℕ, zero, suc, ◌*◌, ◌/◌, ◌%◌, ◌^◌, ◌<◌, ◌≤◌, true, false, cond, eqb, List, [], ◌∷◌, ◌++◌, arith, append_assoc}
use Rattle.std.proofs.lemmas.Bool.Decides.{nat_tests}
use native.Mathlib.Nat.{pow-suc}
use Rattle.std.specs.Fmt.{digits, digits_onto, digit_glyph}

before : (k n : ℕ) (acc : List ℕ) → digits_onto k 16 false n acc ≡ digits_onto k 16 false n [] ++ acc
before zero n acc = refl
before (suc k) n acc =
    let g = digit_glyph false (n % 16) in
    elim (eqb (n / 16) 0) as (λ b. cond b (g ∷ acc) (digits_onto k 16 false (n / 16) (g ∷ acc)) ≡ cond b (g ∷ [])
    (digits_onto k 16 false (n / 16) (g ∷ [])) ++ acc) [
      | true ↦ refl
      | false ↦ before k (n / 16) (g ∷ acc) ∙ sym (ap (λ x. x ++ acc) (before k (n / 16) (g ∷ []))
          ∙ append_assoc (digits_onto k 16 false (n / 16) []) (g ∷ []) acc)
    ]

fuel : (k n : ℕ) (acc : List ℕ) → 0 < k → n < 16 ^ k → digits_onto (suc k) 16 false n acc ≡ digits_onto k 16 false n acc
fuel zero n acc h l = absurd (omega arith)
fuel (suc zero) n acc h l = let e : eqb (n / 16) 0 ≡ true = grind (arith, nat_tests) in rw e refl
fuel (suc (suc k)) n acc h l =
    let g = digit_glyph false (n % 16) in
    let p : 16 ^ suc (suc k) ≡ 16 ^ suc k * 16 = pow-suc 16 (suc k) in
    let m : n / 16 < 16 ^ suc k = omega (arith, p) in
    elim (eqb (n / 16) 0) as (λ b. cond b (g ∷ acc) (digits_onto (suc (suc k)) 16 false (n / 16) (g ∷ acc)) ≡ cond b (g ∷ acc)
    (digits_onto (suc k) 16 false (n / 16) (g ∷ acc))) [ true ↦ refl | false ↦ fuel (suc k) (n / 16) (g ∷ acc) (omega arith) m ]

pub hex_step : (n : ℕ) → 16 ≤ n → n < 18446744073709551616 → digits 16 false n ≡ digits 16 false (n / 16) ++ digit_glyph false (n % 16) ∷ []
unfolding digits
hex_step n h l =
    let e : eqb (n / 16) 0 ≡ false = grind (arith, nat_tests) in
    let m : n / 16 < 16 ^ 63 = omega arith in
    rw e (sym (fuel 63 (n / 16) (digit_glyph false (n % 16) ∷ []) (omega arith) m) ∙ before 64 (n / 16) (digit_glyph false (n % 16) ∷ []))

pub hex_one : (n : ℕ) → n < 16 → digits 16 false n ≡ digit_glyph false (n % 16) ∷ []
unfolding digits
hex_one n h = let e : eqb (n / 16) 0 ≡ true = grind (arith, nat_tests) in rw e (refl {a = digit_glyph false (n % 16) ∷ []})
