-- The numbers that digits write.
use Rattle.std.proofs.Common.{◌≡◌, refl, sym, ◌∙◌, ap, ℕ, ◌+◌, ◌*◌, ◌<◌, ◌≤◌, Some, None, List, take, length, get_or, arith, ltb, true, false}
use Rattle.std.proofs.lemmas.Bool.Decides.{nat_tests}
use Rattle.std.specs.Char.{digit_value}
use Rattle.std.specs.Str.Parse.{digits_value}
use Rattle.std.proofs.lemmas.Str.Parse.{digits_value-take-le}
use Rattle.std.proofs.lemmas.Int.Digits.{digits_value_more}
use Rattle.asm_lexemes.specs.Numbers.{numeral}

pub is_held : (base : ℕ) (ds : List ℕ) → digits_value base ds < 18446744073709551616 → Some (digits_value base ds) ≡ numeral base ds
is_held base ds h = let t : ltb (digits_value base ds) 18446744073709551616 ≡ true = grind (arith, nat_tests) in rw t refl

pub is_too_large : (base : ℕ) (ds : List ℕ) (i total d : ℕ) → 1 ≤ base → i < length ds → total ≡ digits_value base (take i ds)
    → d ≡ digit_value (get_or ds i 0) → (total * base + d < 18446744073709551616 → ⊥) → None ≡ numeral base ds
is_too_large base ds i total d one h et ed n =
    let low = digits_value-take-le base ds (i + 1) one in
    let m : digits_value base (take (i + 1) ds) ≡ total * base + d =
    digits_value_more base ds i h ∙ ap (λ x. x * base + digit_value (get_or ds i 0)) (sym et) ∙ ap (λ x. total * base + x) (sym ed) in
    let t : ltb (digits_value base ds) 18446744073709551616 ≡ false = grind (arith, nat_tests, low, m, n) in
    rw t refl

pub one_more : (base : ℕ) (ds : List ℕ) (i total d : ℕ) → i < length ds → total ≡ digits_value base (take i ds)
    → d ≡ digit_value (get_or ds i 0) → total * base + d ≡ digits_value base (take (i + 1) ds)
one_more base ds i total d h et ed =
    sym (digits_value_more base ds i h ∙ ap (λ x. x * base + digit_value (get_or ds i 0)) (sym et) ∙ ap (λ x. total * base + x) (sym ed))
