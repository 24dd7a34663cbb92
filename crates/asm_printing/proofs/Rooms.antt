-- How many digits numbers of 64 bits have at most, and how many fixed tokens and operands a form has.
use Rattle.std.proofs.Common.{◌≡◌, refl, ap, ℕ, suc, zero, ◌*◌, ◌/◌, ◌%◌, ◌<◌, ◌≤◌, ◌^◌, Bool, true, false, leb, [], ◌∷◌, length, arith, lit<}
use Rattle.std.specs.List.{list_all}
use Rattle.std.specs.Fmt.{decimal, digits, digit_glyph}
use Rattle.std.proofs.lemmas.Fmt.{length-decimal-le}
use Rattle.std.proofs.lemmas.Bool.{leb-true, leb-false}
use Rattle.std.proofs.lemmas.List.{length-append}
use native.Mathlib.Nat.{pow-suc}
use Rattle.asm_lexemes.proofs.HexDigits.{hex_one, hex_step}
use Rattle.asm_forms.specs.declared.form.Form.{Form}
use Rattle.asm_forms.specs.Rows.{rows, row_of}
use Rattle.asm_forms.proofs.RowFacts.{of_row}

-- A number of 64 bits has at most 20 decimal digits.
pub decimal_is_short : (n : ℕ) → n < 2 ^ 64 → length (decimal n) ≤ 20
decimal_is_short n l = length-decimal-le 20 n (lit< tt) (omega arith) l

-- A hexadecimal digit more than those of the number divided by 16, or one alone.
hex_either : (b : Bool) (n most : ℕ) → leb 16 n ≡ b → n < 2 ^ 64 → length (digits 16 false (n / 16)) ≤ most
    → length (digits 16 false n) ≤ suc most
hex_either true n most e l s =
    let d = ap length (hex_step n (leb-true 16 n e) (omega (arith, l))) in
    let both = length-append (digits 16 false (n / 16)) (digit_glyph false (n % 16) ∷ []) in
    omega (arith, d, both, s)
hex_either false n most e l s = let d = ap length (hex_one n (leb-false 16 n e)) in omega (arith, d)

-- A number below a power of 16 has no more hexadecimal digits than the exponent.
pub hex_is_short : (k n : ℕ) → n < 16 ^ suc k → n < 2 ^ 64 → length (digits 16 false n) ≤ suc k
hex_is_short zero n h l = let d = ap length (hex_one n (omega (arith, h))) in omega (arith, d)
hex_is_short (suc k) n h l =
    let p : 16 ^ suc (suc k) ≡ 16 ^ suc k * 16 = pow-suc 16 (suc k) in
    let m : n / 16 < 16 ^ suc k = omega (arith, p, h) in
    hex_either (leb 16 n) n (suc k) refl l (hex_is_short k (n / 16) m (omega (arith, l)))

-- A number of 64 bits has at most 16 hexadecimal digits.
pub hex_fits : (n : ℕ) → n < 2 ^ 64 → length (digits 16 false n) ≤ 16
hex_fits n l = hex_is_short 15 n (omega arith) l

rows_are_short : list_all (λ r. leb (length r.items) 16) rows ≡ true
rows_are_short = refl

-- A form has at most 16 fixed tokens and operands.
pub items_are_few : (f : Form) → length (row_of f).items ≤ 16
items_are_few f = leb-true _ _ (of_row (λ r. leb (length r.items) 16) f rows_are_short)
