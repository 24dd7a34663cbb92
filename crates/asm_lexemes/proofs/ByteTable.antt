-- The table of the bytes of names and numbers.
use Rattle.std.proofs.Common.{◌≡◌, refl, sym, ℕ, ◌<◌, Bool, true, false, get_or}
use Rattle.ia_program.proofs.Tests.{all_below, below}
use Rattle.asm_lexemes.specs.declared.bytes.TheConstants.{NAME_BYTES}
use Rattle.asm_lexemes.specs.Bytes.{is_name_byte}

abbrev same : Bool → Bool → Bool
same true b = b
same false true = false
same false false = true

are_same : (a b : Bool) → same a b ≡ true → a ≡ b
are_same true true h = refl
are_same true false h = sym h
are_same false true h = h
are_same false false h = refl

table : all_below (λ c. same (get_or NAME_BYTES c false) (is_name_byte c)) 256 ≡ true
table = refl

pub name_byte : (c : ℕ) → c < 256 → get_or NAME_BYTES c false ≡ is_name_byte c
name_byte c h = are_same _ _ (below (λ c. same (get_or NAME_BYTES c false) (is_name_byte c)) 256 c table h)
