-- What the operands and the completers of a line say, as values of an instruction.
use Rattle.std.specs.Prelude.{ℕ, ◌-◌, ◌^◌, ◌%◌, ℤ, pos, ◌-ℤ◌, Bool, true, false, not, nat_lt, ◌==◌, if◌then◌else◌, List, slice_index_or}
use lib.IntN.{neg_ℤ}
use Rattle.asm_lexemes.specs.declared.tokens.Token.{Token}
use Rattle.asm_lexemes.specs.declared.tokens.Token.TheVariants as t
use Rattle.asm_forms.specs.declared.completer.Said.{Said}
use Rattle.asm_forms.specs.declared.completer.Said.TheVariants as said
use Rattle.asm_forms.specs.declared.items.Kind.{Kind}
use Rattle.asm_forms.specs.declared.items.Kind.TheVariants as k
use Rattle.asm_forms.specs.declared.items.NumberField.{NumberField}
use Rattle.asm_forms.specs.declared.items.NumberField.TheVariants as f
use Rattle.asm_forms.specs.declared.choices.AccessSize.{AccessSize}
use Rattle.asm_forms.specs.declared.choices.AccessSize.TheVariants as size
use Rattle.insn_rows.specs.declared.value.Value.{Value}
use Rattle.insn_rows.specs.declared.value.Value.TheVariants as v

abbrev pub token_at : List Token → ℕ → Token
token_at ts k = slice_index_or ts k t.OtherMark

-- A number without its sign.
abbrev pub magnitude : Token → ℕ
magnitude (t.Number s m) = m
magnitude _ = 0

abbrev pub magnitude_at : List Token → ℕ → ℕ
magnitude_at ts k = magnitude (token_at ts k)

abbrev pub is_negative : Token → Bool
is_negative (t.Number s m) = s
is_negative _ = false

abbrev pub is_negative_at : List Token → ℕ → Bool
is_negative_at ts k = is_negative (token_at ts k)

-- A number below 256.
abbrev pub small : ℕ → ℕ
small m = if nat_lt m 256 then m else 0

abbrev pub small_at : List Token → ℕ → ℕ
small_at ts k = small (magnitude_at ts k)

-- A number below 2^32.
abbrev pub u32_at : List Token → ℕ → ℕ
u32_at ts k = if nat_lt (magnitude_at ts k) (2 ^ 32) then magnitude_at ts k else 0

abbrev pub signed : Bool → ℕ → ℤ
signed true m = neg_ℤ (pos m)
signed false m = pos m

-- A number with its sign, of 64 and of 16 bits.
abbrev pub long : Bool → ℕ → ℤ
long negative m = if nat_lt m (2 ^ 63) then signed negative m else pos 0

abbrev pub short : Bool → ℕ → ℤ
short negative m = if nat_lt m (2 ^ 15) then signed negative m else pos 0

-- A number modulo a power of two.
abbrev pub wrapped : ℕ → Bool → ℕ → ℕ
wrapped modulus true m = (modulus - m % modulus) % modulus
wrapped modulus false m = m % modulus

-- A number with its lowest bit cleared.
abbrev pub even : ℕ → ℕ
even n = n - n % 2

-- The value that a number is by its field.
abbrev pub number_value : NumberField → Bool → ℕ → Value
number_value f.Imm8 s m = v.Signed (long s m)
number_value f.Less8 s m = v.Signed (long s m -ℤ pos 1)
number_value f.Imm9 s m = v.Short (short s m)
number_value f.Imm14 s m = v.Signed (long s m)
number_value f.Imm22 s m = v.Signed (long s m)
number_value f.Imm21 s m = v.Wide m
number_value f.Imm62 s m = v.Wide m
number_value f.Imm64 s m = v.Wide (wrapped (2 ^ 64) s m)
number_value f.ZeroOrMinusOne s m = v.Flag (not (m == 0))
number_value f.Tag s m = v.Short (short s m)
number_value f.Mask s m = v.Mask (even (wrapped (2 ^ 17) s m))
number_value f.RotatingMask s m = v.Signed (long s m)
number_value f.Increment s m = v.Short (short s m)
number_value _ s m = v.Small (small m)

-- The value that an operand is by its kind. A target that is a label counts 0 until its name is put in.
abbrev pub operand_value : Kind → Token → Value
operand_value k.Gr (t.Gr n) = v.Gr n
operand_value k.Pr (t.Pr n) = v.Pr n
operand_value k.Br (t.Br n) = v.Br n
operand_value (k.Number field) (t.Number s m) = number_value field s m
operand_value k.Label x = v.Displacement (pos 0)
operand_value _ _ = v.Absent

-- The value that is said, by a completer or by a form.
abbrev pub said_value : Said → Value
said_value (said.Flag b) = v.Flag b
said_value (said.Small n) = v.Small n
said_value (said.Mask n) = v.Mask n
said_value _ = v.Absent

-- How many bytes.
abbrev pub bytes : AccessSize → ℕ
bytes size.One = 1
bytes size.Two = 2
bytes size.Four = 4
bytes size.Eight = 8
