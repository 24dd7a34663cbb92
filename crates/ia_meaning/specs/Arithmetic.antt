-- What integer instructions compute, in whole numbers (volume 3, chapter 2).
use Rattle.std.specs.Prelude.{ℕ, ℤ, ◌+◌, ◌-◌, ◌*◌, ◌/◌, ◌%◌, ◌^◌, Bool, not, ◌||◌, if◌then◌else◌, Option, Some, None, nat_lt, ◌==◌, min, bit_and, bit_or, bit_xor, int_lt, int_le}
use Rattle.ia_insn.specs.Signed.{twos, signed_value}
use Rattle.ia_insn.specs.declared.choices.AluFn.{AluFn}
use Rattle.ia_insn.specs.declared.choices.AluFn.TheVariants as alu_fn
use Rattle.ia_insn.specs.declared.choices.ShiftFn.{ShiftFn}
use Rattle.ia_insn.specs.declared.choices.ShiftFn.TheVariants.{Shr, ShrU, Shl}
use Rattle.ia_insn.specs.declared.choices.Rel.{Rel}
use Rattle.ia_insn.specs.declared.choices.Rel.TheVariants.{Eq, Ne, Lt, Ltu, Gt, Ge, Le}
use Rattle.ia_meaning.specs.declared.state.Cell.{Cell}

-- 64 bits.
abbrev pub word : ℕ → ℕ
word n = n % 2 ^ 64

-- The word with each bit turned.
abbrev pub complement : ℕ → ℕ
complement a = 2 ^ 64 - 1 - a

-- An immediate as a word: sign-extended.
abbrev pub immediate : ℤ → ℕ
immediate imm = twos 64 imm

-- A sum as a pointer of 32 bits: its low 32 bits, and bits 31:30 of the base as bits 62:61 (`addp4`).
abbrev pub pointer : ℕ → ℕ → ℕ
pointer sum base = sum % 2 ^ 32 + 2 ^ 61 * ((base / 2 ^ 30) % 4)

-- `add`, `sub`, `addp4`, `and`, `andcm`, `or` and `xor`
abbrev pub alu : AluFn → ℕ → ℕ → ℕ
alu alu_fn.Add a b = word (a + b)
alu alu_fn.Add1 a b = word (a + b + 1)
alu alu_fn.Sub a b = word (a + 2 ^ 64 - b)
alu alu_fn.Sub1 a b = word (a + 2 ^ 64 - b - 1)
alu alu_fn.Addp4 a b = pointer (a + b) b
alu alu_fn.And a b = bit_and a b
alu alu_fn.Andcm a b = bit_and a (complement b)
alu alu_fn.Or a b = bit_or a b
alu alu_fn.Xor a b = bit_xor a b

-- `shladd` and `shladdp4`
abbrev pub shift_add : Bool → ℕ → ℕ → ℕ → ℕ
shift_add p4 count a b = if p4 then pointer (a * 2 ^ count + b) b else word (a * 2 ^ count + b)

-- Filled with zeros. A count above 63 gives 0.
abbrev pub shift_right : ℕ → ℕ → ℕ
shift_right a count = if nat_lt count 64 then a / 2 ^ count else 0

abbrev pub shift_left : ℕ → ℕ → ℕ
shift_left a count = if nat_lt count 64 then word (a * 2 ^ count) else 0

-- Filled with the sign: that of a negative number is the shift of its complement, turned. A count above 63 gives
-- copies of the sign.
abbrev pub shift_right_signed : ℕ → ℕ → ℕ
shift_right_signed a count = if nat_lt a (2 ^ 63) then shift_right a count else complement (shift_right (complement a) count)

-- `shr`, `shr.u` and `shl`
abbrev pub shift : ShiftFn → ℕ → ℕ → ℕ
shift Shr a count = shift_right_signed a count
shift ShrU a count = shift_right a count
shift Shl a count = shift_left a count

-- `shrp`: the low word of the pair, shifted right
abbrev pub shift_pair : ℕ → ℕ → ℕ → ℕ
shift_pair count a b = word ((2 ^ 64 * a + b) / 2 ^ count)

-- A number of `width` bits, 1 to 64, sign-extended to a word.
abbrev pub extended : ℕ → ℕ → ℕ
extended width n = if nat_lt n (2 ^ (width - 1)) then n else n + 2 ^ 64 - 2 ^ width

-- The length of a field, cut at bit 63.
abbrev pub cut : ℕ → ℕ → ℕ
cut pos len = min len (64 - pos)

-- The `len` bits of a number from bit `pos` on.
abbrev pub field : ℕ → ℕ → ℕ → ℕ
field a pos len = (a / 2 ^ pos) % 2 ^ len

-- `extr` and `extr.u`; the sign of a field that is cut is bit 63
abbrev pub extract : Bool → ℕ → ℕ → ℕ → ℕ
extract signed pos len a =
    if signed then extended (cut pos len) (field a pos (cut pos len)) else field a pos (cut pos len)

-- `dep`: the low bits of x as a field of a, whose other bits stay
abbrev pub deposit : ℕ → ℕ → ℕ → ℕ → ℕ
deposit pos len x a =
    a % 2 ^ pos + 2 ^ pos * (x % 2 ^ cut pos len) + 2 ^ (pos + cut pos len) * (a / 2 ^ (pos + cut pos len))

-- What `sxt` and `zxt` give for the low `size` bytes.
abbrev pub extend : Bool → ℕ → ℕ → ℕ
extend signed size a = if signed then extended (8 * size) (a % 2 ^ (8 * size)) else a % 2 ^ (8 * size)

-- Whether the relation holds of two numbers of `width` bits.
abbrev pub related : ℕ → Rel → ℕ → ℕ → Bool
related width Eq a b = a == b
related width Ne a b = not (a == b)
related width Lt a b = int_lt (signed_value width a) (signed_value width b)
related width Ltu a b = nat_lt a b
related width Gt a b = int_lt (signed_value width b) (signed_value width a)
related width Ge a b = int_le (signed_value width b) (signed_value width a)
related width Le a b = int_le (signed_value width a) (signed_value width b)

-- `cmp`, and `cmp4`, which looks at the low 32 bits
abbrev pub compared : Bool → Rel → ℕ → ℕ → Bool
compared four_bytes rel a b = if four_bytes then related 32 rel (a % 2 ^ 32) (b % 2 ^ 32) else related 64 rel a b

-- Bit n of a number.
abbrev pub bit : ℕ → ℕ → Bool
bit a n = (a / 2 ^ n) % 2 == 1

-- The result of a test of two registers; none where one has NaT.
abbrev pub tested : (ℕ → ℕ → Bool) → Cell → Cell → Option Bool
tested f a b = if a.nat || b.nat then None else Some (f a.value b.value)
