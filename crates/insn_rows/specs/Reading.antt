-- What is read of a word by the operands of a row.
use Rattle.std.specs.Prelude.{ℕ, ℤ, pos, neg_ℤ, nat_lt, ◌+◌, ◌-◌, ◌*◌, ◌%◌, ◌^◌, ◌==◌, if◌then◌else◌, Bool, List, [], ◌∷◌, bit_and}
use Rattle.bundle_bits.specs.Words.{bits}
use Rattle.ia_insn.specs.Signed.{signed_value}
use Rattle.ia_insn.specs.Sizes.{size_of_code}
use Rattle.insn_rows.specs.declared.bits.BitField.{BitField}
use Rattle.insn_rows.specs.declared.row.Coding.{Coding}
use Rattle.insn_rows.specs.declared.row.Coding.TheVariants as c
use Rattle.insn_rows.specs.declared.row.Operand.{Operand}
use Rattle.insn_rows.specs.declared.row.Row.{Row}
use Rattle.insn_rows.specs.declared.value.Value.{Value}
use Rattle.insn_rows.specs.declared.value.Value.TheVariants as v
use Rattle.insn_rows.specs.Scattered.{list_of, width_of}
use Rattle.insn_rows.specs.Rows.{operand_width}

-- The code that a word has in them.
abbrev pub gathered : List BitField → ℕ → ℕ
gathered [] word = 0
gathered (f ∷ fs) word = bits f.low f.width word * 2 ^ width_of fs + gathered fs word

abbrev pub step_of_code : ℕ → ℕ
step_of_code n = if n % 4 == 0 then 16 else if n % 4 == 1 then 8 else if n % 4 == 2 then 4 else 1

-- The increment with a code.
abbrev pub increment_of_code : ℕ → ℤ
increment_of_code n = if nat_lt n 4 then pos (step_of_code n) else neg_ℤ (pos (step_of_code n))

-- The value with a code.
abbrev pub value : Coding → ℕ → ℕ → Value
value c.Absent width n = v.Absent
value c.NoPredicate width n = v.Pr 0
value c.Gr width n = v.Gr n
value c.LowGr width n = v.Gr n
value c.Target width n = v.Gr n
value c.Pr width n = v.Pr n
value c.Br width n = v.Br n
value c.Flag width n = v.Flag (n == 1)
value c.LessOne width n = v.Small (n + 1)
value c.From63 width n = v.Small (63 - n)
value (c.Size least most) width n = v.Small (size_of_code n)
value c.Increment width n = v.Short (increment_of_code n)
value c.Wide width n = v.Wide n
value c.PredicateMask width n = v.Mask (2 * n)
value c.Signed width n = v.Signed (signed_value width n)
value c.RotatingMask width n = v.Signed (signed_value (width + 16) (n * 2 ^ 16))
value c.Short width n = v.Short (signed_value width n)
value c.Displacement width n = v.Displacement (signed_value width n)
value coding width n = v.Small n

-- The values whose codes a word has in the bits of the operands.
abbrev pub read : List Operand → ℕ → List Value
read [] word = []
read (o ∷ os) word = value o.coding (operand_width o) (gathered (list_of o.bits) word) ∷ read os word

-- The row's bits outside its operands are those of the number.
abbrev pub matches : Row → ℕ → Bool
matches r n = bit_and n r.format.mask == r.fixed
