-- The instruction that the completers and the operands of a form make, by the form's row (volume 3, chapter 2).
use Rattle.std.specs.Prelude.{ℕ, ℤ, ◌+◌, ◌-◌, ◌/◌, false, nat_lt, if◌then◌else◌, List, [], ◌∷◌, Option, Some, None, slice_set}
use Rattle.std.specs.Option.{option_map, option_and_then}
use Rattle.asm_lexemes.specs.declared.tokens.Token.{Token}
use Rattle.asm_lexemes.specs.declared.tokens.Token.TheVariants as t
use Rattle.asm_forms.specs.declared.completer.Completer.{Completer}
use Rattle.asm_forms.specs.declared.completer.CompleterSet.{CompleterSet}
use Rattle.asm_forms.specs.declared.completer.Said.{Said}
use Rattle.asm_forms.specs.declared.completer.Said.TheVariants as said
use Rattle.asm_forms.specs.declared.form.Form.{Form}
use Rattle.asm_forms.specs.declared.form.Form.TheVariants as form
use Rattle.asm_forms.specs.declared.items.Kind.{Kind}
use Rattle.asm_forms.specs.declared.items.NumberField.TheVariants.{Imm14}
use Rattle.asm_forms.specs.Items.{has_room, operands}
use Rattle.asm_forms.specs.Rows.{FormRow, row_of}
use Rattle.asm_instructions.specs.Operands.{magnitude_at, is_negative_at, small_at, operand_value, said_value}
use Rattle.ia_insn.specs.declared.insn.Op.{Op}
use Rattle.ia_insn.specs.declared.insn.Op.TheVariants as op
use Rattle.ia_insn.specs.declared.registers.Ar.TheVariants as ar
use Rattle.ia_insn.specs.declared.choices.Unit.TheVariants as unit
use Rattle.insn_rows.specs.declared.opcode.Opcode.{Opcode}
use Rattle.insn_rows.specs.declared.opcode.Opcode.TheVariants as o
use Rattle.insn_rows.specs.declared.value.Value.{Value}
use Rattle.insn_rows.specs.declared.value.Value.TheVariants as v
use Rattle.insn_rows.specs.Values.{at}
use Rattle.insn_rows.specs.ArmsBack.{op_of as op_with}

-- An opcode with what a completer says of it, and None where it is of another unit.
abbrev pub completed : Said → Opcode → Option Opcode
completed (said.Relation s) (o.Cmp r kind) = Some (o.Cmp s kind)
completed (said.Compare k) (o.Cmp r kind) = Some (o.Cmp r k)
completed (said.Relation s) (o.CmpZero r kind) = Some (o.CmpZero s kind)
completed (said.Compare k) (o.CmpZero r kind) = Some (o.CmpZero r k)
completed (said.Relation s) (o.CmpImm r kind) = Some (o.CmpImm s kind)
completed (said.Compare k) (o.CmpImm r kind) = Some (o.CmpImm r k)
completed (said.Lane g) (o.Lane f) = Some (o.Lane g)
completed (said.Shift g) (o.ShiftVar f) = Some (o.ShiftVar g)
completed (said.Unit w) (o.ChkS u) = Some (o.ChkS w)
completed (said.Unit unit.I) (o.MovToAr ar.Unat) = None
completed (said.Unit unit.I) (o.MovToArImm ar.Unat) = None
completed (said.Unit unit.I) (o.MovFromAr ar.Unat) = None
completed (said.Load k) (o.Load kind u) = Some (o.Load k u)
completed (said.Store k) (o.Store kind u) = Some (o.Store k u)
completed (said.Branch k) (o.Br kind) = Some (o.Br k)
completed (said.Unit w) (o.Break u) = Some (o.Break w)
completed (said.Unit w) (o.Nop u) = Some (o.Nop w)
completed (said.Unit w) (o.Hint u) = Some (o.Hint w)
completed says x = Some x

abbrev pub completed_by : List Completer → Opcode → Option Opcode
completed_by [] x = Some x
completed_by (completer ∷ cs) x = option_and_then (completed_by cs) (completed completer.says x)

-- An opcode with the application register that an operand is.
abbrev pub moving : Token → Opcode → Opcode
moving (t.Ar b) (o.MovToAr a) = o.MovToAr b
moving (t.Ar b) (o.MovToArImm a) = o.MovToArImm b
moving (t.Ar b) (o.MovFromAr a) = o.MovFromAr b
moving token x = x

abbrev pub moving_by : List Token → Opcode → Opcode
moving_by [] x = x
moving_by (token ∷ ts) x = moving_by ts (moving token x)

-- Values with those of a form's own, of the operands and of the completers, each put at its number.
abbrev pub with_fixed : List (Said × ℕ) → List Value → List Value
with_fixed [] vs = vs
with_fixed (x ∷ xs) vs = with_fixed xs (slice_set vs x.1 (said_value x.0))

abbrev pub with_operands : List (Kind × ℕ) → List Token → List Value → List Value
with_operands [] ts vs = vs
with_operands (x ∷ xs) [] vs = vs
with_operands (x ∷ xs) (token ∷ ts) vs = with_operands xs ts (slice_set vs x.1 (operand_value x.0 token))

abbrev pub with_completers : List (CompleterSet × ℕ) → List Completer → List Value → List Value
with_completers [] cs vs = vs
with_completers (x ∷ xs) [] vs = vs
with_completers (x ∷ xs) (completer ∷ cs) vs = with_completers xs cs (slice_set vs x.1 (said_value completer.says))

abbrev pub no_values : List Value
no_values = v.Absent ∷ v.Absent ∷ v.Absent ∷ v.Absent ∷ v.Absent ∷ v.Absent ∷ v.Absent ∷ []

abbrev pub values_by : FormRow → List Completer → List Token → List Value
values_by r cs xs = with_completers r.sets cs (with_operands (operands r.items) xs (with_fixed r.fixed no_values))

-- The instruction of a row.
abbrev pub op_by : FormRow → List Completer → List Token → Option Op
op_by r cs xs = option_and_then (λ x. option_map (λ y. op_with y (at (values_by r cs xs))) (completed_by cs (moving_by xs x))) r.opcode

-- `adds` where that has room for the number, which is operand 1, and `addl` otherwise
abbrev pub sum : List Token → ℕ → ℤ → ℕ → Op
sum xs r1 imm r3 = if has_room Imm14 (is_negative_at xs 1) (magnitude_at xs 1) then op.AddImm14 false r1 imm r3 else op.AddImm22 r1 imm r3

-- A frame of inputs, locals, outputs and rotating registers.
abbrev pub allocation : ℕ → ℕ → ℕ → ℕ → ℕ → Option Op
allocation r1 i l o r = if nat_lt 96 (i + l + o) then None else Some (op.Alloc r1 (i + l + o) (i + l) (r / 8))

-- The forms of which a number is computed: `add` is `adds` or `addl`, a
-- shift by a number has as many bits as are left of 64, and a frame is written by its parts.
abbrev pub settled : Form → List Token → Op → Option Op
settled form.AddImm xs (op.AddImm22 r1 imm r3) = Some (sum xs r1 imm r3)
settled form.ShlNumber xs (op.DepZ r1 r2 lowest len) = Some (op.DepZ r1 r2 lowest (64 - lowest))
settled form.ShrNumber xs (op.Extr signed r1 r3 lowest len) = Some (op.Extr signed r1 r3 lowest (64 - lowest))
settled form.Alloc xs (op.Alloc r1 sof sol sor) = allocation r1 (small_at xs 1) (small_at xs 2) (small_at xs 3) (small_at xs 4)
settled f xs x = Some x

-- The instruction of a form with these completers and operands.
abbrev pub op_of : Form → List Completer → List Token → Option Op
op_of f cs xs = option_and_then (settled f xs) (op_by (row_of f) cs xs)
