-- How an instruction is printed: its form, and by the form's row a completer for each set and the operands. Branches have
-- their whether and prefetch hints, a move to a branch register its tag, a move to the predicates its mask.
use Rattle.std.specs.Prelude.{ℕ, unsigned_abs, ◌-◌, ◌*◌, ℤ, pos, negsuc, Bool, true, false, not, ◌==◌, if◌then◌else◌, List, [], ◌∷◌, map, unwrap_or}
use Rattle.std.specs.List.{find, list_all}
use Rattle.asm_lexemes.specs.declared.tokens.Token.{Token}
use Rattle.asm_lexemes.specs.declared.tokens.Token.TheVariants as t
use denote.Enum.Bare.{sameb}
use Rattle.asm_forms.specs.declared.completer.Completer.{Completer}
use Rattle.asm_forms.specs.declared.completer.Said.{Said}
use Rattle.asm_forms.specs.declared.completer.Said.TheVariants as said
use Rattle.asm_forms.specs.declared.completer.Said.TheVariants.{Nothing}
use Rattle.asm_forms.specs.declared.completer.Suffix.TheVariants.{Absent}
use Rattle.asm_forms.specs.declared.completer.CompleterSet.{CompleterSet}
use Rattle.asm_forms.specs.declared.items.Kind.{Kind}
use Rattle.asm_forms.specs.declared.items.Kind.TheVariants as k
use Rattle.asm_forms.specs.Completers.{members}
use Rattle.asm_forms.specs.Items.{operands}
use Rattle.asm_forms.specs.Rows.{row_of}
use Rattle.asm_forms.specs.declared.form.Form.{Form}
use Rattle.asm_forms.specs.declared.form.Form.TheVariants as form
use Rattle.ia_insn.specs.declared.insn.Op.{Op}
use Rattle.ia_insn.specs.declared.registers.Ar.{Ar}
use Rattle.ia_insn.specs.declared.registers.Ar.TheVariants as ar
use Rattle.ia_insn.specs.contracts.choices.Rel.{the_type as rel_type}
use Rattle.ia_insn.specs.contracts.choices.CmpKind.{the_type as compare_type}
use Rattle.ia_insn.specs.contracts.choices.LaneFn.{the_type as lane_type}
use Rattle.ia_insn.specs.contracts.choices.ShiftFn.{the_type as shift_type}
use Rattle.ia_insn.specs.contracts.choices.LoadKind.{the_type as load_type}
use Rattle.ia_insn.specs.contracts.choices.StoreKind.{the_type as store_type}
use Rattle.ia_insn.specs.contracts.choices.BranchKind.{the_type as branch_type}
use Rattle.ia_insn.specs.contracts.choices.Unit.{the_type as unit_type}
use Rattle.ia_insn.specs.declared.choices.AluFn.TheVariants as alu
use Rattle.ia_insn.specs.declared.choices.LaneFn.TheVariants as lane_fn
use Rattle.ia_insn.specs.declared.choices.ShiftFn.TheVariants as shift
use Rattle.ia_insn.specs.declared.choices.CmpKind.TheVariants as cmp
use Rattle.ia_insn.specs.declared.choices.BranchKind.TheVariants as branch
use Rattle.ia_insn.specs.declared.choices.Unit.TheVariants as unit
use Rattle.insn_rows.specs.declared.opcode.Opcode.{Opcode}
use Rattle.insn_rows.specs.declared.opcode.Opcode.TheVariants as o
use Rattle.insn_rows.specs.declared.opcode.UpdateKind.TheVariants as update
use Rattle.insn_rows.specs.declared.value.Value.{Value}
use Rattle.insn_rows.specs.declared.value.Value.TheVariants as v
use Rattle.insn_rows.specs.Values.{at}
use Rattle.insn_rows.specs.Arms.{opcode_of, operands_of}
use Rattle.insn_rows.specs.ArmsBack.{small_of}

pub record Syntax : Type 0 where
  pub form : Form
  pub completers : List Completer
  pub operands : List Token

abbrev pub syntax : Form → List Completer → List Token → Syntax
syntax f cs xs = record { form = f; completers = cs; operands = xs }

abbrev pub negative : ℤ → Bool
negative (pos n) = false
negative (negsuc n) = true

-- A number by sign and magnitude.
abbrev pub number : ℤ → Token
number z = t.Number (negative z) (unsigned_abs z)

abbrev pub natural : ℕ → Token
natural n = t.Number false n

-- 0, or -1 for ones.
abbrev pub ones_number : Bool → Token
ones_number ones = if ones then t.Number true 1 else t.Number false 0

-- The forms that an opcode is printed with: one, or one for each size or choice that their stems tell.
abbrev pub forms_of : Opcode → List Form
-- A formats.
forms_of (o.Alu alu.Add) = form.Add ∷ []
forms_of (o.Alu alu.Add1) = form.AddOne ∷ []
forms_of (o.Alu alu.Sub) = form.Sub ∷ []
forms_of (o.Alu alu.Sub1) = form.SubOne ∷ []
forms_of (o.Alu alu.Addp4) = form.Addp4 ∷ []
forms_of (o.Alu alu.And) = form.And ∷ []
forms_of (o.Alu alu.Andcm) = form.Andcm ∷ []
forms_of (o.Alu alu.Or) = form.Or ∷ []
forms_of (o.Alu alu.Xor) = form.Xor ∷ []
forms_of o.ShlAdd = form.Shladd ∷ form.Shladdp4 ∷ []
forms_of (o.AluImm8 alu.Sub) = form.SubImm ∷ []
forms_of (o.AluImm8 alu.And) = form.AndImm ∷ []
forms_of (o.AluImm8 alu.Andcm) = form.AndcmImm ∷ []
forms_of (o.AluImm8 alu.Or) = form.OrImm ∷ []
forms_of (o.AluImm8 alu.Xor) = form.XorImm ∷ []
forms_of (o.AluImm8 f) = []
forms_of o.AddImm14 = form.Adds ∷ form.Addp4Imm ∷ []
forms_of o.AddImm22 = form.Addl ∷ []
forms_of (o.Cmp r cmp.Normal) = form.Cmp ∷ form.Cmp4 ∷ []
forms_of (o.Cmp r cmp.Unc) = form.Cmp ∷ form.Cmp4 ∷ []
forms_of (o.Cmp r kind) = form.CmpParallel ∷ form.Cmp4Parallel ∷ []
forms_of (o.CmpZero r kind) = form.CmpZero ∷ form.Cmp4Zero ∷ []
forms_of (o.CmpImm r cmp.Normal) = form.CmpImm ∷ form.Cmp4Imm ∷ []
forms_of (o.CmpImm r cmp.Unc) = form.CmpImm ∷ form.Cmp4Imm ∷ []
forms_of (o.CmpImm r kind) = form.CmpImmParallel ∷ form.Cmp4ImmParallel ∷ []
forms_of (o.Lane lane_fn.Padd) = form.Padd1 ∷ form.Padd2 ∷ form.Padd4 ∷ []
forms_of (o.Lane lane_fn.Psub) = form.Psub1 ∷ form.Psub2 ∷ form.Psub4 ∷ []
forms_of (o.Lane f) = form.Pcmp1 ∷ form.Pcmp2 ∷ form.Pcmp4 ∷ []
-- I formats.
forms_of (o.ShiftVar shift.Shl) = form.Shl ∷ []
forms_of (o.ShiftVar f) = form.Shr ∷ []
forms_of o.Popcnt = form.Popcnt ∷ []
forms_of o.Shrp = form.Shrp ∷ []
forms_of o.Extr = form.Extr ∷ []
forms_of o.DepZ = form.DepZ ∷ []
forms_of o.DepZImm = form.DepZImm ∷ []
forms_of o.DepImm = form.DepImm ∷ []
forms_of o.Dep = form.Dep ∷ []
forms_of o.Tbit = form.Tbit ∷ []
forms_of o.Tnat = form.Tnat ∷ []
forms_of (o.ChkS u) = form.ChkS ∷ []
forms_of o.MovToBr = form.MovToBrTag ∷ []
forms_of o.MovFromBr = form.MovFromBr ∷ []
forms_of o.MovToPr = form.MovToPrMask ∷ []
forms_of o.MovToPrRot = form.MovToPrRot ∷ []
forms_of o.MovFromIp = form.MovFromIp ∷ []
forms_of o.MovFromPr = form.MovFromPr ∷ []
forms_of (o.MovToAr ar.Unat) = form.MovToArM ∷ []
forms_of (o.MovToAr a) = form.MovToArI ∷ []
forms_of (o.MovToArImm ar.Unat) = form.MovToArImmM ∷ []
forms_of (o.MovToArImm a) = form.MovToArImmI ∷ []
forms_of (o.MovFromAr ar.Unat) = form.MovFromArM ∷ []
forms_of (o.MovFromAr a) = form.MovFromArI ∷ []
forms_of o.Ext = form.Zxt1 ∷ form.Zxt2 ∷ form.Zxt4 ∷ form.Sxt1 ∷ form.Sxt2 ∷ form.Sxt4 ∷ []
-- M formats.
forms_of (o.Load kind update.None) = form.Ld1 ∷ form.Ld2 ∷ form.Ld4 ∷ form.Ld8 ∷ []
forms_of (o.Load kind update.Reg) = form.Ld1Reg ∷ form.Ld2Reg ∷ form.Ld4Reg ∷ form.Ld8Reg ∷ []
forms_of (o.Load kind update.Imm) = form.Ld1Imm ∷ form.Ld2Imm ∷ form.Ld4Imm ∷ form.Ld8Imm ∷ []
forms_of (o.Store kind update.Imm) = form.St1Imm ∷ form.St2Imm ∷ form.St4Imm ∷ form.St8Imm ∷ []
forms_of (o.Store kind u) = form.St1 ∷ form.St2 ∷ form.St4 ∷ form.St8 ∷ []
forms_of o.Xchg = form.Xchg1 ∷ form.Xchg2 ∷ form.Xchg4 ∷ form.Xchg8 ∷ []
forms_of o.FetchAdd = form.Fetchadd4 ∷ form.Fetchadd8 ∷ []
forms_of o.ChkA = form.ChkANc ∷ form.ChkAClr ∷ []
forms_of o.Invala = form.Invala ∷ []
forms_of o.Mf = form.Mf ∷ []
forms_of o.InvalaE = form.InvalaE ∷ []
forms_of o.Alloc = form.Alloc ∷ []
-- B formats.
forms_of (o.Br branch.Cond) = form.BrCond ∷ []
forms_of (o.Br kind) = form.BrLoop ∷ []
forms_of o.BrCall = form.BrCall ∷ []
forms_of o.BrInd = form.BrInd ∷ []
forms_of o.BrRet = form.BrRet ∷ []
forms_of o.BrCallInd = form.BrCallInd ∷ []
forms_of o.Clrrrb = form.Clrrrb ∷ form.ClrrrbPr ∷ []
-- X formats.
forms_of o.Movl = form.Movl ∷ []
-- The formats that every unit has.
forms_of (o.Break unit.X) = form.BreakLong ∷ []
forms_of (o.Break u) = form.BreakImm ∷ []
forms_of (o.Nop unit.X) = form.NopLong ∷ []
forms_of (o.Nop u) = form.NopImm ∷ []
forms_of (o.Hint u) = form.HintImm ∷ []

-- What is said is so of an instruction of this opcode, where it speaks of a value, of this one.
abbrev pub is_said : Said → Opcode → Value → Bool
is_said (said.Flag own) x (v.Flag b) = if own then b else not b
is_said (said.Flag own) x value = false
is_said (said.Small own) x (v.Small n) = own == n
is_said (said.Small own) x value = false
is_said (said.Mask own) x (v.Mask n) = own == n
is_said (said.Mask own) x value = false
is_said (said.Relation own) (o.Cmp r kind) value = sameb rel_type own r
is_said (said.Relation own) (o.CmpZero r kind) value = sameb rel_type own r
is_said (said.Relation own) (o.CmpImm r kind) value = sameb rel_type own r
is_said (said.Compare own) (o.Cmp r kind) value = sameb compare_type own kind
is_said (said.Compare own) (o.CmpZero r kind) value = sameb compare_type own kind
is_said (said.Compare own) (o.CmpImm r kind) value = sameb compare_type own kind
is_said (said.Lane own) (o.Lane f) value = sameb lane_type own f
is_said (said.Shift own) (o.ShiftVar f) value = sameb shift_type own f
is_said (said.Load own) (o.Load kind u) value = sameb load_type own kind
is_said (said.Store own) (o.Store kind u) value = sameb store_type own kind
is_said (said.Branch own) (o.Br kind) value = sameb branch_type own kind
is_said (said.Unit own) (o.ChkS u) value = sameb unit_type own u
is_said (said.Unit own) (o.Break u) value = sameb unit_type own u
is_said (said.Unit own) (o.Nop u) value = sameb unit_type own u
is_said (said.Unit own) (o.Hint u) value = sameb unit_type own u
is_said says x value = true

-- The values that a form has of its own are those of the instruction.
abbrev pub has_fixed : List (Said × ℕ) → Opcode → (ℕ → Value) → Bool
has_fixed fixed opcode x = list_all (λ s. is_said s.0 opcode (x s.1)) fixed

-- The form of an opcode and values: the first whose own values they are.
abbrev pub form_of : Opcode → (ℕ → Value) → Form
form_of opcode x = unwrap_or (find (λ f. has_fixed (row_of f).fixed opcode x) (forms_of opcode)) form.Data

-- The completer of a set that an instruction of this opcode is printed with, and of this value, where the set says one: the
-- first that says what is so.
abbrev pub completer_of : CompleterSet → Opcode → Value → Completer
completer_of s x value = unwrap_or (find (λ c. is_said c.says x value) (members s)) (record { suffix = Absent; says = Nothing })

-- The token that a value is printed as; a target is a name.
abbrev pub value_token : Value → Token
value_token (v.Gr n) = t.Gr n
value_token (v.Pr n) = t.Pr n
value_token (v.Br n) = t.Br n
value_token (v.Flag b) = ones_number b
value_token (v.Small n) = natural n
value_token (v.Wide n) = natural n
value_token (v.Mask n) = natural n
value_token (v.Signed z) = number z
value_token (v.Short z) = number z
value_token (v.Displacement z) = t.Name
value_token v.Absent = t.OtherMark

-- The application register of an opcode.
abbrev pub register_of : Opcode → Ar
register_of (o.MovToAr a) = a
register_of (o.MovToArImm a) = a
register_of (o.MovFromAr a) = a
register_of x = ar.Unat

-- The token of an operand: its value's, or an application register.
abbrev pub operand_of : Kind → Opcode → Value → Token
operand_of k.Ar x value = t.Ar (register_of x)
operand_of kind x value = value_token value

-- By the row of a form.
abbrev pub syntax_by : Form → Opcode → List Value → Syntax
syntax_by f x vs =
    syntax f (map (λ s. completer_of s.0 x (at vs s.1)) (row_of f).sets)
    (map (λ k. operand_of k.0 x (at vs k.1)) (operands (row_of f).items))

-- A frame is written by its parts: inputs, of which there are none, locals, outputs and rotating registers.
abbrev pub frame_values : (ℕ → Value) → List Value
frame_values x =
    v.Absent ∷ x 1 ∷ v.Wide 0 ∷ v.Wide (small_of (x 3)) ∷ v.Wide (small_of (x 2) - small_of (x 3)) ∷ v.Wide
    (8 * small_of (x 4)) ∷ v.Absent ∷ []

-- The values as they are written.
abbrev pub written : Opcode → List Value → List Value
written o.Alloc vs = frame_values (at vs)
written x vs = vs

-- How the instruction is printed; a target is a name.
abbrev pub syntax_of : Op → Syntax
syntax_of x = syntax_by (form_of (opcode_of x) (at (operands_of 0 x))) (opcode_of x) (written (opcode_of x) (operands_of 0 x))
