-- An instruction is given back by its opcode and its values.
use Rattle.std.proofs.Common.{◌≡◌, ℕ, List, [], ◌∷◌, true, ◌∙◌, refl, arith}
use Rattle.bundle_bits.proofs.Words.{both-left, both-right}
use Rattle.ia_insn.specs.declared.insn.Op.{Op}
use Rattle.ia_insn.specs.declared.insn.Op.TheVariants as op
use Rattle.ia_insn.specs.declared.choices.Update.TheVariants as updates
use Rattle.insn_rows.specs.declared.opcode.UpdateKind.TheVariants as kinds
use Rattle.insn_rows.specs.declared.opcode.Opcode.{Opcode}
use Rattle.insn_rows.specs.declared.opcode.Opcode.TheVariants as o
use Rattle.insn_rows.specs.declared.row.Coding.{Coding}
use Rattle.insn_rows.specs.declared.row.Coding.TheVariants as c
use Rattle.insn_rows.specs.declared.row.Operand.{Operand}
use Rattle.insn_rows.specs.declared.value.Value.{Value}
use Rattle.insn_rows.specs.declared.value.Value.TheVariants as v
use Rattle.insn_rows.specs.Values.{at}
use Rattle.insn_rows.specs.Codings.{Takes}
use Rattle.insn_rows.specs.Rows.{operand_width, AllTake}
use Rattle.insn_rows.specs.WellMade.{is_of_kind, are_of_kind}
use Rattle.insn_rows.specs.Arms.{opcode_of, operands_of, values_of}
use Rattle.insn_rows.specs.ArmsBack.{insn_of, op_of, gr_of, pr_of, br_of, flag_of, small_of, wide_of, mask_of, signed_value, short_of, displacement_of}

-- An arm and the arm back.
pub arms : (qp : ℕ) (x : Op) → insn_of (opcode_of x) (at (operands_of qp x)) ≡ record { qp = qp; op = x }
arms qp (op.Load size kind hint r1 r3 updates.None) = refl
arms qp (op.Load size kind hint r1 r3 u) = refl
arms qp (op.Store size kind hint r3 r2 updates.None) = refl
arms qp (op.Store size kind hint r3 r2 u) = refl
arms qp x = refl

pub opcode_back : (k : Opcode) (x : ℕ → Value) → opcode_of (op_of k x) ≡ k
opcode_back (o.Load kind kinds.None) x = refl
opcode_back (o.Load kind u) x = refl
opcode_back (o.Store kind kinds.None) x = refl
opcode_back (o.Store kind u) x = refl
opcode_back k x = refl

-- A value of the kind of another one.
abbrev pub of_kind : Value → Value → Value
of_kind v.Absent x = v.Absent
of_kind (v.Gr n) x = v.Gr (gr_of x)
of_kind (v.Pr n) x = v.Pr (pr_of x)
of_kind (v.Br n) x = v.Br (br_of x)
of_kind (v.Flag b) x = v.Flag (flag_of x)
of_kind (v.Small n) x = v.Small (small_of x)
of_kind (v.Wide n) x = v.Wide (wide_of x)
of_kind (v.Mask n) x = v.Mask (mask_of x)
of_kind (v.Signed z) x = v.Signed (signed_value x)
of_kind (v.Short z) x = v.Short (short_of x)
of_kind (v.Displacement z) x = v.Displacement (displacement_of x)

abbrev pub of_kinds : List Value → List Value → List Value
of_kinds (s ∷ ss) (x ∷ xs) = of_kind s x ∷ of_kinds ss xs
of_kinds ss xs = []

-- An opcode's values are of the same kinds, whatever they are.
shaped : (k : Opcode) (a b d e f g h : Value) → values_of (insn_of k (at (a ∷ b ∷ d ∷ e ∷ f ∷ g ∷ h ∷ [])))
    ≡ of_kinds (values_of (insn_of k (λ n. v.Absent))) (a ∷ b ∷ d ∷ e ∷ f ∷ g ∷ h ∷ [])
shaped (o.Load kind kinds.None) a b d e f g h = refl
shaped (o.Load kind u) a b d e f g h = refl
shaped (o.Store kind kinds.None) a b d e f g h = refl
shaped (o.Store kind u) a b d e f g h = refl
shaped k a b d e f g h = refl

-- An operand's value is of the kind of its coding.
kept : (coding : Coding) (w : ℕ) (s x : Value) → is_of_kind coding s ≡ true → Takes coding w x → of_kind s x ≡ x
kept c.Absent w v.Absent v.Absent h t = refl
kept c.NoPredicate w (v.Pr m) (v.Pr n) h t = refl
kept c.Gr w (v.Gr m) (v.Gr n) h t = refl
kept c.Target w (v.Gr m) (v.Gr n) h t = refl
kept c.Pr w (v.Pr m) (v.Pr n) h t = refl
kept c.Br w (v.Br m) (v.Br n) h t = refl
kept c.Flag w (v.Flag m) (v.Flag n) h t = refl
kept c.Small w (v.Small m) (v.Small n) h t = refl
kept (c.UpTo most) w (v.Small m) (v.Small n) h t = refl
kept c.LoadHint w (v.Small m) (v.Small n) h t = refl
kept c.StoreHint w (v.Small m) (v.Small n) h t = refl
kept c.LessOne w (v.Small m) (v.Small n) h t = refl
kept c.From63 w (v.Small m) (v.Small n) h t = refl
kept (c.Size least most) w (v.Small m) (v.Small n) h t = refl
kept c.Increment w (v.Short m) (v.Short n) h t = refl
kept c.Wide w (v.Wide m) (v.Wide n) h t = refl
kept c.PredicateMask w (v.Mask m) (v.Mask n) h t = refl
kept c.Signed w (v.Signed m) (v.Signed n) h t = refl
kept c.RotatingMask w (v.Signed m) (v.Signed n) h t = refl
kept c.Short w (v.Short m) (v.Short n) h t = refl
kept c.Displacement w (v.Displacement m) (v.Displacement n) h t = refl
kept coding w s x h t = grind arith

all_kept : (os : List Operand) (ss xs : List Value) → are_of_kind os ss ≡ true → AllTake os xs → of_kinds ss xs ≡ xs
all_kept [] [] [] h t = refl
all_kept (o ∷ os) (s ∷ ss) (x ∷ xs) h t =
    λ i. kept o.coding (operand_width o) s x (both-left _ _ h) t.0 i ∷ all_kept os ss xs (both-right _ _ h) t.1 i
all_kept os ss xs h t = grind arith

-- The instruction that a row makes of values has these values.
pub values_of_insn : (k : Opcode) (os : List Operand) (a b d e f g h : Value)
    → are_of_kind os (values_of (insn_of k (λ n. v.Absent))) ≡ true → AllTake os (a ∷ b ∷ d ∷ e ∷ f ∷ g ∷ h ∷ [])
    → values_of (insn_of k (at (a ∷ b ∷ d ∷ e ∷ f ∷ g ∷ h ∷ []))) ≡ a ∷ b ∷ d ∷ e ∷ f ∷ g ∷ h ∷ []
values_of_insn k os a b d e f g h kind t =
    shaped k a b d e f g h ∙ all_kept os (values_of (insn_of k (λ n. v.Absent))) (a ∷ b ∷ d ∷ e ∷ f ∷ g ∷ h ∷ []) kind t
