-- An operand of a kind, printed from a value that its coding takes, is one that the kind prints, and says the value again.
use Rattle.std.proofs.Common.{◌≡◌, refl, ap, ℕ, suc, ◌-◌, ◌%◌, ◌^◌, ◌<◌, ◌≤◌, ◌==◌, ℤ, pos, negsuc, unsigned_abs, Bool, true, false, ltb, lit<, arith}
use Rattle.std.proofs.lemmas.Bool.{le-leb, eqb-true}
use Rattle.std.proofs.Math.Nat.{mod-eq_of_lt}
use Rattle.ia_insn.specs.Signed.{twos, FitsSigned}
use Rattle.insn_rows.specs.declared.opcode.Opcode.{Opcode}
use Rattle.insn_rows.specs.declared.row.Coding.{Coding}
use Rattle.insn_rows.specs.declared.row.Coding.TheVariants as c
use Rattle.insn_rows.specs.declared.value.Value.{Value}
use Rattle.insn_rows.specs.declared.value.Value.TheVariants as v
use Rattle.insn_rows.specs.Codings.{Takes}
use Rattle.insn_rows.specs.WellMade.{is_of_kind}
use Rattle.asm_lexemes.specs.declared.tokens.Token.{Token}
use Rattle.asm_forms.specs.declared.items.Kind.{Kind}
use Rattle.asm_forms.specs.declared.items.Kind.TheVariants as k
use Rattle.asm_forms.specs.declared.items.NumberField.{NumberField}
use Rattle.asm_forms.specs.declared.items.NumberField.TheVariants as f
use Rattle.asm_forms.specs.Items.{has_room, prints}
use Rattle.asm_instructions.specs.Operands.{signed, long, short, wrapped, even, number_value, operand_value}
use Rattle.asm_canonical.specs.Canonical.{negative, number, value_token, operand_of}
use Rattle.asm_canonical.proofs.FieldRanges.{magnitude_within, is_below, is_short, has_imm8, has_imm9, has_imm14, has_imm22, has_tag, has_rotating_mask, has_increment, increment_within}

-- A value that the coding takes is of its kind.
pub is_shaped : (coding : Coding) (width : ℕ) (value : Value) → Takes coding width value → is_of_kind coding value ≡ true
is_shaped c.Absent width v.Absent t = refl
is_shaped c.NoPredicate width (v.Pr n) t = refl
is_shaped c.Gr width (v.Gr n) t = refl
is_shaped c.LowGr width (v.Gr n) t = refl
is_shaped c.Target width (v.Gr n) t = refl
is_shaped c.Pr width (v.Pr n) t = refl
is_shaped c.Br width (v.Br n) t = refl
is_shaped c.Flag width (v.Flag b) t = refl
is_shaped c.Small width (v.Small n) t = refl
is_shaped (c.UpTo most) width (v.Small n) t = refl
is_shaped c.LoadHint width (v.Small n) t = refl
is_shaped c.StoreHint width (v.Small n) t = refl
is_shaped c.LessOne width (v.Small n) t = refl
is_shaped c.From63 width (v.Small n) t = refl
is_shaped (c.Size least most) width (v.Small n) t = refl
is_shaped c.Increment width (v.Short z) t = refl
is_shaped c.Wide width (v.Wide n) t = refl
is_shaped c.PredicateMask width (v.Mask n) t = refl
is_shaped c.Signed width (v.Signed z) t = refl
is_shaped c.RotatingMask width (v.Signed z) t = refl
is_shaped c.Short width (v.Short z) t = refl
is_shaped c.Displacement width (v.Displacement z) t = refl
is_shaped coding width value t = absurd t

-- A value as it is read: a target is put in later.
abbrev pub resting : Value → Value
resting (v.Displacement z) = v.Displacement (pos 0)
resting value = value

-- The kind prints the value's token, and reads it as the value.
pub record IsBack (kind : Kind) (token : Token) (value : Value) : Type 0 where
  pub printed : prints kind token ≡ true
  pub read : operand_value kind token ≡ resting value

-- The coding, with this many bits, has numbers of the field.
abbrev pub is_field : NumberField → Coding → ℕ → Bool
is_field f.Imm8 c.Signed width = width == 8
is_field f.Imm9 c.Short width = width == 9
is_field f.Imm14 c.Signed width = width == 14
is_field f.Imm22 c.Signed width = width == 22
is_field f.Imm21 c.Wide width = width == 21
is_field f.Count c.LessOne width = width == 2
is_field f.Position c.Small width = width == 6
is_field f.Position c.From63 width = true
is_field f.Length c.LessOne width = width == 6
is_field f.Length16 c.LessOne width = width == 4
is_field f.ZeroOrMinusOne c.Flag width = true
is_field f.Tag c.Short width = width == 9
is_field f.Mask c.PredicateMask width = width == 16
is_field f.RotatingMask c.RotatingMask width = width == 28
is_field f.Increment c.Increment width = true
is_field _ _ width = false

-- A number is its sign and magnitude.
signed_back : (z : ℤ) → signed (negative z) (unsigned_abs z) ≡ z
signed_back (pos n) = refl
signed_back (negsuc n) = refl

-- A signed number of so few bits comes back, of 64 bits and of 16.
long_back : (width : ℕ) (z : ℤ) → FitsSigned width z → 2 ^ (width - 1) < 2 ^ 63 → long (negative z) (unsigned_abs z) ≡ z
long_back width z h l = rw (is_short width (2 ^ 63) z h l, signed_back z) refl

short_back : (z : ℤ) (most : ℕ) → unsigned_abs z ≤ most → most < 2 ^ 15 → short (negative z) (unsigned_abs z) ≡ z
short_back z most h l = rw (is_below (unsigned_abs z) most (2 ^ 15) h l, signed_back z) refl

-- A mask without its lowest bit comes back.
mask_back : (m : ℕ) → m < 131072 → m % 2 ≡ 0 → even (wrapped 131072 false m) ≡ m
mask_back m l e =
    let s : m % 131072 ≡ m = mod-eq_of_lt l in
    rw (s, e) (omega arith)

long_is : (field : NumberField) (width : ℕ) (z : ℤ) → FitsSigned width z → 2 ^ (width - 1) < 2 ^ 63
    → has_room field (negative z) (unsigned_abs z) ≡ true → number_value field (negative z) (unsigned_abs z)
    ≡ v.Signed (long (negative z) (unsigned_abs z))
    → IsBack (k.Number field) (number z) (v.Signed z)
long_is field width z h l room e = record { printed = room; read = rw (e, long_back width z h l) refl }

short_is : (field : NumberField) (most : ℕ) (z : ℤ) → unsigned_abs z ≤ most → most < 2 ^ 15
    → has_room field (negative z) (unsigned_abs z) ≡ true → number_value field (negative z) (unsigned_abs z)
    ≡ v.Short (short (negative z) (unsigned_abs z))
    → IsBack (k.Number field) (number z) (v.Short z)
short_is field most z h l room e = record { printed = room; read = rw (e, short_back z most h l) refl }

small_is : (n : ℕ) → n < 256 → ltb n 256 ≡ true
small_is n h = le-leb (suc n) 256 h

-- A number of a field.
number_back : (field : NumberField) (coding : Coding) (width : ℕ) (value : Value) → is_field field coding width ≡ true
    → is_of_kind coding value ≡ true → Takes coding width value → IsBack (k.Number field) (value_token value) value
number_back f.Imm8 c.Signed width (v.Signed z) h is t =
    let e = eqb-true width 8 h in let s : FitsSigned 8 z = rw e at t in long_is f.Imm8 8 z s (lit< tt) (has_imm8 z s) refl
number_back f.Imm14 c.Signed width (v.Signed z) h is t =
    let e = eqb-true width 14 h in let s : FitsSigned 14 z = rw e at t in long_is f.Imm14 14 z s (lit< tt) (has_imm14 z s) refl
number_back f.Imm22 c.Signed width (v.Signed z) h is t =
    let e = eqb-true width 22 h in let s : FitsSigned 22 z = rw e at t in long_is f.Imm22 22 z s (lit< tt) (has_imm22 z s) refl
number_back f.RotatingMask c.RotatingMask width (v.Signed z) h is t =
    let e =
    eqb-true width 28 h in let s : FitsSigned 44 z × (twos 44 z % 65536 ≡ 0) =
    rw e at t in long_is f.RotatingMask 44 z s.0 (lit< tt) (has_rotating_mask z s.0 (omega (arith, s.1))) refl
number_back f.Imm9 c.Short width (v.Short z) h is t =
    let e = eqb-true width 9 h in let s : FitsSigned 9 z = rw e at t in
    short_is f.Imm9 256 z (magnitude_within 9 z s) (lit< tt) (has_imm9 z s) refl
number_back f.Tag c.Short width (v.Short z) h is t =
    let e = eqb-true width 9 h in let s : FitsSigned 9 z = rw e at t in
    short_is f.Tag 256 z (magnitude_within 9 z s) (lit< tt) (has_tag z s) refl
number_back f.Increment c.Increment width (v.Short z) h is t =
    short_is f.Increment 16 z (increment_within z t) (lit< tt) (has_increment z t) refl
number_back f.Imm21 c.Wide width (v.Wide n) h is t =
    let e = eqb-true width 21 h in let s : n < 2 ^ 21 = rw e at t in record { printed = le-leb n 2097151 (omega (arith, s)); read = refl }
number_back f.Count c.LessOne width (v.Small n) h is t =
    let e =
    eqb-true width 2 h in let s : n ≤ 4 = rw e at t.1 in record {
      printed = rw (le-leb n 4 s, le-leb 1 n t.0) refl;
      read = rw (small_is n (omega (arith, s))) refl;
    }
number_back f.Length c.LessOne width (v.Small n) h is t =
    let e =
    eqb-true width 6 h in let s : n ≤ 64 = rw e at t.1 in record {
      printed = rw (le-leb n 64 s, le-leb 1 n t.0) refl;
      read = rw (small_is n (omega (arith, s))) refl;
    }
number_back f.Length16 c.LessOne width (v.Small n) h is t =
    let e =
    eqb-true width 4 h in let s : n ≤ 16 = rw e at t.1 in record {
      printed = rw (le-leb n 16 s, le-leb 1 n t.0) refl;
      read = rw (small_is n (omega (arith, s))) refl;
    }
number_back f.Position c.Small width (v.Small n) h is t =
    let e =
    eqb-true width 6 h in let s : n < 64 = rw e at t in record {
      printed = le-leb n 63 (omega (arith, s));
      read = rw (small_is n (omega (arith, s))) refl;
    }
number_back f.Position c.From63 width (v.Small n) h is t =
    record { printed = le-leb n 63 t; read = rw (small_is n (omega (arith, t))) refl }
number_back f.ZeroOrMinusOne c.Flag width (v.Flag true) h is t = record { printed = refl; read = refl }
number_back f.ZeroOrMinusOne c.Flag width (v.Flag false) h is t = record { printed = refl; read = refl }
number_back f.Mask c.PredicateMask width (v.Mask n) h is t =
    let e =
    eqb-true width 16 h in let s : n < 131072 = rw e at t.0 in record {
      printed = le-leb n 131071 (omega (arith, s));
      read = ap v.Mask (mask_back n s t.1);
    }
number_back field coding width value h is t = cc

-- The coding, with this many bits, has operands of the kind.
abbrev pub is_kind : Kind → Coding → ℕ → Bool
is_kind k.Gr c.Gr width = true
is_kind k.Gr c.LowGr width = true
is_kind k.Gr c.Target width = true
is_kind k.Pr c.Pr width = true
is_kind k.Br c.Br width = true
is_kind k.Label c.Displacement width = true
is_kind (k.Number field) coding width = is_field field coding width
is_kind _ _ width = false

pub operand_back : (kind : Kind) (x : Opcode) (coding : Coding) (width : ℕ) (value : Value) → is_kind kind coding width ≡ true
    → is_of_kind coding value ≡ true → Takes coding width value → IsBack kind (operand_of kind x value) value
operand_back k.Gr x c.Gr width (v.Gr n) h is t = record { printed = refl; read = refl }
operand_back k.Gr x c.LowGr width (v.Gr n) h is t = record { printed = refl; read = refl }
operand_back k.Gr x c.Target width (v.Gr n) h is t = record { printed = refl; read = refl }
operand_back k.Pr x c.Pr width (v.Pr n) h is t = record { printed = refl; read = refl }
operand_back k.Br x c.Br width (v.Br n) h is t = record { printed = refl; read = refl }
operand_back k.Label x c.Displacement width (v.Displacement z) h is t = record { printed = refl; read = refl }
operand_back (k.Number field) x coding width value h is t = number_back field coding width value h is t
operand_back kind x coding width value h is t = cc
