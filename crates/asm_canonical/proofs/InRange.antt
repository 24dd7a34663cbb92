-- The registers and numbers of a listed instruction are in their ranges, and so are those that it is printed with.
use Rattle.std.proofs.Common.{◌≡◌, subst, inl, inr, ℕ, zero, suc, ◌+◌, ◌-◌, ◌^◌, ◌<◌, ◌≤◌, ℤ, unsigned_abs, true, false, List, [], ◌∷◌, map, get_or, lit<, arith}
use Rattle.std.specs.Prelude.{nat_le}
use Rattle.std.specs.List.{AllByRecursion, list_all}
use Rattle.std.proofs.Math.Nat.{pow-le-pow_right}
use Rattle.std.proofs.lemmas.Bool.{eqb-true, leb-true}
use Rattle.ia_program.proofs.Tests.{left as both-left, right as both-right}
use Rattle.asm_lexemes.specs.declared.tokens.Token.{Token}
use Rattle.asm_lexemes.specs.declared.tokens.Token.TheVariants as t
use Rattle.asm_forms.specs.declared.items.FormItem.{FormItem}
use Rattle.asm_forms.specs.declared.items.Kind.{Kind}
use Rattle.asm_forms.specs.declared.items.Kind.TheVariants as k
use Rattle.asm_forms.specs.Items.{operands as form_operands}
use Rattle.ia_insn.specs.Signed.{FitsSigned}
use Rattle.ia_insn.specs.declared.insn.Insn.{Insn}
use Rattle.insn_rows.specs.declared.opcode.Opcode.{Opcode}
use Rattle.insn_rows.specs.declared.opcode.Opcode.TheVariants as o
use Rattle.insn_rows.specs.declared.row.Coding.{Coding}
use Rattle.insn_rows.specs.declared.row.Coding.TheVariants as c
use Rattle.insn_rows.specs.declared.row.Operand.{Operand}
use Rattle.insn_rows.specs.declared.row.Row.{Row}
use Rattle.insn_rows.specs.declared.value.Value.{Value}
use Rattle.insn_rows.specs.declared.value.Value.TheVariants as v
use Rattle.insn_rows.specs.Arms.{values_of}
use Rattle.insn_rows.specs.ArmsBack.{small_of}
use Rattle.insn_rows.specs.Codes.{IsListedBy}
use Rattle.insn_rows.specs.Codings.{Takes}
use Rattle.insn_rows.specs.Rows.{operand_width, operands, AllTake}
use Rattle.insn_rows.specs.Values.{at}
use Rattle.insn_rows.specs.WellMade.{suits, is_sized, is_table}
use Rattle.insn_rows.proofs.RowBack.{no_row, table_made}
use Rattle.insn_rows.proofs.RowWords.{well_made}
use Rattle.asm_canonical.specs.Canonical.{value_token, operand_of, written}
use Rattle.asm_canonical.proofs.FieldRanges.{magnitude_within, increment_within}

-- A value in the range of its kind.
abbrev pub IsInRange : Value → Type 0
IsInRange (v.Gr n) = n < 128
IsInRange (v.Pr n) = n < 64
IsInRange (v.Br n) = n < 8
IsInRange (v.Small n) = n < 256
IsInRange (v.Wide n) = n < 2 ^ 64
IsInRange (v.Mask n) = n < 2 ^ 64
IsInRange (v.Signed z) = unsigned_abs z < 2 ^ 64
IsInRange (v.Short z) = unsigned_abs z < 2 ^ 64
IsInRange value = Unit {0}

-- A token whose register or number is in its range.
abbrev pub IsTokenInRange : Token → Type 0
IsTokenInRange (t.Gr n) = n < 128
IsTokenInRange (t.Pr n) = n < 64
IsTokenInRange (t.Br n) = n < 8
IsTokenInRange (t.Number s m) = m < 2 ^ 64
IsTokenInRange token = Unit {0}

-- What an operand takes is in its range.
grown : (width most : ℕ) → width ≤ most → 2 ^ width ≤ 2 ^ most
grown width most h = pow-le-pow_right (lit< tt) h

below_known : (n width w : ℕ) → (width ≡ w) → n < 2 ^ width → n < 2 ^ w
below_known n width w e h = subst (λ x. n < 2 ^ x) e h

signed_in_range : (width : ℕ) (z : ℤ) → width ≤ 60 → FitsSigned width z → unsigned_abs z < 2 ^ 64
signed_in_range width z small h =
    let g : 2 ^ (width - 1) ≤ 2 ^ 60 = grown (width - 1) 60 (omega (arith, small)) in omega (arith, g, magnitude_within width z h)

pub taken_in_range : (coding : Coding) (width : ℕ) (value : Value) → Takes coding width value → suits coding width ≡ true → IsInRange value
taken_in_range c.Absent width v.Absent h s = tt
taken_in_range c.NoPredicate width (v.Pr n) h s = omega (arith, h)
taken_in_range c.Gr width (v.Gr n) h s = below_known n width 7 (eqb-true _ _ s) h
taken_in_range c.LowGr width (v.Gr n) h s = omega (arith, h)
taken_in_range c.Target width (v.Gr n) h s = below_known n width 7 (eqb-true _ _ s) h.1
taken_in_range c.Pr width (v.Pr n) h s = below_known n width 6 (eqb-true _ _ s) h
taken_in_range c.Br width (v.Br n) h s = below_known n width 3 (eqb-true _ _ s) h
taken_in_range c.Flag width (v.Flag b) h s = tt
taken_in_range c.Small width (v.Small n) h s = let g : 2 ^ width ≤ 2 ^ 8 = grown width 8 (leb-true _ _ s) in omega (arith, g, h)
taken_in_range (c.UpTo most) width (v.Small n) h s =
    let g : 2 ^ width ≤ 2 ^ 8 = grown width 8 (leb-true _ _ (both-left _ _ s)) in
    let m : suc most ≤ 2 ^ width = leb-true (suc most) (2 ^ width) (both-right (nat_le width 8) _ s) in
    omega (arith, g, m, h)
taken_in_range c.LoadHint width (v.Small n) h s = omega (arith, h.0)
taken_in_range c.StoreHint width (v.Small n) (inl e) s = omega (arith, e)
taken_in_range c.StoreHint width (v.Small n) (inr e) s = omega (arith, e)
taken_in_range c.LessOne width (v.Small n) h s = let g : 2 ^ width ≤ 2 ^ 7 = grown width 7 (leb-true _ _ s) in omega (arith, g, h.1)
taken_in_range c.From63 width (v.Small n) h s = omega (arith, h)
taken_in_range (c.Size least most) width (v.Small n) (inl e, l, m) s = omega (arith, e)
taken_in_range (c.Size least most) width (v.Small n) (inr (inl e), l, m) s = omega (arith, e)
taken_in_range (c.Size least most) width (v.Small n) (inr (inr (inl e)), l, m) s = omega (arith, e)
taken_in_range (c.Size least most) width (v.Small n) (inr (inr (inr e)), l, m) s = omega (arith, e)
taken_in_range c.Increment width (v.Short z) h s = omega (arith, increment_within z h)
taken_in_range c.Wide width (v.Wide n) h s = let g : 2 ^ width ≤ 2 ^ 41 = grown width 41 (leb-true _ _ s) in omega (arith, g, h)
taken_in_range c.PredicateMask width (v.Mask n) h s =
    let w : width ≤ 31 = leb-true _ _ s in
    let g : 2 ^ (width + 1) ≤ 2 ^ 32 = grown (width + 1) 32 (omega (arith, w)) in
    omega (arith, g, h.0)
taken_in_range c.Signed width (v.Signed z) h s =
    let w : width ≤ 41 = leb-true width 41 (both-right (nat_le 1 width) _ s) in signed_in_range width z (omega (arith, w)) h
taken_in_range c.RotatingMask width (v.Signed z) h s =
    let w : width ≤ 41 = leb-true width 41 (both-right (nat_le 1 width) _ s) in signed_in_range (width + 16) z (omega (arith, w)) h.0
taken_in_range c.Short width (v.Short z) h s =
    let w : width ≤ 16 = leb-true width 16 (both-right (nat_le 1 width) _ s) in signed_in_range width z (omega (arith, w)) h
taken_in_range c.Displacement width (v.Displacement z) h s = tt
taken_in_range coding width value h s = absurd h

all_in_range : (os : List Operand) (xs : List Value) → AllTake os xs → list_all is_sized os ≡ true → AllByRecursion IsInRange xs
all_in_range [] [] h s = tt
all_in_range (o ∷ os) (x ∷ xs) h s =
    (taken_in_range o.coding (operand_width o) x h.0 (both-right _ _ (both-left _ _ s)), all_in_range os xs h.1 (both-right _ _ s))
all_in_range os xs h s = absurd h

-- The values of an instruction that a table lists are in their ranges.
pub listed_in_range : (rows : List Row) (i : Insn) → is_table rows ≡ true → IsListedBy rows i → AllByRecursion IsInRange (values_of i)
listed_in_range rows i h l =
    let r : Row = get_or rows l.1.row_index no_row in
    all_in_range (operands r) (values_of i) (l.1.row no_row).listed.takes
    (well_made r (table_made rows l.1.row_index no_row h l.1.inside)).sized

-- The values that an instruction is printed with are in their ranges.
value_at_in_range : (xs : List Value) (n : ℕ) → AllByRecursion IsInRange xs → IsInRange (at xs n)
value_at_in_range [] n h = tt
value_at_in_range (x ∷ xs) zero h = h.0
value_at_in_range (x ∷ xs) (suc n) h = value_at_in_range xs n h.1

small_in_range : (x : Value) → IsInRange x → small_of x < 256
small_in_range (v.Small n) h = h
small_in_range x h = lit< tt

written_in_range : (x : Opcode) (xs : List Value) → AllByRecursion IsInRange xs → AllByRecursion IsInRange (written x xs)
written_in_range o.Alloc xs h =
    let locals : small_of (at xs 3) < 256 = small_in_range _ (value_at_in_range xs 3 h) in
    let all : small_of (at xs 2) < 256 = small_in_range _ (value_at_in_range xs 2 h) in
    let eights : small_of (at xs 4) < 256 = small_in_range _ (value_at_in_range xs 4 h) in
    (tt, (value_at_in_range xs 1 h, (lit< tt, (omega (arith, locals), (omega (arith, all), (omega (arith, eights), (tt, tt)))))))
written_in_range x xs h = h

token_in_range : (x : Value) → IsInRange x → IsTokenInRange (value_token x)
token_in_range (v.Flag true) h = lit< tt
token_in_range (v.Flag false) h = lit< tt
token_in_range (v.Small n) h = omega (arith, h)
token_in_range (v.Gr n) h = h
token_in_range x h = h

operand_in_range : (kind : Kind) (x : Opcode) (value : Value) → IsInRange value → IsTokenInRange (operand_of kind x value)
operand_in_range k.Ar x value h = tt
operand_in_range k.Gr x value h = token_in_range value h
operand_in_range kind x value h = token_in_range value h

operands_in_range : (ks : List (Kind × ℕ)) (x : Opcode) (xs : List Value) → AllByRecursion IsInRange xs
    → AllByRecursion IsTokenInRange (map (λ k. operand_of k.0 x (at xs k.1)) ks)
operands_in_range [] x xs h = tt
operands_in_range (kind ∷ ks) x xs h =
    (operand_in_range kind.0 x (at xs kind.1) (value_at_in_range xs kind.1 h), operands_in_range ks x xs h)

pub printed_in_range : (is : List FormItem) (x : Opcode) (xs : List Value) → AllByRecursion IsInRange xs
    → AllByRecursion IsTokenInRange (map (λ k. operand_of k.0 x (at (written x xs) k.1)) (form_operands is))
printed_in_range is x xs h = operands_in_range (form_operands is) x (written x xs) (written_in_range x xs h)
