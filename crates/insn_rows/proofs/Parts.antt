-- The fields of the operands of a row.
use Rattle.std.proofs.Common.{◌≡◌, ℕ, ◌+◌, List, [], ◌∷◌, ◌++◌, length, map, slice_set, ap, ◌∙◌, refl, arith}
use Rattle.std.proofs.lemmas.List.{map-append}
use Rattle.bundle_bits.specs.Words.{Part, word_of, AllFit}
use Rattle.bundle_bits.proofs.Words.{Reads}
use Rattle.insn_rows.specs.declared.row.Operand.{Operand}
use Rattle.insn_rows.specs.declared.value.Value.{Value}
use Rattle.insn_rows.specs.Scattered.{list_of, scattered}
use Rattle.insn_rows.specs.Codings.{code}
use Rattle.insn_rows.specs.Rows.{operand_width, AllTake, parts}
use Rattle.insn_rows.specs.WellMade.{fields}
use Rattle.insn_rows.proofs.Spread.{field_of}
use Rattle.insn_rows.proofs.Gathering.{scattered_fit, scattered_fields}

pub word_append : (xs ys : List Part) → word_of (xs ++ ys) ≡ word_of xs + word_of ys
word_append [] ys = omega arith
word_append (x ∷ xs) ys = let r = word_append xs ys in omega arith

-- The fields of one operand.
abbrev pub part : Operand → Value → List Part
part o x = scattered (list_of o.bits) (code o.coding (operand_width o) x)

-- What seven operands come to.
pub seven_parts : (o1 o2 o3 o4 o5 o6 o7 : Operand) (x1 x2 x3 x4 x5 x6 x7 : Value)
    → word_of (part o1 x1) + (word_of (part o2 x2) + (word_of (part o3 x3)
    + (word_of (part o4 x4) + (word_of (part o5 x5) + (word_of (part o6 x6) + word_of (part o7 x7))))))
    ≡ word_of (parts (o1 ∷ o2 ∷ o3 ∷ o4 ∷ o5 ∷ o6 ∷ o7 ∷ []) (x1 ∷ x2 ∷ x3 ∷ x4 ∷ x5 ∷ x6 ∷ x7 ∷ []))
seven_parts o1 o2 o3 o4 o5 o6 o7 x1 x2 x3 x4 x5 x6 x7 =
    rw (
      word_append (part o1 x1),
      word_append (part o2 x2),
      word_append (part o3 x3),
      word_append (part o4 x4),
      word_append (part o5 x5),
      word_append (part o6 x6),
      word_append (part o7 x7),
    ) (omega arith)

all_fit_append : (xs ys : List Part) → AllFit xs → AllFit ys → AllFit (xs ++ ys)
all_fit_append [] ys a b = b
all_fit_append (x ∷ xs) ys a b = (a.0, all_fit_append xs ys a.1 b)

pub parts_fit : (os : List Operand) (xs : List Value) → AllFit (parts os xs)
parts_fit (o ∷ os) (x ∷ xs) =
    all_fit_append (part o x) (parts os xs) (scattered_fit (list_of o.bits) (code o.coding (operand_width o) x)) (parts_fit os xs)
parts_fit [] xs = tt
parts_fit (o ∷ os) [] = tt

-- Values that the operands may have are as many as they.
pub parts_fields : (os : List Operand) (xs : List Value) → AllTake os xs → map field_of (parts os xs) ≡ fields os
parts_fields [] [] t = refl
parts_fields (o ∷ os) (x ∷ xs) t =
    map-append field_of (part o x) (parts os xs) ∙ ap (λ fs. fs ++ map field_of (parts os xs))
    (scattered_fields (list_of o.bits) (code o.coding (operand_width o) x))
    ∙ ap (λ gs. list_of o.bits ++ gs) (parts_fields os xs t.1)
parts_fields [] (x ∷ xs) t = absurd t
parts_fields (o ∷ os) [] t = absurd t

pub reads_split : (w : ℕ) (xs ys : List Part) → Reads w (xs ++ ys) → Reads w xs × Reads w ys
reads_split w [] ys r = (tt, r)
reads_split w (x ∷ xs) ys r = let s = reads_split w xs ys r.1 in ((r.0, s.0), s.1)

-- Seven values that are set one after the other.
pub seven_values : (xs : List Value) (x1 x2 x3 x4 x5 x6 x7 : Value) → length xs ≡ 7
    → slice_set (slice_set (slice_set (slice_set (slice_set (slice_set (slice_set xs 0 x1) 1 x2) 2 x3) 3 x4) 4 x5) 5 x6) 6 x7
    ≡ x1 ∷ x2 ∷ x3 ∷ x4 ∷ x5 ∷ x6 ∷ x7 ∷ []
seven_values (a ∷ b ∷ c ∷ d ∷ e ∷ f ∷ g ∷ []) x1 x2 x3 x4 x5 x6 x7 h = refl
seven_values xs x1 x2 x3 x4 x5 x6 x7 h = absurd (omega (arith, h))
