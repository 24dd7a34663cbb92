-- The word of a row says the row and the values of its operands.
use Rattle.std.proofs.Common.{◌≡◌, ℕ, zero, suc, ◌^◌, ◌<◌, List, [], ◌∷◌, ◌++◌, map, length, get_or, Bool, true, sym, ap, ◌∙◌, refl, arith, subst}
use Rattle.std.specs.Prelude.{bit_and}
use Rattle.std.specs.List.{list_all}
use Rattle.std.proofs.lemmas.Bool.{eqb-true, eq-eqb, ltb-true, not-true, eqb-false, and_from}
use Rattle.std.proofs.lemmas.Nat.{and_comm, and_assoc}
use Rattle.bundle_bits.specs.Words.{word_of}
use Rattle.bundle_bits.proofs.Words.{Reads, both-left, both-right}
use Rattle.insn_rows.specs.declared.bits.BitField.{BitField}
use Rattle.insn_rows.specs.declared.value.Value.{Value}
use Rattle.insn_rows.specs.declared.value.Value.TheVariants as v
use Rattle.insn_rows.specs.declared.row.Operand.{Operand}
use Rattle.insn_rows.specs.declared.row.Row.{Row}
use Rattle.insn_rows.specs.Scattered.{list_of, scattered}
use Rattle.insn_rows.specs.Reading.{gathered, value, read, matches}
use Rattle.insn_rows.specs.Codings.{code}
use Rattle.insn_rows.specs.Rows.{operand_width, operands, AllTake, parts, HasWord, row_word}
use Rattle.insn_rows.specs.WellMade.{are_apart, are_apart_fields, is_clear, fields, other_bits, are_left, is_sized, AreMade, are_of_kind, is_well_made, are_other_rows, are_all_other}
use Rattle.insn_rows.specs.Arms.{values_of}
use Rattle.insn_rows.specs.ArmsBack.{insn_of}
use Rattle.insn_rows.proofs.Spread.{field_of, reads_spread, spread-below}
use Rattle.insn_rows.proofs.Gathering.{gathered_back, gathered_below}
use Rattle.insn_rows.proofs.Cover.{own, cover, own_reads, own_append, scattered_gathered}
use Rattle.insn_rows.proofs.CodesBack.{code_fits, value_back, code_back}
use Rattle.insn_rows.proofs.Parts.{part, parts_fit, parts_fields, reads_split}

-- What being well made says.
pub record WellMade (r : Row) : Type 0 where
  pub below : r.fixed < 2 ^ 41
  pub apart : are_apart_fields (fields (operands r)) ≡ true
  pub clear : list_all (is_clear r.fixed) (fields (operands r)) ≡ true
  pub mask : r.format.mask ≡ other_bits (fields (operands r))
  pub left : are_left (fields (operands r)) ≡ true
  pub sized : list_all is_sized (operands r) ≡ true
  pub kind : are_of_kind (operands r) (values_of (insn_of r.opcode (λ n. v.Absent))) ≡ true

pub well_made : (r : Row) → is_well_made r ≡ true → WellMade r
unfolding is_well_made
well_made r h =
    let h7 = both-left _ _ h in
    let h6 = both-left _ _ h7 in
    let h5 = both-left _ _ h6 in
    let h4 = both-left _ _ h5 in
    let h3 = both-left _ _ h4 in
    let h2 = both-left _ _ h3 in
    record {
      below = ltb-true _ _ (both-left _ _ h2);
      apart = both-right _ _ h2;
      clear = both-right _ _ h3;
      mask = eqb-true _ _ (both-right _ _ h4);
      left = both-right _ _ h5;
      sized = both-right _ _ h6;
      kind = both-right _ _ h7;
    }

-- Each operand of a row that is well made has its codes, in fields that share no bit.
all_append : {A : Type 0} (p : A → Bool) (xs ys : List A) → list_all p (xs ++ ys) ≡ true → list_all p xs ≡ true
all_append p [] ys h = refl
all_append p (x ∷ xs) ys h = and_from _ _ (both-left _ _ h) (all_append p xs ys (both-right _ _ h))

first_apart : (fs gs : List BitField) → are_apart_fields (fs ++ gs) ≡ true → are_apart_fields fs ≡ true
first_apart [] gs h = refl
first_apart (f ∷ fs) gs h =
    let h1 = both-left _ _ h in
    and_from _ _ (and_from _ _ (both-left _ _ h1) (all_append (are_apart f) fs gs (both-right _ _ h1)))
    (first_apart fs gs (both-right _ _ h))

others_apart : (fs gs : List BitField) → are_apart_fields (fs ++ gs) ≡ true → are_apart_fields gs ≡ true
others_apart [] gs h = h
others_apart (f ∷ fs) gs h = others_apart fs gs (both-right _ _ h)

made : (os : List Operand) → list_all is_sized os ≡ true → are_apart_fields (fields os) ≡ true → AreMade os
made [] s a = tt
made (o ∷ os) s a =
    (both-left _ _ s, first_apart (list_of o.bits) (fields os) a, made os (both-right _ _ s) (others_apart (list_of o.bits) (fields os) a))

pub are_made : (r : Row) → is_well_made r ≡ true → AreMade (operands r)
are_made r h = let m = well_made r h in made (operands r) m.sized m.apart

pub fixed_below : (r : Row) → is_well_made r ≡ true → r.fixed < 2 ^ 41
fixed_below r h = (well_made r h).below

-- Of the fields of values that the operands may have.
placed : (P : List BitField → Type 0) (os : List Operand) (xs : List Value) → AllTake os xs → P (fields os) → P (map field_of (parts os xs))
placed P os xs t h = subst P (sym (parts_fields os xs t)) h

-- A word of a row has 41 bits.
pub word_below : (r : Row) (xs : List Value) → is_well_made r ≡ true → HasWord r xs → row_word r xs < 2 ^ 41
word_below r xs h listed =
    let m = well_made r h in
    let t = listed.takes in
    spread-below r.fixed (parts (operands r) xs) m.below (parts_fit (operands r) xs)
    (placed (λ fs. are_apart_fields fs ≡ true) (operands r) xs t m.apart)
    (placed (λ fs. list_all (is_clear r.fixed) fs ≡ true) (operands r) xs t m.clear)

-- A word of a row has the code of each value in its operand's fields.
word_reads : (r : Row) (xs : List Value) → is_well_made r ≡ true → HasWord r xs → Reads (row_word r xs) (parts (operands r) xs)
word_reads r xs h listed =
    let m = well_made r h in
    let t = listed.takes in
    reads_spread r.fixed (parts (operands r) xs) (parts_fit (operands r) xs)
    (placed (λ fs. are_apart_fields fs ≡ true) (operands r) xs t m.apart)
    (placed (λ fs. list_all (is_clear r.fixed) fs ≡ true) (operands r) xs t m.clear)

-- A word of a row has the bits of the row outside the operands' fields.
pub word_matches : (r : Row) (xs : List Value) → is_well_made r ≡ true → HasWord r xs → matches r (row_word r xs) ≡ true
word_matches r xs h listed =
    let m = well_made r h in
    let below = word_below r xs h listed in
    let own-parts : own (fields (operands r)) (row_word r xs) ≡ parts (operands r) xs =
    ap (λ fs. own fs (row_word r xs)) (sym (parts_fields (operands r) xs listed.takes))
    ∙ own_reads (parts (operands r) xs) (row_word r xs) (word_reads r xs h listed) in
    let c = cover (fields (operands r)) (row_word r xs) (omega (arith, below)) m.left in
    let sum : word_of (own (fields (operands r)) (row_word r xs)) ≡ word_of (parts (operands r) xs) = ap word_of own-parts in
    let e : bit_and (row_word r xs) (other_bits (fields (operands r))) ≡ r.fixed = omega (arith, c, sum) in
    eq-eqb _ _ (ap (bit_and (row_word r xs)) m.mask ∙ e)

-- The values of a word of a row are read back.
read_parts : (os : List Operand) (xs : List Value) (w : ℕ) → AllTake os xs → AreMade os → Reads w (parts os xs) → read os w ≡ xs
read_parts [] [] w t m r = refl
read_parts (o ∷ os) (x ∷ xs) w t m r =
    let width = operand_width o in
    let sized = both-right _ _ m.0 in
    let s = reads_split w (part o x) (parts os xs) r in
    let head : value o.coding width (gathered (list_of o.bits) w) ≡ x =
    ap (value o.coding width) (gathered_back (list_of o.bits) (code o.coding width x) w (code_fits o.coding width x t.0 sized) s.0)
    ∙ value_back o.coding width x t.0 sized in
    λ i. head i ∷ read_parts os xs w t.1 m.2 s.1 i
read_parts [] (x ∷ xs) w t m r = absurd t
read_parts (o ∷ os) [] w t m r = absurd t

pub read_word : (r : Row) (xs : List Value) → is_well_made r ≡ true → HasWord r xs → read (operands r) (row_word r xs) ≡ xs
read_word r xs h listed = read_parts (operands r) xs (row_word r xs) listed.takes (are_made r h) (word_reads r xs h listed)

-- What is read of a number that has the bits of the row has this number as its word.
parts_read : (os : List Operand) (w : ℕ) → AreMade os → AllTake os (read os w) → parts os (read os w) ≡ own (fields os) w
parts_read [] w m t = refl
parts_read (o ∷ os) w m t =
    let fs = list_of o.bits in
    let width = operand_width o in
    let code-same : code o.coding width (value o.coding width (gathered fs w)) ≡ gathered fs w =
    code_back o.coding width (gathered fs w) t.0 (both-right _ _ m.0) (gathered_below fs w) in
    let here : scattered fs (code o.coding width (value o.coding width (gathered fs w))) ≡ own fs w =
    ap (scattered fs) code-same ∙ scattered_gathered fs w in
    ap (λ ps. ps ++ parts os (read os w)) here ∙ ap (λ ps. own fs w ++ ps) (parts_read os w m.2 t.1) ∙ sym (own_append fs (fields os) w)

pub word_of_read : (r : Row) (w : ℕ) → w < 18446744073709551616 → is_well_made r ≡ true → matches r w ≡ true
    → HasWord r (read (operands r) w) → w ≡ row_word r (read (operands r) w)
word_of_read r w fits h bits listed =
    let m = well_made r h in
    let c = cover (fields (operands r)) w fits m.left in
    let fixed : bit_and w (other_bits (fields (operands r))) ≡ r.fixed = ap (bit_and w) (sym m.mask) ∙ eqb-true _ _ bits in
    let sum : word_of (parts (operands r) (read (operands r) w)) ≡ word_of (own (fields (operands r)) w) =
    ap word_of (parts_read (operands r) w (are_made r h) listed.takes) in
    omega (arith, c, fixed, sum)

-- No number has the bits of two rows that are other.
meet : (r s : Row) (w : ℕ) → matches r w ≡ true → matches s w ≡ true → are_other_rows r s ≡ true → ⊥
meet r s w a b h =
    let e : bit_and r.fixed s.format.mask ≡ bit_and s.fixed r.format.mask =
    ap (λ n. bit_and n s.format.mask) (sym (eqb-true _ _ a)) ∙ and_assoc s.format.mask w r.format.mask
    ∙ ap (bit_and w) (and_comm r.format.mask s.format.mask) ∙ sym (and_assoc r.format.mask w s.format.mask)
    ∙ ap (λ n. bit_and n r.format.mask) (eqb-true _ _ b) in
    eqb-false _ _ (not-true _ h) e

pub all_get : {A : Type 0} (p : A → Bool) (xs : List A) (n : ℕ) (d : A) → n < length xs → list_all p xs ≡ true → p (get_or xs n d) ≡ true
all_get p [] n d l h = absurd (omega (arith, l))
all_get p (x ∷ xs) zero d l h = both-left _ _ h
all_get p (x ∷ xs) (suc n) d l h = all_get p xs n d (omega (arith, l)) (both-right _ _ h)

pub one_match : (rows : List Row) (m n : ℕ) (c d : Row) (w : ℕ) → m < length rows → n < length rows → are_all_other rows ≡ true
    → matches (get_or rows m c) w ≡ true → matches (get_or rows n d) w ≡ true → m ≡ n
one_match [] m n c d w lm ln h a b = absurd (omega (arith, lm))
one_match (r ∷ rs) zero zero c d w lm ln h a b = refl
one_match (r ∷ rs) zero (suc n) c d w lm ln h a b =
    absurd (meet r (get_or rs n d) w a b (all_get (are_other_rows r) rs n d (omega (arith, ln)) (both-left _ _ h)))
one_match (r ∷ rs) (suc m) zero c d w lm ln h a b =
    absurd (meet r (get_or rs m c) w b a (all_get (are_other_rows r) rs m c (omega (arith, lm)) (both-left _ _ h)))
one_match (r ∷ rs) (suc m) (suc n) c d w lm ln h a b =
    ap suc (one_match rs m n c d w (omega (arith, lm)) (omega (arith, ln)) (both-right _ _ h) a b)
