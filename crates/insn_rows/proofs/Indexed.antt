-- The row of a word stands where the index has the word's major opcode.
use Rattle.std.proofs.Common.{Bor, ◌≡◌, ℕ, zero, suc, ◌+◌, ◌-◌, ◌/◌, ◌^◌, ◌<◌, List, [], ◌∷◌, length, get_or, map, Bool, true, false, sym, ap, ◌∙◌, refl, arith, subst}
use Rattle.std.specs.Prelude.{bit_and, ◌||◌, ◌==◌}
use Rattle.std.proofs.lemmas.Bool.{eqb-true}
use Rattle.std.proofs.lemmas.Nat.{and_mask, and_shr}
use Rattle.std.proofs.Math.Nat.{mod-eq_of_lt}
use Rattle.bundle_bits.proofs.Words.{both-left, both-right}
use Rattle.ia_insn.specs.declared.insn.Insn.{Insn}
use Rattle.insn_rows.specs.declared.row.Row.{Row}
use Rattle.insn_rows.specs.Reading.{matches}
use Rattle.insn_rows.specs.WellMade.{is_table}
use Rattle.insn_rows.specs.Codes.{HasRow}
use Rattle.insn_rows.specs.Indexes.{is_among, are_indexed, are_inside, is_index}
use Rattle.insn_rows.proofs.RowWords.{all_get}
use Rattle.insn_rows.proofs.RowBack.{no_row, table_made, row_matches, code_below}

-- A row's major opcode is that of its words.
major : (r : Row) (w : ℕ) → w < 2 ^ 41 → (r.format.mask / 2 ^ 37 == 2 ^ 27 - 1) ≡ true → matches r w ≡ true → r.fixed / 2 ^ 37 ≡ w / 2 ^ 37
major r w h full m =
    let a : bit_and w r.format.mask / 2 ^ 37 ≡ r.fixed / 2 ^ 37 = ap (λ n. n / 2 ^ 37) (eqb-true _ _ m) in
    let b : bit_and w r.format.mask / 2 ^ 37 ≡ bit_and (w / 2 ^ 37) (r.format.mask / 2 ^ 37) = and_shr w r.format.mask 37 in
    let c : bit_and (w / 2 ^ 37) (r.format.mask / 2 ^ 37) ≡ bit_and (w / 2 ^ 37) (2 ^ 27 - 1) =
    ap (bit_and (w / 2 ^ 37)) (eqb-true _ _ full) in
    let d : bit_and (w / 2 ^ 37) (2 ^ 27 - 1) ≡ w / 2 ^ 37 = and_mask (w / 2 ^ 37) 27 ∙ mod-eq_of_lt (omega (arith, h)) in
    sym a ∙ b ∙ c ∙ d

-- What the index says of a row.
record Indexed (index : List (List ℕ)) (n : ℕ) (r : Row) : Type 0 where
  full : (r.format.mask / 2 ^ 37 == 2 ^ 27 - 1) ≡ true
  among : is_among n (get_or index (r.fixed / 2 ^ 37) []) ≡ true

indexed_at : (index : List (List ℕ)) (rows : List Row) (k n : ℕ) (d : Row) → are_indexed index k rows ≡ true → n < length rows
    → Indexed index (n + k) (get_or rows n d)
indexed_at index [] k n d h l = absurd (omega (arith, l))
indexed_at index (r ∷ rs) k zero d h l =
    let P : ℕ → Type 0 = λ m. Indexed index m r in
    subst P (let e : k ≡ 0 + k = omega arith in e) (record {
      full = both-left _ _ (both-left _ _ h);
      among = both-right _ _ (both-left _ _ h);
    })
indexed_at index (r ∷ rs) k (suc n) d h l =
    let P : ℕ → Type 0 = λ m. Indexed index m (get_or rs n d) in
    subst P (let e : n + suc k ≡ suc n + k = omega arith in e) (indexed_at index rs (suc k) n d (both-right _ _ h) (omega (arith, l)))

-- Where an index stands among others.
first_or : (n m : ℕ) (b : Bool) (ms : List ℕ) → (m == n) ≡ b → (b || is_among n ms) ≡ true
    → (is_among n ms ≡ true → (k : ℕ) × (k < length ms) × (get_or ms k 0 ≡ n)) → (k : ℕ) × (k < length (m ∷ ms)) × (get_or (m ∷ ms) k 0 ≡ n)
first_or n m true ms e h later = (0, omega arith, eqb-true m n e)
first_or n m false ms e h later = let k = later h in (suc k.0, omega (arith, k.1), k.2)

found_at : (n : ℕ) (row_indexes : List ℕ) → is_among n row_indexes ≡ true
    → (k : ℕ) × (k < length row_indexes) × (get_or row_indexes k 0 ≡ n)
found_at n [] h = absurd (cc)
found_at n (m ∷ ms) h = first_or n m (m == n) ms refl h (found_at n ms)

-- The rows at the indexes of the word's major opcode are all that may have its bits.
none_indexed : (rows : List Row) (index : List (List ℕ)) (i : Insn) (w : ℕ) → is_table rows ≡ true → is_index rows index ≡ true
    → HasRow rows i w
    → ((k : ℕ) (r : Row) → k < length (get_or index (w / 2 ^ 37) [])
    → matches (get_or rows (get_or (get_or index (w / 2 ^ 37) []) k 0) r) w ≡ false) → ⊥
unfolding is_index
none_indexed rows index i w table h code none =
    let r = get_or rows code.row_index no_row in
    let m = row_matches r i w (table_made rows code.row_index no_row table code.inside) (code.row no_row) in
    let at = indexed_at index rows 0 code.row_index no_row (both-left _ _ h) code.inside in
    let same = major r w (code_below rows i w no_row table code) at.full m in
    let P : ℕ → Type 0 = λ n. is_among (code.row_index + 0) (get_or index n []) ≡ true in
    let k = found_at (code.row_index + 0) (get_or index (w / 2 ^ 37) []) (subst P same at.among) in
    let e : get_or (get_or index (w / 2 ^ 37) []) k.0 0 ≡ code.row_index =
    k.2 ∙ (let e : code.row_index + 0 ≡ code.row_index = omega arith in e) in
    let Q : ℕ → Type 0 = λ n. matches (get_or rows n no_row) w ≡ false in
    let no = subst Q e (none k.0 no_row k.1) in
    cc

-- The row indexes that an index of borrowed ones has.
abbrev row_indexes_of : List (Bor (List ℕ)) → List (List ℕ)
row_indexes_of index = map (λ row_indexes. row_indexes.now) index

at_major : (index : List (Bor (List ℕ))) (m : ℕ) (d : Bor (List ℕ)) → m < length index
    → get_or (row_indexes_of index) m [] ≡ (get_or index m d).now
at_major [] m d l = absurd (omega (arith, l))
at_major (x ∷ xs) zero d l = refl
at_major (x ∷ xs) (suc m) d l = at_major xs m d (omega (arith, l))

as_long : (index : List (Bor (List ℕ))) → length (row_indexes_of index) ≡ length index
as_long [] = refl
as_long (x ∷ xs) = ap suc (as_long xs)

pub inside_at : (rows : List Row) (index : List (Bor (List ℕ))) (m : ℕ) (d : Bor (List ℕ)) → is_index rows (row_indexes_of index) ≡ true
    → m < length index → are_inside rows (get_or index m d).now ≡ true
unfolding is_index
inside_at rows index m d h l =
    let P : List ℕ → Type 0 = λ row_indexes. are_inside rows row_indexes ≡ true in
    let e = as_long index in
    subst P (at_major index m d l) (all_get (are_inside rows) (row_indexes_of index) m [] (omega (arith, e, l)) (both-right _ _ h))

pub none_at : (rows : List Row) (index : List (Bor (List ℕ))) (i : Insn) (w : ℕ) (d : Bor (List ℕ)) → is_table rows ≡ true
    → is_index rows (row_indexes_of index) ≡ true → w / 2 ^ 37 < length index
    → ((k : ℕ) (r : Row) → k < length (get_or index (w / 2 ^ 37) d).now
    → matches (get_or rows (get_or (get_or index (w / 2 ^ 37) d).now k 0) r) w ≡ false) → HasRow rows i w → ⊥
none_at rows index i w d table h l none code =
    let P : List ℕ → Type 0 =
    λ row_indexes. (k : ℕ) (r : Row) → k < length row_indexes → matches (get_or rows (get_or row_indexes k 0) r) w ≡ false in
    none_indexed rows (row_indexes_of index) i w table h code (subst P (sym (at_major index (w / 2 ^ 37) d l)) none)
