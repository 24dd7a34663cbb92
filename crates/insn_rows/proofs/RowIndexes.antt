-- The index of an opcode's row, where a function of opcodes says it.
use Rattle.std.proofs.Common.{◌≡◌, ℕ, zero, suc, ◌+◌, ◌<◌, List, [], ◌∷◌, length, get_or, Bool, true, false, sym, ap, ◌∙◌, refl, arith}
use Rattle.std.specs.Prelude.{◌&&◌, ◌==◌, nat_lt, IsTrue, Option, Some, None}
use Rattle.std.proofs.lemmas.Bool.{eqb-true, ltb-true}
use Rattle.bundle_bits.proofs.Words.{both-left, both-right}
use Rattle.insn_rows.specs.declared.opcode.Opcode.{Opcode}
use Rattle.insn_rows.specs.declared.row.Row.{Row}
use Rattle.insn_rows.specs.Codes.{IsRowIndexOf}

-- The index is this one.
abbrev pub is_at : Option ℕ → ℕ → Bool
is_at None n = false
is_at (Some m) n = m == n

-- Each row from the n-th on stands at the index of its opcode.
abbrev pub stand_from : (Opcode → Option ℕ) → ℕ → List Row → Bool
stand_from row_index n [] = true
stand_from row_index n (r ∷ rs) = is_at (row_index r.opcode) n && stand_from row_index (suc n) rs

-- At the index of an opcode, if it has one, stands a row of the opcode.
abbrev pub Stands : List Row → Option ℕ → Opcode → Type 0
Stands rows None c = Unit {0}
Stands rows (Some n) c = IsTrue (nat_lt n (length rows)) × ((d : Row) → (get_or rows n d).opcode ≡ c)

is-at : (p : Option ℕ) (n : ℕ) → is_at p n ≡ true → p ≡ Some n
is-at None n h = absurd (cc)
is-at (Some m) n h = ap Some (eqb-true m n h)

stands_at : (row_index : Opcode → Option ℕ) (rows : List Row) (k m : ℕ) (d : Row) → stand_from row_index k rows ≡ true → m < length rows
    → row_index (get_or rows m d).opcode ≡ Some (m + k)
stands_at row_index [] k m d h l = absurd (omega (arith, l))
stands_at row_index (r ∷ rs) k zero d h l = is-at (row_index r.opcode) k (both-left _ _ h) ∙ ap Some (let e : k ≡ 0 + k = omega arith in e)
stands_at row_index (r ∷ rs) k (suc m) d h l =
    stands_at row_index rs (suc k) m d (both-right _ _ h) (omega (arith, l)) ∙ ap Some (let e : m + suc k ≡ suc m + k = omega arith in e)

of_row_index : (rows : List Row) (row_index : Opcode → Option ℕ) (c : Opcode) (p : Option ℕ) → row_index c ≡ p
    → stand_from row_index 0 rows ≡ true → Stands rows p c → IsRowIndexOf rows p c
of_row_index rows row_index c None e h s = λ m d l is.
    let a : row_index c ≡ Some (m + 0) = ap row_index (sym is) ∙ stands_at row_index rows 0 m d h l in
    absurd (cc)
of_row_index rows row_index c (Some n) e h s = (
  ltb-true _ _ s.0,
  s.1,
  λ m d l is.
      let a : row_index c ≡ Some (m + 0) = ap row_index (sym is) ∙ stands_at row_index rows 0 m d h l in
      let b : Some n ≡ Some (m + 0) = sym e ∙ a in
      let f : n ≡ m + 0 = cc in
      omega (arith, f),
)

pub is_row_index : (rows : List Row) (row_index : Opcode → Option ℕ) → stand_from row_index 0 rows ≡ true
    → ((c : Opcode) → Stands rows (row_index c) c) → (c : Opcode) → IsRowIndexOf rows (row_index c) c
is_row_index rows row_index h s c = of_row_index rows row_index c (row_index c) refl h (s c)
