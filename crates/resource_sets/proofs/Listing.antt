-- The accesses of rows, one part after another.
use Rattle.std.proofs.Common.{◌≡◌, ℕ, Bool, true, false, List, [], ◌∷◌, ◌++◌, if◌then◌else◌, refl, sym, ap, ◌∙◌, append_assoc, inl, inr, zero, suc, ◌+◌, ◌-◌, ◌<◌, ◌≤◌, add-one, arith}
use Rattle.std.specs.Prelude.{min}
use Rattle.std.proofs.lemmas.Bool.{cases_eq, cases_lt, lt-ltb, le-ltb}
use Rattle.ia_meaning.specs.Arithmetic.{bit}
use Rattle.ia_meaning.specs.Moves.{is_masked}
use Rattle.resource_sets.specs.declared.access.Resource.TheVariants.{Pr}
use Rattle.resource_sets.specs.declared.access.Kind.{Kind}
use Rattle.resource_sets.specs.declared.row.AccessRow.{AccessRow}
use Rattle.resource_sets.specs.declared.access.Access.{Access}
use Rattle.resource_sets.specs.AccessLaws.{HasRow}
use Rattle.ia_meaning.specs.declared.action.Action.{Action}
use Rattle.resource_sets.specs.Rows.{access, listed}
use Rattle.resource_sets.specs.Accesses.{frame_row, qp_rows, own_rows, place_rows, mask_rows, placed_rows, rows_by_name, rows, accesses_of}

-- Rows of a list that is put together.
pub has_left : (qp : ℕ) (a : Access) (front back : List AccessRow) → HasRow qp a front → HasRow qp a (front ++ back)
has_left qp a [] back h = absurd h
has_left qp a (row ∷ front) back (inl h) = inl h
has_left qp a (row ∷ front) back (inr h) = inr (has_left qp a front back h)

pub has_right : (qp : ℕ) (a : Access) (front back : List AccessRow) → HasRow qp a back → HasRow qp a (front ++ back)
has_right qp a [] back h = h
has_right qp a (row ∷ front) back h = inr (has_right qp a front back h)

-- Rows of predicates under a mask.
place_row : (qp left n p mask : ℕ) (kind : Kind) → n ≤ p → p < n + left → is_masked mask p ≡ true
    → HasRow qp (record { resource = Pr p; kind = kind; guard = qp }) (place_rows left n mask kind)
place_row qp zero n p mask kind i j e = absurd (omega arith)
place_row qp (suc left) n p mask kind i j e = elim (cases_eq n p) [
  | inl same ↦ inl (rw same e, cc)
  | inr other ↦ inr (place_row qp left (suc n) p mask kind (omega arith) (omega arith) e)
]

pub mask_row : (qp p mask : ℕ) (kind : Kind) → 1 ≤ p → p < 64 → is_masked mask p ≡ true
    → HasRow qp (record { resource = Pr p; kind = kind; guard = qp }) (mask_rows mask kind)
unfolding mask_rows
mask_row qp p mask kind i j e = place_row qp 63 1 p mask kind i j e

pub listed_append : (qp : ℕ) (xs ys : List AccessRow) → listed qp (xs ++ ys) ≡ listed qp xs ++ listed qp ys
listed_append qp [] ys = refl
listed_append qp (x ∷ xs) ys = by_row x.there (listed_append qp xs ys)
  where
    by_row : (b : Bool) → listed qp (xs ++ ys) ≡ listed qp xs ++ listed qp ys
        → (if b then access qp x ∷ listed qp (xs ++ ys) else listed qp (xs ++ ys))
        ≡ (if b then access qp x ∷ listed qp xs else listed qp xs) ++ listed qp ys
    by_row true e = ap (λ rest. access qp x ∷ rest) e
    by_row false e = e

-- The accesses by name, part by part.
pub by_name : (qp : ℕ) (f : Action) → listed qp (rows_by_name qp f)
    ≡ (listed qp (frame_row qp f ∷ []) ++ listed qp (qp_rows qp f)) ++ listed qp (own_rows f)
by_name qp f =
    listed_append qp (frame_row qp f ∷ []) (qp_rows qp f ++ own_rows f)
    ∙ ap (λ x. listed qp (frame_row qp f ∷ []) ++ x) (listed_append qp (qp_rows qp f) (own_rows f))
    ∙ sym (append_assoc (listed qp (frame_row qp f ∷ [])) (listed qp (qp_rows qp f)) (listed qp (own_rows f)))

-- The accesses of an action are those by name, and after them those of predicates by place.
pub in_two : (qp : ℕ) (f : Action) → accesses_of qp f ≡ listed qp (rows_by_name qp f) ++ listed qp (placed_rows f)
unfolding rows
in_two qp f = listed_append qp (rows_by_name qp f) (placed_rows f)

-- All, part by part.
pub in_parts : (qp : ℕ) (f : Action)
    → accesses_of qp f ≡ ((listed qp (frame_row qp f ∷ []) ++ listed qp (qp_rows qp f)) ++ listed qp (own_rows f)) ++ listed qp
    (placed_rows f)
in_parts qp f = in_two qp f ∙ ap (λ x. x ++ listed qp (placed_rows f)) (by_name qp f)

-- The row of the n-th predicate, and those of the later ones.
pub place_step : (old : List AccessRow) (n mask : ℕ) (kind : Kind) (row : AccessRow) → n < 64
    → row ≡ record { there = bit mask (min n 16); guarded = true; resource = Pr n; kind = kind }
    → old ++ place_rows (64 - n) n mask kind ≡ (old ++ row ∷ []) ++ place_rows (64 - (n + 1)) (n + 1) mask kind
place_step old n mask kind row l is =
    let e : 64 - n ≡ suc (64 - (n + 1)) = omega arith in
    rw (e, is, masked_at, add-one n) (sym (append_assoc old (record {
      there = is_masked mask n;
      guarded = true;
      resource = Pr n;
      kind = kind;
    } ∷ []) (place_rows (64 - suc n) (suc n) mask kind)))
  where
    masked_at : bit mask (min n 16) ≡ is_masked mask n
    masked_at = elim (cases_lt n 16) [
      | inl l ↦ rw (lt-ltb n 16 l) (ap (λ (k : ℕ). bit mask k) (let k : min n 16 ≡ n = omega arith in k))
      | inr l ↦ rw (le-ltb n 16 l) (ap (λ (k : ℕ). bit mask k) (let k : min n 16 ≡ 16 = omega arith in k))
    ]
