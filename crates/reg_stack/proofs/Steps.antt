-- One cell moves between the ring and the region, or one register of the ring is cleared.
use Rattle.std.proofs.Common.{◌≡◌, ℕ, ◌+◌, ◌%◌, ◌<◌, ◌≤◌, ◌⊎◌, List, length, get_or, set, refl, sym, ap, ◌∙◌, ⊎_elim, arith}
use mathlib.Core.Logic.{◌≢◌}
use Rattle.std.proofs.lemmas.List.{get_or-set_same, get_or-set_other}
use Rattle.std.proofs.lemmas.Bool.{cases_eq, cases_order, cond_below, cond_above}
use Rattle.ia_meaning.specs.declared.state.Cell.{Cell}
use Rattle.ia_meaning.specs.State.{zero_cell}
use Rattle.reg_stack.specs.Layout.{spilled_cell, resident_cell, held_cell, IsFreeFrom}
use Rattle.reg_stack.proofs.Places.{ring_ne_ring, ring_within, IsPut}

pub held_below : (ring : List Cell) (region : List ℕ) (low c : ℕ) → c < low → held_cell ring region low c ≡ spilled_cell region c
unfolding held_cell
held_below ring region low c h = sym (cond_below c low (spilled_cell region c) (resident_cell ring c) h)

pub held_above : (ring : List Cell) (region : List ℕ) (low c : ℕ) → low ≤ c → held_cell ring region low c ≡ resident_cell ring c
unfolding held_cell
held_above ring region low c h = sym (cond_above c low (spilled_cell region c) (resident_cell ring c) (resident_cell ring c) h refl)

pub ring_same : (ring : List Cell) (c : ℕ) (cell : Cell) → length ring ≡ 96 → resident_cell (set ring (c % 96) cell) c ≡ cell
unfolding resident_cell
ring_same ring c cell h = get_or-set_same ring (c % 96) cell zero_cell (omega (arith, ring_within c))

pub ring_other : (ring : List Cell) (c d : ℕ) (cell : Cell) → d % 96 ≢ c % 96
    → resident_cell (set ring (c % 96) cell) d ≡ resident_cell ring d
unfolding resident_cell
ring_other ring c d cell h = get_or-set_other ring (c % 96) (d % 96) cell zero_cell h

-- ---- out

pub spill_free : (old new : List ℕ) (c : ℕ) (cell : Cell) → IsPut old new c cell → IsFreeFrom old c → IsFreeFrom new (c + 1)
spill_free old new c cell put free = record {
  rest = λ d h. put.others d (omega arith) ∙ free.rest d (omega arith);
  spare = λ n. put.spare n ∙ free.spare n;
}

pub spill_cell : (ring : List Cell) (old new : List ℕ) (c : ℕ) → IsPut old new c (resident_cell ring c) → (d : ℕ)
    → held_cell ring new (c + 1) d ≡ held_cell ring old c d
spill_cell ring old new c put d =
    ⊎_elim
    (λ (e : d ≡ c). rw e (held_below ring new (c + 1) c (omega arith) ∙ put.this ∙ sym (held_above ring old c c (omega arith))))
    (λ (e : (d < c) ⊎ (c < d)). ⊎_elim
    (λ (h : d < c). held_below ring new (c + 1) d (omega arith) ∙ put.others d (omega arith) ∙ sym (held_below ring old c d h))
    (λ (h : c < d). held_above ring new (c + 1) d (omega arith) ∙ sym (held_above ring old c d (omega arith)))
    e)
    (cases_order d c)

-- ---- and back

pub fill_free : (old new : List ℕ) (c : ℕ) → IsPut old new c zero_cell → IsFreeFrom old (c + 1) → IsFreeFrom new c
fill_free old new c put free = record {
  rest = λ d h. ⊎_elim
      (λ (e : d ≡ c). rw e put.this)
      (λ (e : d ≡ c → ⊥). put.others d e ∙ free.rest d (omega arith))
      (cases_eq d c);
  spare = λ n. put.spare n ∙ free.spare n;
}

pub fill_cell : (ring : List Cell) (old new : List ℕ) (c d : ℕ) → length ring ≡ 96 → IsPut old new c zero_cell → d < c + 96
    → held_cell (set ring (c % 96) (spilled_cell old c)) new c d ≡ held_cell ring old (c + 1) d
fill_cell ring old new c d len put near =
    let after = set ring (c % 96) (spilled_cell old c) in
    ⊎_elim
    (λ (e : d ≡ c). rw e (held_above after new c c (omega arith) ∙ ring_same ring c (spilled_cell old c) len
    ∙ sym (held_below ring old (c + 1) c (omega arith))))
    (λ (e : (d < c) ⊎ (c < d)). ⊎_elim
    (λ (h : d < c). held_below after new c d h ∙ put.others d (omega arith) ∙ sym (held_below ring old (c + 1) d (omega arith)))
    (λ (h : c < d). held_above after new c d (omega arith) ∙ ring_other ring c d (spilled_cell old c) (ring_ne_ring c d h near)
    ∙ sym (held_above ring old (c + 1) d (omega arith)))
    e)
    (cases_order d c)

-- ---- zeros

pub pad_kept : (ring : List Cell) (c d : ℕ) → d < c → c < d + 96 → resident_cell (set ring (c % 96) zero_cell) d ≡ resident_cell ring d
pad_kept ring c d h near = ring_other ring c d zero_cell (λ j. ring_ne_ring d c h near (sym j))

pub pad_zero : (ring : List Cell) (c d : ℕ) → length ring ≡ 96 → (d ≡ c) ⊎ (resident_cell ring d ≡ zero_cell)
    → resident_cell (set ring (c % 96) zero_cell) d ≡ zero_cell
unfolding resident_cell
pad_zero ring c d len h =
    ⊎_elim
    (λ (e : d % 96 ≡ c % 96). rw e (get_or-set_same ring (c % 96) zero_cell zero_cell (omega (arith, ring_within c))))
    (λ (e : d % 96 ≡ c % 96 → ⊥). get_or-set_other ring (c % 96) (d % 96) zero_cell zero_cell e
    ∙ ⊎_elim (λ (j : d ≡ c). absurd (e (ap (λ x. x % 96) j))) (λ (j : get_or ring (d % 96) zero_cell ≡ zero_cell). j) h)
    (cases_eq (d % 96) (c % 96))
