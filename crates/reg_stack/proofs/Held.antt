-- The cells that ring and region hold, one by one.
use Rattle.std.proofs.Common.{◌≡◌, ◌==◌, ℕ, ◌+◌, ◌*◌, ◌%◌, ◌<◌, ◌≤◌, ◌⊎◌, List, length, get_or, set, replicate, sym, ap, ◌∙◌, ⊎_elim, arith}
use mathlib.Core.Logic.{◌≢◌}
use Rattle.std.proofs.lemmas.List.{length-set, get_or-set_same, get_or-set_other, get_or_past, get_or-replicate, length-replicate, ext_get_or}
use Rattle.std.proofs.lemmas.List.FromFn.{length-map-range_with_len, get_or-map-range_with_len}
use Rattle.std.proofs.lemmas.Bool.{cases_lt, cases_order}
use Rattle.std.proofs.lemmas.Nat.Bits.{bit_at-zero}
use Rattle.std.specs.Int.{bit_at}
use Rattle.ia_meaning.specs.declared.state.Cell.{Cell}
use Rattle.ia_meaning.specs.State.{zero_cell}
use Rattle.ia_meaning.specs.Writes.{resized}
use Rattle.reg_stack.specs.Layout.{value_word, nat_word, spilled_cell, spare_bit, resident_cell, held_cell, cells_of, IsFreeFrom}
use Rattle.reg_stack.proofs.Places.{cell_is, ring_ne_ring}
use Rattle.ia_meaning.proofs.Resizing.{length-resized}
use Rattle.reg_stack.proofs.Resizing.{get_or-resized}
use Rattle.reg_stack.proofs.Steps.{held_below, held_above, ring_same, ring_other}

pub length_held : (ring : List Cell) (region : List ℕ) (low high : ℕ) → length (cells_of ring region low high) ≡ high
unfolding cells_of
length_held ring region low high = length-map-range_with_len (held_cell ring region low) 0 high

pub held_at : (ring : List Cell) (region : List ℕ) (low high c : ℕ) → c < high
    → get_or (cells_of ring region low high) c zero_cell ≡ held_cell ring region low c
unfolding cells_of
held_at ring region low high c h = get_or-map-range_with_len (held_cell ring region low) 0 high c c zero_cell h (omega arith)

pub held_past : (ring : List Cell) (region : List ℕ) (low high c : ℕ) → high ≤ c
    → get_or (cells_of ring region low high) c zero_cell ≡ zero_cell
held_past ring region low high c h = get_or_past (cells_of ring region low high) c zero_cell (rw length_held h)

-- ---- a read and a write of a resident cell

pub resident_at : (ring : List Cell) (region : List ℕ) (low high c : ℕ) → low ≤ c → c < high
    → get_or (cells_of ring region low high) c zero_cell ≡ resident_cell ring c
resident_at ring region low high c h k = held_at ring region low high c k ∙ held_above ring region low c h

pub resident_set : (ring : List Cell) (region : List ℕ) (low high c : ℕ) (cell : Cell) → length ring ≡ 96 → low ≤ c → c < high
    → high ≤ low + 96 → cells_of (set ring (c % 96) cell) region low high ≡ set (cells_of ring region low high) c cell
resident_set ring region low high c cell len above below near =
    let after = set ring (c % 96) cell in
    let cells = cells_of ring region low high in
    let same : length (cells_of after region low high) ≡ length (set cells c cell) =
    length_held after region low high ∙ sym (length-set cells c cell ∙ length_held ring region low high) in
    ext_get_or zero_cell (cells_of after region low high) (set cells c cell) same (λ d h.
    let within : d < high = rw (length_held after region low high) at h in
    held_at after region low high d within ∙ ⊎_elim
    (λ (e : d ≡ c). rw e (held_above after region low c above ∙ ring_same ring c cell len
    ∙ sym (get_or-set_same cells c cell zero_cell (rw length_held below))))
    (λ (e : (d < c) ⊎ (c < d)).
    let ne : d ≢ c = ⊎_elim (λ (j : d < c). λ (k : d ≡ c). absurd (omega arith)) (λ (j : c < d). λ (k : d ≡ c). absurd (omega arith)) e in
    ⊎_elim
    (λ (j : d < low). held_below after region low d j ∙ sym (held_below ring region low d j))
    (λ (j : low ≤ d).
    let apart : d % 96 ≢ c % 96 = ⊎_elim
    (λ (i : d < c). λ (k : d % 96 ≡ c % 96). ring_ne_ring d c i (omega arith) (sym k))
    (λ (i : c < d). ring_ne_ring c d i (omega arith)) e in
    held_above after region low d j ∙ ring_other ring c d cell apart ∙ sym (held_above ring region low d j))
    (cases_lt d low)
    ∙ sym (get_or-set_other cells c d cell zero_cell ne ∙ held_at ring region low high d within))
    (cases_order d c))

-- ---- another frame

-- What is known once the cells have been moved.
pub record HasMoved (ring0 ring1 ring2 : List Cell) (region0 region1 region2 : List ℕ) (low top to high end : ℕ) : Type 0 where
  pub spilled : (c : ℕ) → held_cell ring0 region1 top c ≡ held_cell ring0 region0 low c
  pub filled : (c : ℕ) → c < end → held_cell ring1 region2 to c ≡ held_cell ring0 region1 top c
  pub kept : (c : ℕ) → end ≤ c + 96 → c < high → resident_cell ring2 c ≡ resident_cell ring1 c
  pub zero : (c : ℕ) → high ≤ c → c < end → resident_cell ring2 c ≡ zero_cell
  pub reach : to ≤ high
  pub near : end ≤ to + 96

pub moved_cells : {ring0 ring1 ring2 : List Cell} {region0 region1 region2 : List ℕ} {low top to high end : ℕ}
    → HasMoved ring0 ring1 ring2 region0 region1 region2 low top to high end
    → cells_of ring2 region2 to end ≡ resized end (cells_of ring0 region0 low high)
moved_cells {ring0} {ring1} {ring2} {region0} {region1} {region2} {low} {top} {to} {high} {end} m =
    let reach = m.reach in
    let near = m.near in
    let cells = cells_of ring0 region0 low high in
    let same : length (cells_of ring2 region2 to end) ≡ length (resized end cells) =
    length_held ring2 region2 to end ∙ sym (length-resized end cells) in
    ext_get_or zero_cell (cells_of ring2 region2 to end) (resized end cells) same (λ c h.
    let within : c < end = rw (length_held ring2 region2 to end) at h in
    held_at ring2 region2 to end c within ∙ ⊎_elim
    (λ (below : c < high).
    ⊎_elim
    (λ (j : c < to). held_below ring2 region2 to c j ∙ sym (held_below ring1 region2 to c j))
    (λ (j : to ≤ c). held_above ring2 region2 to c j ∙ m.kept c (omega arith) below ∙ sym (held_above ring1 region2 to c j))
    (cases_lt c to)
    ∙ m.filled c within ∙ m.spilled c ∙ sym (get_or-resized end cells c within ∙ held_at ring0 region0 low high c below))
    (λ (above : high ≤ c).
    held_above ring2 region2 to c (omega arith) ∙ m.zero c above within
    ∙ sym (get_or-resized end cells c within ∙ held_past ring0 region0 low high c above))
    (cases_lt c high))

-- ---- the start

abbrev pub zeros : ℕ → List ℕ
zeros n = replicate n 0

pub zeros_at : (n c : ℕ) → get_or (zeros n) c 0 ≡ 0
zeros_at n c = ⊎_elim
    (λ (h : c < n). get_or-replicate {A = ℕ} n c 0 0 h)
    (λ (h : n ≤ c). get_or_past {X = ℕ} (zeros n) c 0 (rw length-replicate h))
    (cases_lt c n)

pub zeros_free : (n : ℕ) → IsFreeFrom (zeros n) 0
unfolding spilled_cell spare_bit
zeros_free n = record {
  rest =
      λ c h. cell_is _ _ (zeros_at n (value_word c)) (ap (λ x. bit_at x (c % 63) == 1) (zeros_at n (nat_word c))
      ∙ ap (λ x. x == 1) (bit_at-zero (c % 63)));
  spare = λ k. ap (λ x. bit_at x 63) (zeros_at n (64 * k + 63)) ∙ bit_at-zero 63;
}
