-- Where the cells lie: different cells have different places, and a cell that is written is the one that changes.
use Rattle.std.proofs.Common.{◌≡◌, ◌==◌, ℕ, ◌+◌, ◌-◌, ◌*◌, ◌/◌, ◌%◌, ◌^◌, ◌<◌, Bool, true, false, List, length, get_or, set, sym, ap, subst, ◌∙◌, ⊎_elim, arith}
use mathlib.Core.Logic.{◌≢◌}
use Rattle.std.proofs.lemmas.List.{length-set, get_or-set_same, get_or-set_other, set-set, set_comm}
use Rattle.std.proofs.lemmas.Bool.{cases_eq}
use Rattle.std.proofs.lemmas.Nat.Bits.{bit_at_set_same, bit_at_set_other, bit_at_clear_same, bit_at_clear_other}
use Rattle.std.specs.Int.{bit_at, bit_not}
use Rattle.std.specs.Int.RustNames.{bit_or}
use lib.Bits.{bit_and}
use mir.Syntax.{w64}
use Rattle.ia_meaning.specs.declared.state.Cell.{Cell}
use Rattle.reg_stack.specs.Layout.{value_word, nat_word, spilled_cell, spare_bit}

-- ---- places

pub value_ne_nat : (c d : ℕ) → value_word c ≢ nat_word d
value_ne_nat c d = omega arith

pub value_ne_value : (c d : ℕ) → d ≢ c → value_word d ≢ value_word c
value_ne_value c d h = omega arith

pub value_below_nat : (c : ℕ) → value_word c < nat_word c
value_below_nat c = omega arith

-- Two cells with one word of NaT bits have different bits there.
pub bit_ne_bit : (c d : ℕ) → d ≢ c → d / 63 ≡ c / 63 → d % 63 ≢ c % 63
bit_ne_bit c d h e = omega arith

-- The place of a cell whose turn round the ring is known.
pub place_in_turn : (c first : ℕ) → c / 96 ≡ first / 96 → c - 96 * (first / 96) ≡ c % 96
place_in_turn c first h = omega arith

-- Two cells less than 96 apart have different places in the ring.
pub ring_ne_ring : (c d : ℕ) → c < d → d < c + 96 → d % 96 ≢ c % 96
ring_ne_ring c d h k = omega arith

pub ring_within : (c : ℕ) → c % 96 < 96
ring_within c = omega arith

-- ---- a cell that is written in the region

pub cell_is : (a b : Cell) → a.value ≡ b.value → a.nat ≡ b.nat → a ≡ b
cell_is a b h k =
    let f : ℕ → Cell = λ v. record { value = v; nat = a.nat } in
    let g : Bool → Cell = λ n. record { value = b.value; nat = n } in
    ap f h ∙ ap g k

-- The region after one cell is written in it.
pub record IsPut (old new : List ℕ) (c : ℕ) (cell : Cell) : Type 0 where
  pub count : length new ≡ length old
  pub this : spilled_cell new c ≡ cell
  pub others : (d : ℕ) → d ≢ c → spilled_cell new d ≡ spilled_cell old d
  pub spare : (n : ℕ) → spare_bit new n ≡ spare_bit old n

written : List ℕ → ℕ → ℕ → ℕ → List ℕ
written region c value nats = set (set region (value_word c) value) (nat_word c) nats

at_nat : (region : List ℕ) (c value nats : ℕ) → nat_word c < length region → get_or (written region c value nats) (nat_word c) 0 ≡ nats
unfolding written
at_nat region c value nats h = get_or-set_same (set region (value_word c) value) (nat_word c) nats 0 (rw length-set h)

at_value : (region : List ℕ) (c value nats : ℕ) → nat_word c < length region → get_or (written region c value nats) (value_word c) 0 ≡ value
unfolding written
at_value region c value nats h =
    get_or-set_other (set region (value_word c) value) (nat_word c) (value_word c) nats 0 (value_ne_nat c c)
    ∙ get_or-set_same region (value_word c) value 0 (omega (arith, value_below_nat c))

at_other : (region : List ℕ) (c value nats k : ℕ) → k ≢ value_word c → k ≢ nat_word c
    → get_or (written region c value nats) k 0 ≡ get_or region k 0
unfolding written
at_other region c value nats k h j =
    get_or-set_other (set region (value_word c) value) (nat_word c) k nats 0 j ∙ get_or-set_other region (value_word c) k value 0 h

-- What a write of a bit does to a word.
pub record IsBitPut (old new b : ℕ) (bit : Bool) : Type 0 where
  pub this : (bit_at new b == 1) ≡ bit
  pub others : (i : ℕ) → i < 64 → i ≢ b → bit_at new i ≡ bit_at old i

pub bit_set : (n b : ℕ) → b < 63 → IsBitPut n (bit_or n (1 * 2 ^ b % 2 ^ 64)) b true
bit_set n b h =
    record { this = ap (λ x. x == 1) (bit_at_set_same w64 n b (omega arith)); others = λ i j k. bit_at_set_other w64 n b (omega arith) i k }

pub bit_clear : (n b : ℕ) → b < 63 → IsBitPut n (bit_and n (bit_not w64 (1 * 2 ^ b % 2 ^ 64))) b false
bit_clear n b h =
    record {
      this = ap (λ x. x == 1) (bit_at_clear_same w64 n b (omega arith));
      others = λ i j k. bit_at_clear_other w64 n b (omega arith) i j k;
    }

pub put_is : (region : List ℕ) (c : ℕ) (cell : Cell) (nats : ℕ) → nat_word c < length region
    → IsBitPut (get_or region (nat_word c) 0) nats (c % 63) cell.nat
    → IsPut region (set (set region (value_word c) cell.value) (nat_word c) nats) c cell
unfolding written spilled_cell spare_bit
put_is region c cell nats h put =
    let same = at_nat region c cell.value nats h in
    let value = at_value region c cell.value nats h in
    let other = at_other region c cell.value nats in
    record {
      count = length-set (set region (value_word c) cell.value) (nat_word c) nats ∙ length-set region (value_word c) cell.value;
      this = cell_is _ _ value (rw same put.this);
      others = λ d k. cell_is _ _ (other (value_word d) (value_ne_value c d k) (value_ne_nat d c))
          (⊎_elim
          (λ (e : d / 63 ≡ c / 63).
          let at : nat_word d ≡ nat_word c = omega arith in
          rw at (rw same (ap (λ x. x == 1) (put.others (d % 63) (omega arith) (bit_ne_bit c d k e)))))
          (λ (e : d / 63 ≡ c / 63 → ⊥). ap (λ x. bit_at x (d % 63) == 1)
          (other (nat_word d) (λ j. value_ne_nat c d (sym j)) (λ j. e (omega arith))))
          (cases_eq (d / 63) (c / 63)));
      spare = λ n. ⊎_elim
          (λ (e : n ≡ c / 63).
          let at : 64 * n + 63 ≡ nat_word c = omega arith in
          rw at (rw same (put.others 63 (omega arith) (omega arith))))
          (λ (e : n ≡ c / 63 → ⊥). ap (λ x. bit_at x 63) (other (64 * n + 63) (omega arith) (λ j. e (omega arith))))
          (cases_eq n (c / 63));
    }

-- ---- a cell of a run, whose NaT collection is written at the end of the run

-- The region once the NaT collection of a cell is written.
abbrev pub with_nats : List ℕ → ℕ → ℕ → List ℕ
with_nats region c nats = set region (nat_word c) nats

pub same_nats : (region : List ℕ) (c d nats : ℕ) → d / 63 ≡ c / 63 → with_nats region d nats ≡ with_nats region c nats
same_nats region c d nats e = ap (λ n. set region (64 * n + 63) nats) e

-- The value of a cell there, and its NaT bit in the collection that is to be written.
pub spilled_in_run : (region : List ℕ) (c nats : ℕ) → nat_word c < length region
    → spilled_cell (with_nats region c nats) c ≡ record { value = get_or region (value_word c) 0; nat = bit_at nats (c % 63) == 1 }
unfolding spilled_cell
spilled_in_run region c nats h =
    cell_is _ _ (get_or-set_other region (nat_word c) (value_word c) nats 0 (value_ne_nat c c))
    (ap (λ x. bit_at x (c % 63) == 1) (get_or-set_same region (nat_word c) nats 0 h))

pub put_in_run : (region : List ℕ) (c : ℕ) (cell : Cell) (old new : ℕ) → nat_word c < length region → IsBitPut old new (c % 63) cell.nat
    → IsPut (with_nats region c old) (with_nats (set region (value_word c) cell.value) c new) c cell
put_in_run region c cell old new h put =
    let seen = with_nats region c old in
    let values = set region (value_word c) cell.value in
    let same : set (set seen (value_word c) cell.value) (nat_word c) new ≡ set values (nat_word c) new =
    ap (λ x. set x (nat_word c) new) (set_comm region (nat_word c) (value_word c) old cell.value (λ e. value_ne_nat c c (sym e)))
    ∙ set-set values (nat_word c) old new in
    subst (λ x. IsPut seen x c cell) same (put_is seen c cell new (rw length-set h) (rw (get_or-set_same region (nat_word c) old 0 h) put))

-- The word and the bit of cell c, where c is in the same run of 63 cells as `first`.
pub record IsInRun (first c word bit : ℕ) : Type 0 where
  pub row : c / 63 ≡ first / 63
  pub word_is : value_word c ≡ word
  pub bit_is : c % 63 ≡ bit

pub in_run : (first c : ℕ) → c / 63 ≡ first / 63 → IsInRun first c (c + first / 63) (c - 63 * (first / 63))
in_run first c row = record { row = row; word_is = omega arith; bit_is = omega arith }

pub spilled_there : {first c word bit : ℕ} (region : List ℕ) (nats : ℕ) → IsInRun first c word bit → nat_word first < length region
    → record { value = get_or region word 0; nat = bit_at nats bit == 1 } ≡ spilled_cell (with_nats region first nats) c
spilled_there {first} {c} {word} {bit} region nats at h =
    let cell : ℕ → ℕ → Cell = λ w b. record { value = get_or region w 0; nat = bit_at nats b == 1 } in
    let row = at.row in
    let within : nat_word c < length region = omega arith in
    sym (ap (λ x. spilled_cell x c) (sym (same_nats region first c nats at.row)) ∙ spilled_in_run region c nats within
    ∙ ap (λ w. cell w (c % 63)) at.word_is ∙ ap (λ b. cell word b) at.bit_is)

pub put_there : {first c word bit : ℕ} (region : List ℕ) (cell : Cell) (old new : ℕ) → IsInRun first c word bit
    → nat_word first < length region → IsBitPut old new bit cell.nat
    → IsPut (with_nats region first old) (with_nats (set region word cell.value) first new) c cell
put_there {first} {c} {word} {bit} region cell old new at h put =
    let row = at.row in
    let within : nat_word c < length region = omega arith in
    let bits : IsBitPut old new (c % 63) cell.nat = subst (λ b. IsBitPut old new b cell.nat) (sym at.bit_is) put in
    let before = same_nats region first c old at.row in
    let after =
    same_nats (set region (value_word c) cell.value) first c new at.row
    ∙ ap (λ w. with_nats (set region w cell.value) first new) at.word_is in
    subst (λ x. IsPut x (with_nats (set region word cell.value) first new) c cell) before
    (subst (λ x. IsPut (with_nats region c old) x c cell) after (put_in_run region c cell old new within bits))
