-- Ring and region go on holding a register stack.
use Rattle.std.proofs.Common.{◌≡◌, ℕ, ◌+◌, ◌%◌, ◌<◌, ◌≤◌, List, [], length, set, refl, sym, ap, ◌∙◌, arith}
use Rattle.std.proofs.lemmas.List.{length-set, length-replicate}
use Rattle.std.proofs.lemmas.List.Elements.{All-nil, All-set}
use Rattle.ia_meaning.specs.declared.state.Cell.{Cell}
use Rattle.ia_meaning.specs.declared.state.FrameShape.{FrameShape}
use Rattle.ia_meaning.specs.declared.state.Rse.{Rse}
use Rattle.ia_meaning.specs.declared.limits.TheConstants.{STACK_LIMIT}
use Rattle.ia_meaning.specs.State.{zero_frame, IsWord, IsFrame}
use Rattle.ia_meaning.specs.Writes.{resized}
use Rattle.ia_meaning.proofs.Resizing.{length-resized, words-resized}
use Rattle.ia_meaning.proofs.Starts.{zero_registers_are}
use Rattle.ia_meaning.specs.ResidentRange.{zero_range, range_after}
use Rattle.reg_stack.specs.Layout.{cells_of, region_words, IsFreeFrom}
use Rattle.reg_stack.specs.Stacks.{IsHeld}
use Rattle.reg_stack.proofs.Held.{resident_set, zeros, zeros_free}

-- After a write of a register in the frame.
pub cells_set : {ring : List Cell} {region : List ℕ} {shape : FrameShape} {rse : Rse} {limit : ℕ} (n : ℕ) (cell : Cell)
    → IsHeld ring region shape rse limit → length ring ≡ 96 → shape.base ≤ n → n < shape.base + shape.sof
    → cells_of (set ring (n % 96) cell) region rse.low rse.high ≡ set (cells_of ring region rse.low rse.high) n cell
cells_set {ring} {region} {shape} {rse} {limit} n cell held len above below =
    let high = held.high in
    let low = held.low in
    resident_set ring region rse.low rse.high n cell len (omega arith) (omega arith) held.resident

pub held_set : {ring : List Cell} {region : List ℕ} {shape : FrameShape} {rse : Rse} {limit : ℕ} (n : ℕ) (cell : Cell)
    → IsHeld ring region shape rse limit → length ring ≡ 96 → shape.base ≤ n → n < shape.base + shape.sof → IsWord cell.value
    → IsHeld (set ring (n % 96) cell) region shape rse limit
held_set {ring} {region} {shape} {rse} {limit} n cell held len above below word =
    let cells = cells_of ring region rse.low rse.high in
    let same = cells_set n cell held len above below in
    let old = held.stack in
    record {
      stack = record {
        frame = old.frame;
        count = rw same (length-set cells n cell ∙ old.count);
        within = old.within;
        least = old.least;
        most = old.most;
        cells = rw same (All-set (λ x. IsWord x.value) cells n cell word old.cells);
      };
      high = held.high;
      low = held.low;
      resident = held.resident;
      words = held.words;
      free = held.free;
    }

-- With another frame.
pub held_entered : {ring new_ring : List Cell} {region seen new_region : List ℕ} {shape new : FrameShape} {rse new_rse : Rse}
    {limit end : ℕ} → IsHeld ring region shape rse limit → IsFrame new → end ≤ limit → new.base + new.sof ≡ end
    → new_rse ≡ range_after rse (new.base, end) → seen ≡ region → length new_region ≡ length seen → IsFreeFrom new_region new_rse.low
    → cells_of new_ring new_region new_rse.low new_rse.high ≡ resized new_rse.high (cells_of ring seen rse.low rse.high)
    → IsHeld new_ring new_region new new_rse limit
held_entered {ring} {new_ring} {region} {seen} {new_region} {shape} {new} {rse} {new_rse} {limit}
    {end} held frame within sum range is count free same =
    let old = held.stack in
    let size = frame.size in
    let low = ap (λ (r : Rse). r.low) range in
    let high = ap (λ (r : Rse). r.high) range in
    let words = rw is at same in
    record {
      stack = record {
        frame = frame;
        count = rw words (length-resized new_rse.high (cells_of ring region rse.low rse.high) ∙ high ∙ sym sum);
        within = omega arith;
        least = old.least;
        most = old.most;
        cells = rw words (words-resized new_rse.high (cells_of ring region rse.low rse.high) old.cells);
      };
      high = high ∙ sym sum;
      low = omega arith;
      resident = omega arith;
      words = count ∙ ap (λ (x : List ℕ). length x) is ∙ held.words;
      free = free;
    }

-- At the start.
pub no_cells : (ring : List Cell) (region : List ℕ) → cells_of ring region 0 0 ≡ []
unfolding cells_of
no_cells ring region = refl

pub held_zeros : (ring : List Cell) (region : List ℕ) (limit : ℕ) → region ≡ zeros (region_words limit) → 96 ≤ limit → limit ≤ STACK_LIMIT
    → IsHeld ring region zero_frame zero_range limit
held_zeros ring region limit is least most =
    let none = no_cells ring region in
    record {
      stack = record {
        frame = zero_registers_are.frame;
        count = rw none refl;
        within = omega arith;
        least = least;
        most = most;
        cells = rw none (All-nil (λ x. IsWord x.value));
      };
      high = refl;
      low = omega arith;
      resident = omega arith;
      words = rw is (length-replicate {A = ℕ} (region_words limit) 0);
      free = rw is (zeros_free (region_words limit));
    }
