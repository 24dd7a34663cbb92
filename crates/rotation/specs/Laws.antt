-- What the numbers of registers behind rotation have to do with each other.
use Rattle.std.specs.Prelude.{◌≢◌, ℕ, ◌*◌, ◌<◌}
use Rattle.ia_meaning.specs.declared.state.FrameShape.{FrameShape}
use Rattle.ia_meaning.specs.State.{IsFrame}
use Rattle.ia_meaning.specs.Names.{frame_index, predicate_index}

-- Different registers of a frame have different numbers.
abbrev pub DifferentIndexes : Type 0
DifferentIndexes = (f : FrameShape) → IsFrame f → (k j : ℕ) → k < 96 → j < 96 → k ≢ j → frame_index f k ≢ frame_index f j

-- Different registers of a frame's rotating part have different numbers.
abbrev pub DifferentRotatingIndexes : Type 0
DifferentRotatingIndexes =
    (f : FrameShape) → IsFrame f → (k j : ℕ) → k < 8 * f.sor → j < 8 * f.sor → k ≢ j → frame_index f k ≢ frame_index f j

-- Different predicates have different numbers.
abbrev pub DifferentPredicateIndexes : Type 0
DifferentPredicateIndexes = (f : FrameShape) → IsFrame f → (p q : ℕ) → p < 64 → q < 64 → p ≢ q → predicate_index f p ≢ predicate_index f q

-- A register of a frame stands within it.
abbrev pub IndexesWithin : Type 0
IndexesWithin = (f : FrameShape) → IsFrame f → (k : ℕ) → k < f.sof → frame_index f k < f.sof

-- One of its rotating part stands within that part.
abbrev pub RotatingIndexesWithin : Type 0
RotatingIndexesWithin = (f : FrameShape) → (k : ℕ) → k < 8 * f.sor → frame_index f k < 8 * f.sor
