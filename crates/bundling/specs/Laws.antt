-- What the bundles of a loose text's instructions are.
use Rattle.std.specs.Prelude.{◌≡◌, ℕ, ◌+◌, ◌<◌, Bool, true, false, List, length, slice_get, slice_index_or}
use Rattle.ia_program.specs.declared.place.Place.{Place}
use Rattle.ia_program.specs.Places.{insn_at, IsPlaceOf, IsBefore, EachPlace}
use Rattle.ia_program.specs.Programs.{Program, IsProgram}
use Rattle.ia_program.specs.Runs.{IsWithinRun}
use Rattle.ia_meaning.specs.Sequence.{is_stopped}
use Rattle.sequence_laws.specs.Spreads.{IsSpread, IsBetween, AreStops, KeepsSlotRules}
use Rattle.loose_text.specs.LooseTexts.{Loose, IsLoose}
use Rattle.bundling.specs.Chunk.{Chunk}
use Rattle.bundling.specs.Chunks.{AreChunksOf, gaps_of, HasNoLongQuiet}
use Rattle.bundling.specs.Bundled.{sequence_of, targeted, place_of, bundle_of, program_of}

-- They are a program, where runs of slots are as short as a program's have to be.
abbrev pub BundledIsProgram : Type 0
BundledIsProgram =
    (s : Loose) (cs : List Chunk) → IsLoose s → AreChunksOf s cs
    → EachPlace (program_of s cs).bundles (IsWithinRun (program_of s cs).bundles) → IsProgram (program_of s cs)

-- Their runs are short enough where no long stretch of bundles is without a stop.
abbrev pub QuietIsShort : Type 0
QuietIsShort =
    (s : Loose) (cs : List Chunk) → IsLoose s → AreChunksOf s cs → HasNoLongQuiet cs
    → EachPlace (program_of s cs).bundles (IsWithinRun (program_of s cs).bundles)

-- The program has the instructions of the sequence at their places.
abbrev pub BundledIsSpread : Type 0
BundledIsSpread = (s : Loose) (cs : List Chunk) → IsLoose s → AreChunksOf s cs → IsSpread (sequence_of s) (program_of s cs) (place_of cs)

-- The program has each instruction of the loose text at its place, with its target put in.
abbrev pub BundledHasInstructions : Type 0
BundledHasInstructions =
    (s : Loose) (cs : List Chunk) (n : ℕ) → IsLoose s → AreChunksOf s cs → n < length s.items
    → insn_at (program_of s cs).bundles (place_of cs n) ≡ slice_get (targeted (bundle_of cs) s) n

-- Whether a stop is wanted behind the instruction at a place of the sequence.
abbrev pub sequence_stop : List Chunk → Place → Bool
sequence_stop cs place = slice_index_or (gaps_of cs) place.bundle false

-- Its stops between neighbours are those that are wanted.
abbrev pub BundledHasStops : Type 0
BundledHasStops =
    (s : Loose) (cs : List Chunk) → IsLoose s → AreChunksOf s cs
    → AreStops (sequence_of s) (program_of s cs) (place_of cs) (sequence_stop cs) (is_stopped (program_of s cs).bundles)

-- There is one stop at most behind each instruction, and none before the first.
pub record HasStopsApart (p : Program) (at : ℕ → Place) : Type 0 where
  pub one : (n : ℕ) (x y : Place) → IsBetween p at n x → IsBetween p at n y → is_stopped p.bundles x ≡ true → is_stopped p.bundles y ≡ true
      → x ≡ y
  pub none_before : (x : Place) → IsPlaceOf p.bundles x → IsBefore x (at 0) → is_stopped p.bundles x ≡ false

abbrev pub BundledHasOneStop : Type 0
BundledHasOneStop = (s : Loose) (cs : List Chunk) → IsLoose s → AreChunksOf s cs → HasStopsApart (program_of s cs) (place_of cs)

-- Behind the last instruction a stop follows some place exactly where it is wanted, and one place at most.
pub record HasLastStop (p : Program) (last : Place) (wanted : Bool) : Type 0 where
  pub some : wanted ≡ true → (x : Place) × IsPlaceOf p.bundles x × ¬ IsBefore x last × (is_stopped p.bundles x ≡ true)
  pub none : wanted ≡ false → (x : Place) → IsPlaceOf p.bundles x → ¬ IsBefore x last → is_stopped p.bundles x ≡ false
  pub one : (x y : Place) → IsPlaceOf p.bundles x → IsPlaceOf p.bundles y → ¬ IsBefore x last → ¬ IsBefore y last
      → is_stopped p.bundles x ≡ true → is_stopped p.bundles y ≡ true → x ≡ y

abbrev pub BundledHasLastStop : Type 0
BundledHasLastStop =
    (s : Loose) (cs : List Chunk) (n : ℕ) → IsLoose s → AreChunksOf s cs → n + 1 ≡ length s.items
    → HasLastStop (program_of s cs) (place_of cs n) (slice_index_or (gaps_of cs) n false)

-- `alloc` and `clrrrb` stand as the rules on slots ask.
abbrev pub BundledKeepsSlotRules : Type 0
BundledKeepsSlotRules =
    (s : Loose) (cs : List Chunk) → IsLoose s → AreChunksOf s cs
    → KeepsSlotRules (sequence_of s) (program_of s cs) (place_of cs) (is_stopped (program_of s cs).bundles)
