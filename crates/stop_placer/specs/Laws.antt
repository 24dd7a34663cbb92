-- The laws of packed texts.
use Rattle.std.specs.Prelude.{◌≡◌, ◌⊎◌, ℕ, ◌<◌, List, length, Contains, slice_get, slice_index_or, Some}
use Rattle.ia_insn.specs.declared.insn.Insn.{Insn}
use Rattle.ia_program.specs.declared.place.Place.{Place}
use Rattle.ia_program.specs.Places.{insn_at, IsBefore}
use Rattle.ia_program.specs.Programs.{IsProgram}
use Rattle.ia_meaning.specs.Sequence.{first_of}
use Rattle.order_laws.specs.Violations.{HasNoViolation}
use Rattle.asm_build.specs.declared.reason.TextError.{TextError}
use Rattle.sequence_laws.specs.Spreads.{IsFiller}
use Rattle.loose_text.specs.LooseTexts.{Loose}
use Rattle.loose_text.specs.LooseReading.{ReadsLoose}
use Rattle.bundling.specs.Bundled.{targeted}
use Rattle.stop_placer.specs.Packed.{Packed}
use Rattle.stop_placer.specs.Placing.{IsPlaced, HasPlacingFault}

-- A text is packed into at most one program with one list of reasons.
abbrev pub OnePlaced : Type 0
OnePlaced = (text : List ℕ) (k m : Packed) → IsPlaced text k → IsPlaced text m → k ≡ m

-- A text has at most one first fault.
abbrev pub OnePlacingFault : Type 0
OnePlacingFault = (text : List ℕ) (e f : TextError) → HasPlacingFault text e → HasPlacingFault text f → e ≡ f

-- A text that is packed has no fault.
abbrev pub NoFaultWherePlaced : Type 0
NoFaultWherePlaced = (text : List ℕ) (k : Packed) (e : TextError) → IsPlaced text k → HasPlacingFault text e → ⊥

-- The program of a packed text has no violation.
abbrev pub PlacedHasNoViolation : Type 0
PlacedHasNoViolation = (text : List ℕ) (k : Packed) → IsPlaced text k → IsProgram k.program × HasNoViolation k.program

-- The place of the n-th instruction.
abbrev pub nth_place : Packed → ℕ → Place
nth_place k n = slice_index_or k.places n (first_of 0)

-- The places of the instructions rise; each holds the instruction of the text, with its target put in as the bundle that
-- has the instruction behind its label; every other place holds a nop.
pub record KeepsText (text : List ℕ) (k : Packed) : Type 0 where
  pub loose : Loose
  pub reads : ReadsLoose text loose
  pub count : length k.places ≡ length loose.items
  pub rises : (m n : ℕ) → m < n → n < length k.places → IsBefore (nth_place k m) (nth_place k n)
  pub kept : (n : ℕ) → n < length k.places → insn_at k.program.bundles (nth_place k n)
      ≡ slice_get (targeted (λ m. (nth_place k m).bundle) loose) n
  pub fillers : (place : Place) (i : Insn) → insn_at k.program.bundles place ≡ Some i → Contains k.places place ⊎ IsFiller i

abbrev pub PlacedKeepsText : Type 0
PlacedKeepsText = (text : List ℕ) (k : Packed) → IsPlaced text k → KeepsText text k
