-- What `stops` prints.
use Rattle.std.specs.Prelude.{◌≡◌, ℕ, List, ◌++◌, codes, flat_map}
use Rattle.ia_program.specs.Programs.{Program, IsProgram}
use Rattle.ia_program.specs.Texts.{place_text}
use Rattle.ia_meaning.specs.StateText.{line}
use Rattle.order_laws.specs.Violations.{HasNoViolation}
use Rattle.asm_build.specs.CanonicalText.{canonical_text}
use Rattle.stop_placer.specs.declared.packed.Why.{Why}
use Rattle.stop_placer.specs.declared.packed.Why.TheVariants.{Written, Long, Pair}
use Rattle.stop_placer.specs.declared.packed.StopWhy.{StopWhy}
use Rattle.stop_placer.specs.Packed.{Packed}
use Rattle.stop_placer.specs.Laws.{KeepsText}
use Rattle.stop_placer.specs.Placing.{IsPlaced}
use Rattle.ia64_top.specs.Texts.{violation_text}

-- Why a stop stands where it does: of a pair the violation that it prevents.
abbrev pub why_text : Why → List ℕ
why_text Written = codes "written"
why_text Long = codes "long"
why_text (Pair v) = violation_text v

-- A stop as a comment: the place that it follows, and why.
abbrev pub stop_text : StopWhy → List ℕ
stop_text s = codes "// " ++ place_text s.after ++ codes " " ++ why_text s.why

-- The canonical text of the program, and a line for each stop.
abbrev pub packed_text : Packed → List ℕ
packed_text k = canonical_text k.program ++ flat_map (λ s. line (stop_text s)) k.stops

-- The text is that of the program into which the input is packed, with the reason of each stop. It has no violation, and
-- has the instructions of the input, in order, with nops beside them.
pub record IsPackedText (input : List ℕ) (program : Program) (text : List ℕ) : Type 0 where
  pub packed : Packed
  pub placed : IsPlaced input packed
  pub is : packed.program ≡ program
  pub valid : IsProgram program
  pub free : HasNoViolation program
  pub keeps : KeepsText input packed
  pub printed : text ≡ packed_text packed
