-- A text reads as a program or has a first fault.
use Rattle.std.proofs.Common.{inl, inr, refl, ℕ, List, [], length}
use Rattle.std.proofs.Math.Decide.{dec_le}
use Rattle.first_fault.proofs.Laws.{AreDecided}
use Rattle.ia_program.specs.Programs.{IsEntryOf}
use Rattle.insn_rows.proofs.Decided.{both, is_none}
use Rattle.asm_build.specs.Names.{name_fault, program_of}
use Rattle.asm_build.specs.Laws.{TextOrFault}
use Rattle.asm_build.specs.Relations.{relation_stages}
use Rattle.asm_build.specs.TextParts.{TextParts}
use Rattle.asm_build.specs.TextReading.{end_stages, program_reading}
use Rattle.asm_build.proofs.DecidedLines.{decided, value_decided}
use Rattle.asm_build.proofs.DecidedRuns.{long_run_or_none}
use Rattle.asm_build.proofs.EndFaults.{end_of_line}
use Rattle.asm_build.proofs.RelationFaults.{is_entry, relations_decided}
use Rattle.asm_build.proofs.SomeReading.{HaveAnswers, read_or_fault, labels_below, found_decided, first_decided}

relations : (s : TextParts) → AreDecided (relation_stages (IsEntryOf (program_of s).bundles (program_of s).entries) [] s.relations)
relations s =
    relations_decided (IsEntryOf (program_of s).bundles (program_of s).entries) (is_entry (program_of s).bundles (program_of s).entries)
    [] s.relations

end_decided : (count : ℕ) (s : TextParts) → AreDecided (end_stages count s)
end_decided count s = (
  decided (both (is_none s.current) (labels_below (length s.bundles) s)),
  (
    decided (dec_le 1 (length s.bundles)),
    (
      found_decided (name_fault s),
      (first_decided _ (relations s), (long_run_or_none (program_of s).bundles, tt)),
    ),
  ),
)

pub text_or_fault : HaveAnswers → (text : List ℕ) → TextOrFault text
text_or_fault answers text =
    elim (read_or_fault answers program_reading (record { stages = value_decided; ends = end_decided; lines = end_of_line }) text) [
      | inl (s, says, whole) ↦ inl (program_of s, record { parts = s; lines = says; whole = whole; program = refl })
      | inr (line, why, has) ↦ inr (line, why, has)
    ]
