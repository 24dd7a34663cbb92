-- The text of a program comes to one program or to one fault, and not to both.
use Rattle.std.proofs.Common.{◌∙◌, sym, ap, ℕ, []}
use Rattle.first_fault.proofs.Laws.{AreSound, unless_sound}
use Rattle.ia_program.specs.Programs.{IsEntryOf}
use Rattle.ia_program.proofs.ProgramFaults.{one_first_bad}
use Rattle.asm_reading.specs.declared.line.Line.{Line}
use Rattle.asm_build.specs.Laws.{OneTextProgram, OneTextFault, NoFaultWhereRead}
use Rattle.asm_build.specs.Names.{name_fault, program_of}
use Rattle.asm_build.specs.TextParts.{TextParts, value_stages}
use Rattle.asm_build.specs.TextReading.{end_stages, program_reading}
use Rattle.asm_build.proofs.OneReading.{HaveOneAnswer, IsSoundReading, one_state, one_fault_by, no_fault_by, found_sound, first_sound, relations_sound}

value_sound : (s : TextParts) (v : Line) → AreSound (value_stages s v)
value_sound s v = (unless_sound _ _, (unless_sound _ _, (unless_sound _ _, (unless_sound _ _, (unless_sound _ _, tt)))))

end_sound : (count : ℕ) (s : TextParts) → AreSound (end_stages count s)
end_sound count s = (
  unless_sound _ _,
  (
    unless_sound _ _,
    (
      found_sound (name_fault s),
      (
        first_sound _ (relations_sound (IsEntryOf (program_of s).bundles (program_of s).entries) [] s.relations),
        (record { one = λ p q a b. one_first_bad _ _ p q a b; none = λ p a all. a.bad (all p a.is) }, tt),
      ),
    ),
  ),
)

sound : IsSoundReading program_reading
sound = record { stages = value_sound; ends = end_sound }

-- The three laws.
pub one_program : HaveOneAnswer → OneTextProgram
one_program one text p q a b =
    a.program ∙ ap program_of (one_state one program_reading sound text a.parts b.parts a.lines b.lines) ∙ sym b.program

pub one_text : HaveOneAnswer → OneTextFault
one_text one text e f a b = one_fault_by one program_reading sound text e f a b

pub none_where_read : HaveOneAnswer → NoFaultWhereRead
none_where_read one text p e r fault = no_fault_by one program_reading sound text r.parts e r.lines r.whole fault
