-- A text comes to one loose text or to one fault, and not to both.
use Rattle.std.proofs.Common.{◌∙◌, sym, ap, ℕ, []}
use Rattle.first_fault.proofs.Laws.{AreSound, unless_sound}
use Rattle.asm_reading.specs.declared.line.Line.{Line}
use Rattle.asm_build.proofs.OneReading.{HaveOneAnswer, IsSoundReading, one_state, one_fault_by, no_fault_by, found_sound, first_sound, relations_sound}
use Rattle.loose_text.specs.Laws.{OneLooseText, OneLooseFault, NoLooseFaultWhereRead}
use Rattle.loose_text.specs.LooseParts.{LooseParts, value_stages}
use Rattle.loose_text.specs.LooseReading.{name_fault, loose_of, end_stages, loose_reading}
use Rattle.loose_text.specs.LooseTexts.{IsItemEntry}

value_sound : (s : LooseParts) (v : Line) → AreSound (value_stages s v)
value_sound s v = (unless_sound _ _, (unless_sound _ _, (unless_sound _ _, (unless_sound _ _, tt))))

end_sound : (count : ℕ) (s : LooseParts) → AreSound (end_stages count s)
end_sound count s = (
  unless_sound _ _,
  (
    unless_sound _ _,
    (
      found_sound (name_fault s),
      (first_sound _ (relations_sound (IsItemEntry (loose_of s).items (loose_of s).entries) [] s.declared.relations), tt),
    ),
  ),
)

sound : IsSoundReading loose_reading
sound = record { stages = value_sound; ends = end_sound }

-- The three laws.
pub one_loose : HaveOneAnswer → OneLooseText
one_loose one text s t a b =
    a.loose ∙ ap loose_of (one_state one loose_reading sound text a.parts b.parts a.lines b.lines) ∙ sym b.loose

pub one_fault : HaveOneAnswer → OneLooseFault
one_fault one text e f a b = one_fault_by one loose_reading sound text e f a b

pub none_where_read : HaveOneAnswer → NoLooseFaultWhereRead
none_where_read one text t e r fault = no_fault_by one loose_reading sound text r.parts e r.lines r.whole fault
