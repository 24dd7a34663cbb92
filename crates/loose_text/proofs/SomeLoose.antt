-- A text reads as a loose text or has a first fault.
use Rattle.std.proofs.Common.{◌∙◌, inl, inr, refl, sym, subst, ℕ, ◌+◌, ◌-◌, Bool, true, false, List, [], length, Option}
use Rattle.std.specs.Prelude.{IfSome, IsTrue, slice_get}
use Rattle.std.proofs.Math.Decide.{ℕ_discrete, dec_le, dec_lt}
use Rattle.first_fault.specs.Stages.{IsFirstFault}
use Rattle.first_fault.proofs.Laws.{AreDecided}
use Rattle.ia_insn.specs.declared.insn.Op.{Op}
use Rattle.ia_insn.specs.declared.insn.Op.TheVariants as op
use Rattle.ia_program.specs.declared.limits.TheConstants.{BUNDLE_LIMIT}
use Rattle.insn_rows.proofs.Decided.{alike, both, either, some_and, contains}
use Rattle.asm_reading.specs.declared.line.Line.{Line}
use Rattle.asm_reading.specs.declared.line.Line.TheVariants as line
use Rattle.asm_build.specs.declared.reason.Reason.TheVariants as reason
use Rattle.asm_build.specs.declared.reason.TextError.{TextError}
use Rattle.asm_build.specs.declared.text_parts.Section.TheVariants as section
use Rattle.asm_build.specs.Names.{all_declared}
use Rattle.asm_build.proofs.DecidedLines as decided_outside
use Rattle.asm_build.proofs.DecidedLines.{decided, is_in}
use Rattle.asm_build.proofs.EndFaults.{IsOfLine, of_entries, of_names, of_relations}
use Rattle.asm_build.proofs.RelationFaults.{is_call, relations_decided}
use Rattle.asm_build.proofs.SomeReading.{HaveAnswers, read_or_fault, labels_below, found_decided, first_decided}
use Rattle.loose_items.specs.declared.item.Item.{Item}
use Rattle.loose_text.specs.Laws.{LooseTextOrFault}
use Rattle.loose_text.specs.LooseParts.{LooseParts, IsNarrow, HasNarrowNumber, MayStand, HasRoom, value_stages}
use Rattle.loose_text.specs.LooseReading.{unnamed_item, name_fault, loose_of, end_stages, loose_reading}
use Rattle.loose_text.specs.LooseTexts.{IsAfterCall, IsItemEntry}
use Rattle.loose_items.specs.Packings.{plain_of}

-- What a line says.
is_narrow : (x : Op) → Dec (IsNarrow x)
is_narrow (op.Break u imm) = dec_lt imm _
is_narrow (op.Nop u imm) = dec_lt imm _
is_narrow x = yes tt

narrow_where : (bare : Bool) (x : Op) → Dec (IsTrue bare → IsNarrow x)
narrow_where true x = alike (is_narrow x) (λ h is. h) (λ h. h refl)
narrow_where false x = yes (λ never. cc)

has_narrow_number : (value : Line) → Dec (HasNarrowNumber value)
has_narrow_number (line.Slot draft stop) = narrow_where draft.bare draft.insn.op
has_narrow_number value = yes tt

may_stand : (s : LooseParts) (value : Line) → Dec (MayStand s value)
may_stand s (line.Open name) = no (λ h. h)
may_stand s line.Close = no (λ h. h)
may_stand s (line.Slot draft stop) = is_in section.Text s.declared
may_stand s line.Stop = both (is_in section.Text s.declared) (dec_le 1 (length s.items))
may_stand s value = decided_outside.may_stand s.declared value

has_room : (s : LooseParts) (value : Line) → Dec (HasRoom s value)
has_room s (line.Slot draft stop) = dec_le (length (plain_of _)) BUNDLE_LIMIT
has_room s value = decided_outside.has_room s.declared value

value_decided : (s : LooseParts) (value : Line) → AreDecided (value_stages s value)
value_decided s value = (
  decided (has_narrow_number value),
  (decided (may_stand s value), (decided (decided_outside.is_new s.declared value), (decided (has_room s value), tt))),
)

-- What is looked for after the last line.
is_after_call : (items : List Item) (n : ℕ) → Dec (IsAfterCall items n)
is_after_call items n = both (dec_le 1 n) (some_and (slice_get items (n - 1)) (λ i. is_call i.insn.op))

is_entry : (items : List Item) (entries : List ℕ) (n : ℕ) → Dec (IsItemEntry items entries n)
is_entry items entries n =
    alike (both (dec_lt n (length items)) (either (ℕ_discrete n 0) (either (contains entries n) (is_after_call items n))))
    (λ h. record { inside = h.0; kind = h.1 }) (λ h. (h.inside, h.kind))

end_decided : (count : ℕ) (s : LooseParts) → AreDecided (end_stages count s)
end_decided count s = (
  decided (labels_below (length s.items) s.declared),
  (
    decided (dec_le 1 (length s.items)),
    (
      found_decided (name_fault s),
      (
        first_decided _ (relations_decided (IsItemEntry (loose_of s).items (loose_of s).entries)
            (is_entry (loose_of s).items (loose_of s).entries) [] s.declared.relations),
        tt,
      ),
    ),
  ),
)

-- The faults after it are of a line.
name_of_line : (s : LooseParts) → IfSome (name_fault s) IsOfLine
name_of_line s =
    of_names (unnamed_item s.declared.labels 0 s.items) (all_declared s.declared.labels [] s.declared.entries)
    (of_entries s.declared.labels [] s.declared.entries)

end_of_line : (count : ℕ) (s : LooseParts) (e : TextError) → IsFirstFault (end_stages count s) e → IsOfLine e
end_of_line count s e (inl (key, is, open_still)) = (count + 1, reason.Misplaced, is)
end_of_line count s e (inr (closed, inl (key, is, empty))) = (count + 1, reason.Empty, is)
end_of_line count s e (inr (closed, inr (some, inl (named, is, found)))) =
    let h : IsOfLine named = subst (λ (o : Option TextError). IfSome o IsOfLine) found (name_of_line s) in
    (h.0, h.1, is ∙ h.2)
end_of_line count s e (inr (closed, inr (some, inr (none, inl (related, is, found))))) =
    subst IsOfLine (sym is) (of_relations (IsItemEntry (loose_of s).items (loose_of s).entries) [] s.declared.relations related found)
end_of_line count s e (inr (closed, inr (some, inr (none, inr (relations, never))))) = absurd never

pub loose_or_fault : HaveAnswers → (text : List ℕ) → LooseTextOrFault text
loose_or_fault answers text =
    elim (read_or_fault answers loose_reading (record { stages = value_decided; ends = end_decided; lines = end_of_line }) text) [
      | inl (s, says, whole) ↦ inl (loose_of s, record { parts = s; lines = says; whole = whole; loose = refl })
      | inr (line, why, has) ↦ inr (line, why, has)
    ]
