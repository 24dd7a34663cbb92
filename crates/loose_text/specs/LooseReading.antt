-- What a loose text says, or its first fault.
use Rattle.std.specs.Prelude.{◌≡◌, ℕ, ◌+◌, ◌≤◌, if◌then◌else◌, List, [], ◌∷◌, map, length, Option, Some, None, is_some}
use Rattle.first_fault.specs.Stages.{Stage, unless, ArePassed}
use Rattle.asm_build.specs.declared.address.Address.{Address}
use Rattle.asm_build.specs.declared.reason.Reason.TheVariants.{Misplaced, Empty}
use Rattle.asm_build.specs.declared.reason.TextError.{TextError}
use Rattle.asm_build.specs.declared.reason.TextError.TheVariants.{Fault}
use Rattle.asm_build.specs.Names.{named, all_declared, earlier, or_none, padded}
use Rattle.asm_build.specs.Relations.{all_related, relation_stages}
use Rattle.asm_build.specs.TextParts.{Labels, address_of, AreLabelsBelow}
use Rattle.asm_build.specs.TextReading.{text_lines, found, first_of, LineReading, AllSayBy, HasFaultBy}
use Rattle.loose_text.specs.declared.item.ItemLine.{ItemLine}
use Rattle.loose_text.specs.LooseParts.{LooseParts, start, items_of, after, value_stages}
use Rattle.loose_text.specs.LooseTexts.{Loose, IsItemEntry}

-- The line of the first instruction whose name means nothing that fits, of which the first is the n-th.
abbrev pub unnamed_item : Labels → ℕ → List ItemLine → Option ℕ
unnamed_item labels n [] = None
unnamed_item labels n (l ∷ ls) =
    if is_some (named labels n l.item.insn.op l.target) then unnamed_item labels (n + 1) ls else Some l.item.line

-- The first line with a name that means nothing that fits, or with a declared entry past the last.
abbrev pub name_fault : LooseParts → Option TextError
name_fault s =
    earlier (unnamed_item s.declared.labels 0 s.items) (all_declared s.declared.labels [] s.declared.entries)

-- What the name of a target names.
abbrev pub target_of : Labels → Option (List ℕ) → Option Address
target_of labels None = None
target_of labels (Some name) = address_of labels name

-- The loose text that the lines say.
abbrev pub loose_of : LooseParts → Loose
loose_of s =
    record {
      items = items_of s.items;
      targets = map (λ l. target_of s.declared.labels l.target) s.items;
      entries = or_none (all_declared s.declared.labels [] s.declared.entries);
      relations = all_related [] s.declared.relations;
      bytes =
          padded s.declared.bytes;
    }

-- What is looked for after the last line, in this order: a label of text without an instruction, that there are
-- instructions, names, and relations. `count` lines were read.
abbrev pub end_stages : ℕ → LooseParts → List (Stage TextError)
end_stages count s =
    unless (AreLabelsBelow (length s.items) s.declared) (Fault (count + 1) Misplaced)
    ∷ unless (1 ≤ length s.items) (Fault (count + 1) Empty)
    ∷ found (name_fault s)
    ∷ first_of (relation_stages (IsItemEntry (loose_of s).items (loose_of s).entries) [] s.declared.relations)
    ∷ []

-- How a loose text is read.
abbrev pub loose_reading : LineReading LooseParts
loose_reading = record { start = start; after = after; stages = value_stages; ends = end_stages }

-- The text reads as the loose text.
pub record ReadsLoose (text : List ℕ) (t : Loose) : Type 0 where
  pub parts : LooseParts
  pub lines : AllSayBy loose_reading text parts
  pub whole : ArePassed (end_stages (length (text_lines text)) parts)
  pub loose : t ≡ loose_of parts

-- The first fault of a text that is to be a loose text.
abbrev pub HasLooseFault : List ℕ → TextError → Type 0
HasLooseFault text e = HasFaultBy loose_reading text e
