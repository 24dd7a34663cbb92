-- The names of targets and entries: which bundles and bytes they mean.
use Rattle.std.specs.Prelude.{ℕ, ◌+◌, ◌-◌, ◌%◌, nat_lt, ◌==◌, Bool, not, ◌&&◌, if◌then◌else◌, List, [], ◌∷◌, ◌++◌, length, replicate, find, slice_get, Option, Some, None, is_some, unwrap_or, Result, Ok, Err}
use Rattle.std.specs.Option.{option_map}
use Rattle.std.specs.BTreeSet.{insert_key}
use Rattle.std.specs.Ordering.{nat_cmp}
use Rattle.ia_insn.specs.declared.insn.Insn.{Insn}
use Rattle.ia_insn.specs.declared.insn.Op.{Op}
use Rattle.ia_insn.specs.Displacements.{displacement}
use Rattle.ia_program.specs.declared.limits.TheConstants.{ENTRY_LIMIT}
use Rattle.ia_program.specs.declared.place.Place.{Place}
use Rattle.ia_program.specs.declared.bundle.Slots.{Slots}
use Rattle.ia_program.specs.declared.bundle.Slots.TheVariants.{Three, Long}
use Rattle.ia_program.specs.Bundles.{Bundle}
use Rattle.ia_program.specs.Programs.{Program}
use Rattle.asm_build.specs.declared.address.Address.{Address}
use Rattle.asm_build.specs.declared.address.Address.TheVariants as address
use Rattle.asm_build.specs.declared.draft.BundleLines.{BundleLines}
use Rattle.asm_build.specs.declared.draft.SlotName.{SlotName}
use Rattle.asm_build.specs.declared.text_parts.EntryLine.{EntryLine}
use Rattle.asm_build.specs.declared.reason.TextError.{TextError}
use Rattle.asm_build.specs.declared.reason.TextError.TheVariants as error
use Rattle.asm_build.specs.declared.reason.Reason.TheVariants.{NoLabel, Limit}
use Rattle.asm_build.specs.Addresses.{addressed}
use Rattle.asm_build.specs.Relations.{all_related}
use Rattle.asm_build.specs.TextParts.{TextParts, Labels, address_of}

abbrev pub addressed_by : Option Address → Op → ℕ → Option Op
addressed_by None x n = None
addressed_by (Some a) x n = addressed x a n

-- The operation in the n-th bundle with the address of its name put in. None where no label that fits has
-- the name, and for a direct branch or check without a name, which no line has.
abbrev pub named : Labels → ℕ → Op → Option (List ℕ) → Option Op
named labels n x None = if is_some (displacement x) then None else Some x
named labels n x (Some name) = addressed_by (address_of labels name) x n

-- A slot by its instruction and its name.
abbrev pub is_named : Labels → ℕ → Insn × SlotName → Bool
is_named labels n s = is_some (named labels n s.0.op s.1.target)

-- The instruction with the address of its name, where it has one.
abbrev pub put_in : Labels → ℕ → Insn → SlotName → Insn
put_in labels n i name = record { qp = i.qp; op = unwrap_or (named labels n i.op name.target) i.op }

-- An instruction has no name and needs none.
abbrev pub stays : Insn → SlotName → Bool
stays i name = not (is_some name.target) && not (is_some (displacement i.op))

-- No instruction of a bundle has a name or needs one.
abbrev pub all_stay : Slots → BundleLines → Bool
all_stay (Three i j k) b = stays i b.first && (stays j b.second && stays k b.third)
all_stay (Long i j) b = stays i b.first && stays j b.second

-- The slots of a bundle with their names.
abbrev pub slot_names : Slots → BundleLines → List (Insn × SlotName)
slot_names (Three i j k) b = (i, b.first) ∷ (j, b.second) ∷ (k, b.third) ∷ []
slot_names (Long i j) b = (i, b.first) ∷ (j, b.second) ∷ []

-- The line of the first slot of the n-th bundle whose name means nothing that fits.
abbrev pub unnamed_among : Labels → ℕ → List (Insn × SlotName) → Option ℕ
unnamed_among labels n slots = option_map (λ s. s.1.line) (find (λ s. not (is_named labels n s)) slots)

abbrev pub unnamed_slot : Labels → ℕ → BundleLines → Option ℕ
unnamed_slot labels n b = unnamed_among labels n (slot_names b.bundle.slots b)

abbrev pub or_else : Option ℕ → Option ℕ → Option ℕ
or_else None other = other
or_else (Some line) other = Some line

-- The line of the first slot, in bundles from the n-th on, whose name means nothing that fits.
abbrev pub unnamed_bundle : Labels → ℕ → List BundleLines → Option ℕ
unnamed_bundle labels n [] = None
unnamed_bundle labels n (b ∷ bs) = or_else (unnamed_slot labels n b) (unnamed_bundle labels (n + 1) bs)

-- The slots with the addresses of their names.
abbrev pub slots_named : Labels → ℕ → Slots → BundleLines → Slots
slots_named labels n (Three i j k) b =
    Three (put_in labels n i b.first) (put_in labels n j b.second) (put_in labels n k b.third)
slots_named labels n (Long i j) b = Long (put_in labels n i b.first) (put_in labels n j b.second)

abbrev pub bundle_named : Labels → ℕ → BundleLines → Bundle
bundle_named labels n b =
    record { template = b.bundle.template; slots = slots_named labels n b.bundle.slots b }

-- Bundles, the first of which is the n-th, with the addresses of their names.
abbrev pub bundles_named : Labels → ℕ → List BundleLines → List Bundle
bundles_named labels n [] = []
bundles_named labels n (b ∷ bs) = bundle_named labels n b ∷ bundles_named labels (n + 1) bs

-- The number of the bundle that a declared entry names.
abbrev pub bundle_at : Option Address → Option ℕ
bundle_at (Some (address.Bundle n)) = Some n
bundle_at a = None

-- The entries with one more; bundle 0 is an entry without being declared.
abbrev pub declared : List ℕ → ℕ → List ℕ
declared entries n = if n == 0 then entries else insert_key nat_cmp entries n

abbrev pub within_limit : ℕ → List ℕ → Result (List ℕ) TextError
within_limit line entries = if nat_lt ENTRY_LIMIT (length entries) then Err (error.Fault line Limit) else Ok entries

-- The entries with the one that a line names.
abbrev pub declared_by : Option ℕ → ℕ → List ℕ → Result (List ℕ) TextError
declared_by None line entries = Err (error.Fault line NoLabel)
declared_by (Some n) line entries = within_limit line (declared entries n)

abbrev pub and_then : Result (List ℕ) TextError → (List ℕ → Result (List ℕ) TextError) → Result (List ℕ) TextError
and_then (Ok entries) next = next entries
and_then (Err e) next = Err e

-- The declared entries, rising, with those that lines name, or the first of these lines with a fault.
abbrev pub all_declared : Labels → List ℕ → List EntryLine → Result (List ℕ) TextError
all_declared labels entries [] = Ok entries
all_declared labels entries (e ∷ es) =
    and_then (declared_by (bundle_at (address_of labels e.name)) e.line entries) (λ more. all_declared labels more es)

-- Of two faults of lines, that of the earlier one.
abbrev pub earlier_of : TextError → TextError → TextError
earlier_of (error.Fault line reason) (error.Fault other why) =
    if nat_lt other line then error.Fault other why else error.Fault line reason
earlier_of e f = e

abbrev pub no_label : ℕ → TextError
no_label line = error.Fault line NoLabel

abbrev pub earlier : Option ℕ → Result (List ℕ) TextError → Option TextError
earlier None (Ok entries) = None
earlier None (Err e) = Some e
earlier (Some line) (Ok entries) = Some (no_label line)
earlier (Some line) (Err e) = Some (earlier_of (no_label line) e)

-- The first line with a name that means nothing that fits, or with a declared entry past the last.
abbrev pub name_fault : TextParts → Option TextError
name_fault s = earlier (unnamed_bundle s.labels 0 s.bundles) (all_declared s.labels [] s.entries)

abbrev pub or_none : Result (List ℕ) TextError → List ℕ
or_none (Ok entries) = entries
or_none (Err e) = []

-- Data with zeros up to a multiple of eight.
abbrev pub padded : List ℕ → List ℕ
padded bytes = bytes ++ replicate ((8 - length bytes % 8) % 8) 0

-- The program that the lines say.
abbrev pub program_of : TextParts → Program
program_of s =
    record {
      bundles = bundles_named s.labels 0 s.bundles;
      entries = or_none (all_declared s.labels [] s.entries);
      bytes = padded s.bytes;
      relations = all_related [] s.relations;
    }

-- The line of a slot.
abbrev pub slot_line : ℕ → BundleLines → ℕ
slot_line slot b = if slot == 0 then b.first.line else if slot == 1 then b.second.line else b.third.line

abbrev pub line_at : List BundleLines → Place → ℕ
line_at bundles place = unwrap_or (option_map (slot_line place.slot) (slice_get bundles place.bundle)) 0
