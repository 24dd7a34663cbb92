-- What the lines of a text say, one after the other.
use Rattle.std.specs.Prelude.{◌≡◌, Bool, true, false, ℕ, ◌+◌, ◌<◌, ◌≤◌, List, [], ◌∷◌, ◌++◌, length, take, flat_map, replicate, Option, Some, None, IsSome, IsSomeAnd, IfSome, ⊤, ◌⊎◌}
use Rattle.std.specs.List.{AllByRecursion}
use Rattle.std.specs.Option.{option_map}
use Rattle.std.specs.Int.{w64, to_le_bytes}
use Rattle.std.specs.Map.{lookup, values_of}
use Rattle.std.specs.BTreeMap.{insert_entry, is_at}
use Rattle.std.specs.Cmp.Lexicographic.{slice_cmp}
use Rattle.std.specs.Ordering.{nat_cmp}
use Rattle.first_fault.specs.Stages.{Stage, unless, IsFirstFault}
use Rattle.ia_program.specs.declared.limits.TheConstants.{BUNDLE_LIMIT, DATA_LIMIT}
use Rattle.asm_reading.specs.declared.line.Line.{Line}
use Rattle.asm_reading.specs.declared.line.Line.TheVariants as line
use Rattle.asm_build.specs.declared.address.Address.{Address}
use Rattle.asm_build.specs.declared.address.Address.TheVariants.{Bundle, Byte}
use Rattle.asm_build.specs.declared.draft.BundleLines.{BundleLines}
use Rattle.asm_build.specs.OpenSlots as slots
use Rattle.asm_build.specs.declared.text_parts.EntryLine.{EntryLine}
use Rattle.asm_build.specs.declared.text_parts.RelationLine.{RelationLine}
use Rattle.asm_build.specs.declared.text_parts.Section.{Section}
use Rattle.asm_build.specs.declared.text_parts.Section.TheVariants as section
use Rattle.asm_build.specs.declared.reason.Reason.{Reason}
use Rattle.asm_build.specs.declared.reason.Reason.TheVariants.{Misplaced, Twice, Template, SlotKind, Limit}
use Rattle.asm_build.specs.declared.reason.TextError.{TextError}
use Rattle.asm_build.specs.declared.reason.TextError.TheVariants as error
use Rattle.asm_build.specs.Addresses.{IsInside, IsReachable}
use Rattle.asm_build.specs.Drafts.{OpenBundle, HasSlot, HasSlotRoom, FitsNext, added, stopped, closed, IsWhole}

-- Labels and what they name, in the order of the labels.
abbrev pub Labels : Type 0
Labels = List (List ℕ × Address)

-- What the lines so far say: whether bundles or data are being written, the bundle that is open, the
-- bundles, the declared entries, the declared relations, the labels, and the data.
pub record TextParts : Type 0 where
  pub section : Section
  pub current : Option OpenBundle
  pub bundles : List BundleLines
  pub entries : List EntryLine
  pub relations : List RelationLine
  pub labels : Labels
  pub bytes : List ℕ

-- The bundle that is open, where one is.
abbrev pub current_of : Bool → OpenBundle → Option OpenBundle
current_of true o = Some o
current_of false o = None

-- What no lines say.
abbrev pub start : TextParts
start = record { section = section.Text; current = None; bundles = []; entries = []; relations = []; labels = []; bytes = [] }

-- What a label names.
abbrev pub address_of : Labels → List ℕ → Option Address
address_of labels name = lookup (is_at (slice_cmp nat_cmp name)) labels

-- The bytes of the numbers of a data line: `size` bytes of each, the lowest first.
abbrev pub numbers_bytes : ℕ → List ℕ → List ℕ
numbers_bytes size values = flat_map (λ v. take size (to_le_bytes w64 v)) values

-- What lines say, with another section.
abbrev pub turned : TextParts → Section → TextParts
turned s section =
    record {
      section = section;
      current = s.current;
      bundles = s.bundles;
      entries = s.entries;
      relations = s.relations;
      labels = s.labels;
      bytes = s.bytes;
    }

abbrev pub with_open : TextParts → Option OpenBundle → TextParts
with_open s bundle =
    record {
      section = s.section;
      current = bundle;
      bundles = s.bundles;
      entries = s.entries;
      relations = s.relations;
      labels = s.labels;
      bytes = s.bytes;
    }

abbrev pub with_label : TextParts → List ℕ → Address → TextParts
with_label s name address =
    record {
      section = s.section;
      current = s.current;
      bundles = s.bundles;
      entries = s.entries;
      relations = s.relations;
      labels = insert_entry (slice_cmp nat_cmp) s.labels name address;
      bytes = s.bytes;
    }

abbrev pub with_bytes : TextParts → List ℕ → TextParts
with_bytes s more =
    record {
      section = s.section;
      current = s.current;
      bundles = s.bundles;
      entries = s.entries;
      relations = s.relations;
      labels = s.labels;
      bytes = s.bytes ++ more;
    }

abbrev pub with_entry : TextParts → EntryLine → TextParts
with_entry s entry =
    record {
      section = s.section;
      current = s.current;
      bundles = s.bundles;
      entries = s.entries ++ entry ∷ [];
      relations = s.relations;
      labels = s.labels;
      bytes = s.bytes;
    }

abbrev pub with_relation : TextParts → RelationLine → TextParts
with_relation s relation =
    record {
      section = s.section;
      current = s.current;
      bundles = s.bundles;
      entries = s.entries;
      relations = s.relations ++ relation ∷ [];
      labels = s.labels;
      bytes = s.bytes;
    }

abbrev pub with_bundle : TextParts → Option BundleLines → TextParts
with_bundle s None = s
with_bundle s (Some b) =
    record {
      section = s.section;
      current = None;
      bundles = s.bundles ++ b ∷ [];
      entries = s.entries;
      relations = s.relations;
      labels = s.labels;
      bytes = s.bytes;
    }

abbrev pub closed_of : Option OpenBundle → Option BundleLines
closed_of None = None
closed_of (Some o) = closed o

-- What a label in a section names: in text the address of what comes next, and in data the next byte.
abbrev pub address_in : Section → Address → List ℕ → Address
address_in section.Text next bytes = next
address_in section.Data next bytes = Byte (length bytes)

abbrev pub address_before : TextParts → Address → Address
address_before s next = address_in s.section next s.bytes

-- What a label that stands here names, where the next thing in text is a bundle.
abbrev pub here : TextParts → Address
here s = address_before s (Bundle (length s.bundles))

-- What the lines say after one more outside bundles, the n-th, where what comes next in text has this number.
abbrev pub after_outside : TextParts → ℕ → ℕ → Line → TextParts
after_outside s next n (line.Label name) = with_label s name (address_before s (Bundle next))
after_outside s next n line.Text = turned s section.Text
after_outside s next n line.Data = turned s section.Data
after_outside s next n (line.Entry name) = with_entry s (record { line = n; name = name })
after_outside s next n (line.Relation predicates) =
    with_relation s (record { line = n; bundle = next; predicates = predicates })
after_outside s next n (line.Numbers size values) = with_bytes s (numbers_bytes size values)
after_outside s next n (line.Skip count) = with_bytes s (replicate count 0)
after_outside s next n value = s

-- What the lines say after one more, the n-th. What comes next in text is a bundle.
abbrev pub after : TextParts → ℕ → Line → TextParts
after s n (line.Open name) = with_open s (Some (record { name = name; slots = slots.Zero }))
after s n (line.Slot draft stop) = with_open s (option_map (λ o. added o n draft stop) s.current)
after s n line.Stop = with_open s (option_map stopped s.current)
after s n line.Close = with_bundle s (closed_of s.current)
after s n value = after_outside s (length s.bundles) n value

-- Outside a bundle, where bundles or data are being written.
pub record IsIn (section : Section) (s : TextParts) : Type 0 where
  pub closed : s.current ≡ None
  pub same : s.section ≡ section

-- A line may stand here: slots, stops and `}` within a bundle, and a stop after a slot; bundles and relations in text,
-- data in data, all else but blank lines outside a bundle.
abbrev pub MayStand : TextParts → Line → Type 0
MayStand s line.Empty = ⊤
MayStand s (line.Relation predicates) = IsIn section.Text s
MayStand s (line.Numbers size values) = IsIn section.Data s
MayStand s (line.Skip count) = IsIn section.Data s
MayStand s (line.Open name) = IsIn section.Text s
MayStand s (line.Slot draft stop) = IsSome s.current
MayStand s line.Stop = IsSomeAnd s.current HasSlot
MayStand s line.Close = IsSome s.current
MayStand s value = s.current ≡ None

-- A label is not there yet.
abbrev pub IsNew : TextParts → Line → Type 0
IsNew s (line.Label name) = address_of s.labels name ≡ None
IsNew s value = ⊤

-- The open bundle has room for one more slot, and is whole where it is closed.
abbrev pub HasTemplate : TextParts → Line → Type 0
HasTemplate s (line.Slot draft stop) = IfSome s.current HasSlotRoom
HasTemplate s line.Close = IfSome s.current IsWhole
HasTemplate s value = ⊤

-- An instruction fits its slot.
abbrev pub FitsSlot : TextParts → Line → Type 0
FitsSlot s (line.Slot draft stop) = IfSome s.current (λ o. FitsNext o draft)
FitsSlot s value = ⊤

-- There is room for a bundle and for data.
abbrev pub HasRoom : TextParts → Line → Type 0
HasRoom s (line.Open name) = length s.bundles < BUNDLE_LIMIT
HasRoom s (line.Numbers size values) = length s.bytes + length (numbers_bytes size values) ≤ DATA_LIMIT
HasRoom s (line.Skip count) = length s.bytes + count ≤ DATA_LIMIT
HasRoom s value = ⊤

-- What is looked for in what a line says, after the lines before it, in this order.
abbrev pub value_stages : TextParts → Line → List (Stage Reason)
value_stages s value =
    unless (MayStand s value) Misplaced
    ∷ unless (IsNew s value) Twice
    ∷ unless (HasTemplate s value) Template
    ∷ unless (FitsSlot s value) SlotKind
    ∷ unless (HasRoom s value) Limit
    ∷ []

-- The error of what the n-th line says: its first fault, or want of memory.
abbrev pub IsValueError : TextParts → ℕ → Line → TextError → Type 0
IsValueError s n value e =
    (e ≡ error.Memory) ⊎ ((reason : Reason) × (e ≡ error.Fault n reason) × IsFirstFault (value_stages s value) reason)

-- Each label of the text names a byte of data, or one of the first `count` bundles.
abbrev pub AreLabelsBelow : ℕ → TextParts → Type 0
AreLabelsBelow count s = AllByRecursion (IsInside count) (values_of s.labels)

-- Each label of the text has a bundle.
abbrev pub AreLabelsInside : TextParts → Type 0
AreLabelsInside s = AreLabelsBelow (length s.bundles) s

-- At most as many bundles as a program may have, with the open one, and as many data, and labels of these.
pub record IsWithinLimits (s : TextParts) : Type 0 where
  pub current : IsSome s.current → length s.bundles < BUNDLE_LIMIT
  pub bundles : length s.bundles ≤ BUNDLE_LIMIT
  pub labels : AllByRecursion IsReachable (values_of s.labels)
  pub bytes : length s.bytes ≤ DATA_LIMIT
