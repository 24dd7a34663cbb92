-- What the lines of a loose text say, one after the other.
use Rattle.std.specs.Prelude.{◌≡◌, ℕ, ◌<◌, ◌≤◌, Bool, true, false, IsTrue, ◌||◌, if◌then◌else◌, List, [], ◌∷◌, ◌++◌, map, length, ⊤, ◌⊎◌}
use Rattle.first_fault.specs.Stages.{Stage, unless, IsFirstFault}
use Rattle.ia_insn.specs.declared.insn.Insn.{Insn}
use Rattle.ia_insn.specs.declared.insn.Op.{Op}
use Rattle.ia_insn.specs.declared.insn.Op.TheVariants as op
use Rattle.ia_program.specs.declared.limits.TheConstants.{BUNDLE_LIMIT}
use Rattle.asm_reading.specs.declared.line.Draft.{Draft}
use Rattle.asm_reading.specs.declared.line.Line.{Line}
use Rattle.asm_reading.specs.declared.line.Line.TheVariants as line
use Rattle.asm_build.specs.declared.reason.Reason.{Reason}
use Rattle.asm_build.specs.declared.reason.Reason.TheVariants as reason
use Rattle.asm_build.specs.declared.reason.TextError.{TextError}
use Rattle.asm_build.specs.declared.reason.TextError.TheVariants as error
use Rattle.asm_build.specs.declared.text_parts.Section.{Section}
use Rattle.asm_build.specs.declared.text_parts.Section.TheVariants as section
use Rattle.asm_build.specs.Drafts.{lettered}
use Rattle.asm_build.specs.TextParts as outside
use Rattle.asm_build.specs.TextParts.{TextParts, IsIn, IsNew, after_outside}
use Rattle.loose_items.specs.declared.item.Item.{Item}
use Rattle.loose_items.specs.Packings.{plain_of}
use Rattle.loose_items.specs.Units.{bare_unit}
use Rattle.loose_text.specs.declared.parts.TheConstants.{NARROW_LIMIT}
use Rattle.loose_text.specs.declared.item.ItemLine.{ItemLine}

-- What the lines so far say: the labels, entries, relations and data, the instructions, and whether a label of text or
-- a relation line came after the last of them.
pub record LooseParts : Type 0 where
  pub declared : TextParts
  pub items : List ItemLine
  pub fresh : Bool

-- What no lines say.
abbrev pub start : LooseParts
start = record { declared = outside.start; items = []; fresh = false }

abbrev pub items_of : List ItemLine → List Item
items_of lines = map (λ l. l.item) lines

-- The instruction of a draft.
abbrev pub insn_of : Draft → Insn
insn_of d =
    if d.bare then record { qp = d.insn.qp; op = lettered (bare_unit d.insn.op) d.insn.op } else d.insn

-- The item of a draft on the n-th line.
abbrev pub item_of : Bool → ℕ → Draft → Bool → Item
item_of fresh n draft stop = record { line = n; insn = insn_of draft; breaks = fresh; written = stop }

-- A stop after the last.
abbrev pub last_written : List ItemLine → List ItemLine
last_written [] = []
last_written (l ∷ []) =
    record { item = record { line = l.item.line; insn = l.item.insn; breaks = l.item.breaks; written = true }; target = l.target } ∷ []
last_written (l ∷ m ∷ ls) = l ∷ last_written (m ∷ ls)

abbrev pub is_text : Section → Bool
is_text section.Text = true
is_text section.Data = false

-- A line separates the instructions round it: a label of text, or a relation, which stands in text.
abbrev pub separates : Section → Line → Bool
separates s (line.Label name) = is_text s
separates s (line.Relation predicates) = true
separates s value = false

-- What the lines say after one more, the n-th. What comes next in text is an instruction.
abbrev pub after : LooseParts → ℕ → Line → LooseParts
after s n (line.Slot draft stop) =
    record {
      declared = s.declared;
      items = s.items ++ record { item = item_of s.fresh n draft stop; target = draft.target } ∷ [];
      fresh = false;
    }
after s n line.Stop = record { declared = s.declared; items = last_written s.items; fresh = s.fresh }
after s n value =
    record {
      declared = after_outside s.declared (length s.items) n value;
      items = s.items;
      fresh = separates s.declared.section value || s.fresh;
    }

-- The number of a break or a nop fits a unit other than X.
abbrev pub IsNarrow : Op → Type 0
IsNarrow (op.Break u imm) = imm < NARROW_LIMIT
IsNarrow (op.Nop u imm) = imm < NARROW_LIMIT
IsNarrow x = ⊤

-- The number of a `break` or a `nop` without its unit letter fits a unit other than X, since the unit is then I.
abbrev pub HasNarrowNumber : Line → Type 0
HasNarrowNumber (line.Slot draft stop) = IsTrue draft.bare → IsNarrow draft.insn.op
HasNarrowNumber value = ⊤

-- A line may stand here: there are no bundles, slots and relations stand in text and data in data, and a stop after a
-- slot.
abbrev pub MayStand : LooseParts → Line → Type 0
MayStand s (line.Open name) = ⊥
MayStand s line.Close = ⊥
MayStand s (line.Slot draft stop) = IsIn section.Text s.declared
MayStand s line.Stop = IsIn section.Text s.declared × (1 ≤ length s.items)
MayStand s value = outside.MayStand s.declared value

-- There is room for an instruction, in a bundle of the plain packing, and for data. (No line number counts for this.).
abbrev pub HasRoom : LooseParts → Line → Type 0
HasRoom s (line.Slot draft stop) = length (plain_of (items_of s.items ++ item_of s.fresh 0 draft stop ∷ [])) ≤ BUNDLE_LIMIT
HasRoom s value = outside.HasRoom s.declared value

-- What is looked for in what a line says, by itself and then after the lines before it, in this order.
abbrev pub value_stages : LooseParts → Line → List (Stage Reason)
value_stages s value =
    unless (HasNarrowNumber value) reason.Range
    ∷ unless (MayStand s value) reason.Misplaced
    ∷ unless (IsNew s.declared value) reason.Twice
    ∷ unless (HasRoom s value) reason.Limit
    ∷ []

-- The error of what the n-th line says: its first fault, or want of memory.
abbrev pub IsValueError : LooseParts → ℕ → Line → TextError → Type 0
IsValueError s n value e =
    (e ≡ error.Memory) ⊎ ((why : Reason) × (e ≡ error.Fault n why) × IsFirstFault (value_stages s value) why)
