-- It is decided whether what a line says has a fault, and which.
use Rattle.std.proofs.Common.{◌≡◌, ◌⊎◌, inl, inr, refl, ◌+◌, length}
use Rattle.std.proofs.Math.Decide.{dec_le, dec_lt}
use Rattle.first_fault.proofs.Laws.{AreDecided}
use Rattle.ia_program.specs.declared.limits.TheConstants.{BUNDLE_LIMIT, DATA_LIMIT}
use Rattle.insn_rows.proofs.Decided.{alike, both, is_none, some, some_and, if_some}
use Rattle.asm_reading.specs.declared.line.Line.{Line}
use Rattle.asm_reading.specs.declared.line.Line.TheVariants as line
use Rattle.asm_reading.specs.declared.line.TemplateName.{TemplateName}
use Rattle.asm_reading.specs.declared.line.TemplateName.TheVariants as template_name
use Rattle.asm_build.specs.OpenSlots.{SlotLines}
use Rattle.asm_build.specs.OpenSlots as slots
use Rattle.asm_build.specs.declared.text_parts.Section.{Section}
use Rattle.asm_build.specs.declared.text_parts.Section.TheVariants as section
use Rattle.asm_build.specs.Drafts.{HasSome, IsShort, HasRoomIn, next_unit, count_of, completed, closed}
use Rattle.asm_build.specs.TextParts.{TextParts, IsIn, MayStand, IsNew, HasTemplate, FitsSlot, HasRoom, address_of, numbers_bytes, value_stages}
use Rattle.asm_build.proofs.DecidedBundles.{fits, is_bundle}

-- A stage finds its fault or is passed, whatever the fault is.
pub decided : {P : Type 0} → Dec P → (Unit {0} × ¬ P) ⊎ P
decided (yes p) = inr p
decided (no never) = inl (tt, never)

same_section : (a b : Section) → Dec (a ≡ b)
same_section section.Text section.Text = yes refl
same_section section.Text section.Data = no (λ e. cc)
same_section section.Data section.Text = no (λ e. cc)
same_section section.Data section.Data = yes refl

pub is_in : (part : Section) (s : TextParts) → Dec (IsIn part s)
is_in part s =
    alike (both (is_none s.current) (same_section s.section part)) (λ h. record { closed = h.0; same = h.1 }) (λ h. (h.closed, h.same))

has_some : (lines : SlotLines) → Dec (HasSome lines)
has_some slots.Zero = no (λ h. h)
has_some lines = yes tt

pub may_stand : (s : TextParts) (value : Line) → Dec (MayStand s value)
may_stand s line.Empty = yes tt
may_stand s (line.Relation predicates) = is_in section.Text s
may_stand s (line.Numbers size values) = is_in section.Data s
may_stand s (line.Skip count) = is_in section.Data s
may_stand s (line.Open name) = is_in section.Text s
may_stand s (line.Slot draft stop) = some s.current
may_stand s line.Stop = some_and s.current (λ o. has_some o.slots)
may_stand s line.Close = some s.current
may_stand s value = is_none s.current

pub is_new : (s : TextParts) (value : Line) → Dec (IsNew s value)
is_new s (line.Label name) = is_none (address_of s.labels name)
is_new s value = yes tt

is_short : (s : TemplateName) → Dec (IsShort s)
is_short template_name.Mlx = no (λ h. h)
is_short s = yes tt

has_room_in : (s : TemplateName) (lines : SlotLines) → Dec (HasRoomIn s lines)
has_room_in s slots.Zero = yes tt
has_room_in s (slots.One a) = yes tt
has_room_in s (slots.Two a b) = is_short s
has_room_in s (slots.Three a b c) = no (λ h. h)

has_template : (s : TextParts) (value : Line) → Dec (HasTemplate s value)
has_template s (line.Slot draft stop) = if_some s.current (λ o. has_room_in o.name o.slots)
has_template s line.Close = if_some s.current (λ o. some_and (closed o) (λ b. is_bundle b.bundle))
has_template s value = yes tt

fits_slot : (s : TextParts) (value : Line) → Dec (FitsSlot s value)
fits_slot s (line.Slot draft stop) = if_some s.current (λ o. fits (completed draft (next_unit o)) (next_unit o) (count_of o.slots))
fits_slot s value = yes tt

pub has_room : (s : TextParts) (value : Line) → Dec (HasRoom s value)
has_room s (line.Open name) = dec_lt (length s.bundles) BUNDLE_LIMIT
has_room s (line.Numbers size values) = dec_le (length s.bytes + length (numbers_bytes size values)) DATA_LIMIT
has_room s (line.Skip count) = dec_le (length s.bytes + count) DATA_LIMIT
has_room s value = yes tt

pub value_decided : (s : TextParts) (value : Line) → AreDecided (value_stages s value)
value_decided s value = (
  decided (may_stand s value),
  (decided (is_new s value), (decided (has_template s value), (decided (fits_slot s value), (decided (has_room s value), tt)))),
)
