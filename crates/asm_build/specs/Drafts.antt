-- Bundles as their lines have them.
use Rattle.std.specs.Prelude.{ℕ, Bool, true, false, if◌then◌else◌, slice_index_or, Option, None, IsSomeAnd, ⊤}
use Rattle.std.specs.Option.{option_map}
use Rattle.ia_insn.specs.declared.choices.Unit.{Unit as ExecutionUnit}
use Rattle.ia_insn.specs.declared.choices.Unit.TheVariants as unit
use Rattle.ia_insn.specs.declared.insn.Insn.{Insn}
use Rattle.ia_insn.specs.declared.insn.Op.{Op}
use Rattle.ia_insn.specs.declared.insn.Op.TheVariants as op
use Rattle.ia_program.specs.declared.bundle.Slots.TheVariants.{Three, Long}
use Rattle.ia_program.specs.Bundles.{IsBundle}
use Rattle.ia_program.specs.Fits.{Fits}
use Rattle.asm_reading.specs.declared.line.Draft.{Draft}
use Rattle.asm_reading.specs.declared.line.TemplateName.{TemplateName}
use Rattle.asm_reading.specs.declared.line.TemplateName.TheVariants as template_name
use Rattle.asm_build.specs.declared.draft.BundleLines.{BundleLines}
use Rattle.asm_build.specs.declared.draft.SlotLine.{SlotLine}
use Rattle.asm_build.specs.OpenSlots.{SlotLines}
use Rattle.asm_build.specs.OpenSlots as slots
use Rattle.asm_build.specs.declared.draft.SlotName.{SlotName}
use Rattle.asm_build.specs.TemplateNames.{units_named, template_of}

-- The unit that an instruction without a unit letter takes from its slot: a long one's is X.
abbrev pub letter_of : ExecutionUnit → ExecutionUnit
letter_of unit.L = unit.X
letter_of u = u

abbrev pub lettered : ExecutionUnit → Op → Op
lettered u (op.Break v imm) = op.Break u imm
lettered u (op.Nop v imm) = op.Nop u imm
lettered u (op.Hint v imm) = op.Hint u imm
lettered u (op.ChkS v r2 disp) = op.ChkS u r2 disp
lettered u x = x

-- The instruction of a draft in a slot of this unit.
abbrev pub completed : Draft → ExecutionUnit → Insn
completed d u =
    if d.bare then record { qp = d.insn.qp; op = lettered (letter_of u) d.insn.op } else d.insn

-- A bundle that is not closed yet: the name of its template, and its slot lines so far.
pub record OpenBundle : Type 0 where
  pub name : TemplateName
  pub slots : SlotLines

abbrev pub count_of : SlotLines → ℕ
count_of slots.Zero = 0
count_of (slots.One a) = 1
count_of (slots.Two a b) = 2
count_of (slots.Three a b c) = 3

-- There is no fourth.
abbrev pub one_more : SlotLines → SlotLine → SlotLines
one_more slots.Zero s = slots.One s
one_more (slots.One a) s = slots.Two a s
one_more (slots.Two a b) s = slots.Three a b s
one_more (slots.Three a b c) s = slots.Three a b c

abbrev pub line_stopped : SlotLine → SlotLine
line_stopped s = record { line = s.line; insn = s.insn; target = s.target; stop = true }

-- A stop after the last.
abbrev pub last_stopped : SlotLines → SlotLines
last_stopped slots.Zero = slots.Zero
last_stopped (slots.One a) = slots.One (line_stopped a)
last_stopped (slots.Two a b) = slots.Two a (line_stopped b)
last_stopped (slots.Three a b c) = slots.Three a b (line_stopped c)

abbrev pub HasSome : SlotLines → Type 0
HasSome slots.Zero = ⊥
HasSome lines = ⊤

abbrev pub HasSlot : OpenBundle → Type 0
HasSlot o = HasSome o.slots

abbrev pub IsShort : TemplateName → Type 0
IsShort template_name.Mlx = ⊥
IsShort s = ⊤

abbrev pub HasRoomIn : TemplateName → SlotLines → Type 0
HasRoomIn s slots.Zero = ⊤
HasRoomIn s (slots.One a) = ⊤
HasRoomIn s (slots.Two a b) = IsShort s
HasRoomIn s (slots.Three a b c) = ⊥

-- One more slot line may follow: three, or two where the second is a long one.
abbrev pub HasSlotRoom : OpenBundle → Type 0
HasSlotRoom o = HasRoomIn o.name o.slots

-- The unit of a slot.
abbrev pub unit_at : TemplateName → ℕ → ExecutionUnit
unit_at s slot = slice_index_or (units_named s) slot unit.X

abbrev pub next_unit : OpenBundle → ExecutionUnit
next_unit o = unit_at o.name (count_of o.slots)

-- The instruction fits the next slot.
abbrev pub FitsNext : OpenBundle → Draft → Type 0
FitsNext o d = Fits (completed d (next_unit o)) (next_unit o) (count_of o.slots)

-- The instruction of a slot line fits a slot.
abbrev pub FitsAt : TemplateName → ℕ → SlotLine → Type 0
FitsAt s slot l = Fits l.insn (unit_at s slot) slot

-- The instruction of each slot line fits its slot.
abbrev pub AreFitting : TemplateName → SlotLines → Type 0
AreFitting s slots.Zero = ⊤
AreFitting s (slots.One a) = FitsAt s 0 a
AreFitting s (slots.Two a b) = FitsAt s 0 a × FitsAt s 1 b
AreFitting s (slots.Three a b c) = FitsAt s 0 a × FitsAt s 1 b × FitsAt s 2 c × IsShort s

-- The bundle with one more slot line.
abbrev pub added : OpenBundle → ℕ → Draft → Bool → OpenBundle
added o line d stop =
    record {
      name = o.name;
      slots = one_more o.slots (record {
        line = line;
        insn = completed d (next_unit o);
        target = d.target;
        stop = stop;
      });
    }

-- The bundle with a stop after its last slot line.
abbrev pub stopped : OpenBundle → OpenBundle
stopped o = record { name = o.name; slots = last_stopped o.slots }

abbrev pub name_of : SlotLine → SlotName
name_of s = record { line = s.line; target = s.target }

abbrev pub no_name : SlotLine → SlotName
no_name s = record { line = s.line; target = None }

abbrev pub three : SlotLine → SlotLine → SlotLine → ℕ → BundleLines
three a b c template =
    record {
      bundle = record { template = template; slots = Three a.insn b.insn c.insn };
      first = name_of a;
      second = name_of b;
      third = name_of c;
    }

abbrev pub long : SlotLine → SlotLine → ℕ → BundleLines
long a b template =
    record { bundle = record { template = template; slots = Long a.insn b.insn }; first = name_of a; second = name_of b; third = no_name b }

abbrev pub closed_as : SlotLines → TemplateName → Option BundleLines
closed_as (slots.Two a b) template_name.Mlx = option_map (long a b) (template_of template_name.Mlx a.stop false b.stop)
closed_as (slots.Three a b c) s = option_map (three a b c) (template_of s a.stop b.stop c.stop)
closed_as lines s = None

-- The bundle that its lines give: the one with this template's name and these stops.
abbrev pub closed : OpenBundle → Option BundleLines
closed o = closed_as o.slots o.name

-- The slot lines give a whole bundle.
abbrev pub IsWhole : OpenBundle → Type 0
IsWhole o = IsSomeAnd (closed o) (λ b. IsBundle b.bundle)
