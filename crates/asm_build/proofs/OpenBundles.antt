-- The instructions of an open bundle fit its slots.
use Rattle.std.proofs.Common.{◌≡◌, ◌≢◌, refl, sym, subst, ℕ, zero, suc, Bool, Some}
use Rattle.ia_insn.specs.declared.insn.Insn.{Insn}
use Rattle.ia_program.specs.declared.bundle.Slots.{Slots}
use Rattle.ia_program.specs.declared.bundle.Slots.TheVariants.{Three, Long}
use Rattle.ia_program.specs.Bundles.{FitUnits}
use Rattle.ia_program.specs.Fits.{Fits}
use Rattle.ia_program.specs.Templates.{units_of}
use Rattle.asm_reading.specs.declared.line.TemplateName.{TemplateName}
use Rattle.asm_reading.specs.declared.line.TemplateName.TheVariants as template_name
use Rattle.asm_build.specs.declared.draft.SlotLine.{SlotLine}
use Rattle.asm_build.specs.OpenSlots.{slots_of}
use Rattle.asm_build.specs.OpenSlots as slots
use Rattle.asm_build.specs.Drafts.{AreFitting, FitsAt, HasRoomIn, IsShort, unit_at, count_of}
use Rattle.asm_build.specs.TemplateNames.{units_named, template_of}
use Rattle.asm_build.proofs.NamedTemplates.{units_are}

-- One more slot line, whose instruction fits the next slot, behind two or more.
pub third_fits : (s : TemplateName) (count : ℕ) (a b c : SlotLine) (i : Insn) → count ≢ 0 → count ≢ 1 → AreFitting s (slots_of count a b c)
    → HasRoomIn s (slots_of count a b c)
    → Fits i (unit_at s (count_of (slots_of count a b c))) (count_of (slots_of count a b c))
    → FitsAt s 0 a × FitsAt s 1 b × Fits i (unit_at s 2) 2 × IsShort s
third_fits s zero a b c i some more before room fit = absurd (some refl)
third_fits s (suc zero) a b c i some more before room fit = absurd (more refl)
third_fits s (suc (suc zero)) a b c i some more before room fit = (before.0, before.1, fit, room)
third_fits s (suc (suc (suc n))) a b c i some more before room fit = absurd room

units_fit : (s : TemplateName) (a b c : SlotLine) → AreFitting s (slots.Three a b c) → FitUnits (units_named s) (Three a.insn b.insn c.insn)
units_fit template_name.Mlx a b c fit = absurd fit.3
units_fit s a b c fit = (fit.0, fit.1, fit.2, λ e. cc)

same_units : (s : TemplateName) (first second third : Bool) (code : ℕ) (contents : Slots) → template_of s first second third ≡ Some code
    → FitUnits (units_named s) contents → FitUnits (units_of code) contents
same_units s first second third code contents is fit = subst (λ us. FitUnits us contents) (sym (units_are s first second third code is)) fit

-- Slots that fit their places fit the template of a bundle of three slots.
pub fits_three : (s : TemplateName) (a b c : SlotLine) (first second third : Bool) (code : ℕ) → AreFitting s (slots.Three a b c)
    → template_of s first second third ≡ Some code
    → FitUnits (units_of code) (Three a.insn b.insn c.insn)
fits_three s a b c first second third code fit is =
    same_units s first second third code (Three a.insn b.insn c.insn) is (units_fit s a b c fit)

-- Slots that fit their places fit the template of a bundle with a long instruction.
pub fits_long : (a b : SlotLine) (first second third : Bool) (code : ℕ) → AreFitting template_name.Mlx (slots.Two a b)
    → template_of template_name.Mlx first second third ≡ Some code
    → FitUnits (units_of code) (Long a.insn b.insn)
fits_long a b first second third code fit is =
    same_units template_name.Mlx first second third code (Long a.insn b.insn) is (fit.0, fit.1, refl)
