-- The templates that a template's name stands for (volume 3, chapter 4, bundle templates).
use Rattle.std.specs.Prelude.{ℕ, zero, suc, ◌&&◌, Bool, if◌then◌else◌, List, [], ◌∷◌, ◌++◌, map, find, Option}
use Rattle.std.specs.Str.{bytes_eq}
use Rattle.ia_insn.specs.declared.choices.Unit.{Unit as ExecutionUnit}
use Rattle.ia_insn.specs.declared.choices.Unit.TheVariants.{M, I, F, B, L, X}
use Rattle.ia_program.specs.Templates.{units_of, stops_of}
use Rattle.asm_reading.specs.declared.line.TemplateName.{TemplateName}
use Rattle.asm_reading.specs.declared.line.TemplateName.TheVariants as template_name
use Rattle.asm_build.specs.CanonicalText.{unit_letter}

-- The units of the three slots.
abbrev pub units_named : TemplateName → List ExecutionUnit
units_named template_name.Mii = M ∷ I ∷ I ∷ []
units_named template_name.Mlx = M ∷ L ∷ X ∷ []
units_named template_name.Mmi = M ∷ M ∷ I ∷ []
units_named template_name.Mfi = M ∷ F ∷ I ∷ []
units_named template_name.Mmf = M ∷ M ∷ F ∷ []
units_named template_name.Mib = M ∷ I ∷ B ∷ []
units_named template_name.Mbb = M ∷ B ∷ B ∷ []
units_named template_name.Bbb = B ∷ B ∷ B ∷ []
units_named template_name.Mmb = M ∷ M ∷ B ∷ []
units_named template_name.Mfb = M ∷ F ∷ B ∷ []

-- The slots that are marked.
abbrev pub marked_slots : Bool → Bool → Bool → List ℕ
marked_slots first second third =
    (if first then 0 ∷ [] else []) ++ ((if second then 1 ∷ [] else []) ++ (if third then 2 ∷ [] else []))

-- A code's template has these units, by their letters, and these are the slots that a stop follows.
abbrev pub is_shaped : List ExecutionUnit → List ℕ → ℕ → Bool
is_shaped units stops code =
    bytes_eq (map unit_letter (units_of code)) (map unit_letter units) && bytes_eq (stops_of code) stops

-- The numbers below another.
abbrev pub below : ℕ → List ℕ
below zero = []
below (suc n) = n ∷ below n

-- The template with this name's units and with stops after the slots that are marked, where there is one.
unfoldable pub template_of : TemplateName → Bool → Bool → Bool → Option ℕ
template_of name first second third =
    find (is_shaped (units_named name) (marked_slots first second third)) (below 32)
