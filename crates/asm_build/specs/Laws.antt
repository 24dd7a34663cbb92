-- A text reads as one program or has one first fault, and not both, but one of the two.
use Rattle.std.specs.Prelude.{◌≡◌, ◌⊎◌, ℕ, List}
use Rattle.ia_program.specs.Programs.{Program}
use Rattle.asm_build.specs.declared.reason.Reason.{Reason}
use Rattle.asm_build.specs.declared.reason.TextError.{TextError}
use Rattle.asm_build.specs.declared.reason.TextError.TheVariants.{Fault}
use Rattle.asm_build.specs.TextReading.{Reads, HasTextFault}

-- A text reads as at most one program.
abbrev pub OneTextProgram : Type 0
OneTextProgram = (text : List ℕ) (p q : Program) → Reads text p → Reads text q → p ≡ q

-- A text has at most one first fault.
abbrev pub OneTextFault : Type 0
OneTextFault = (text : List ℕ) (e f : TextError) → HasTextFault text e → HasTextFault text f → e ≡ f

-- A text that reads as a program has none.
abbrev pub NoFaultWhereRead : Type 0
NoFaultWhereRead = (text : List ℕ) (p : Program) (e : TextError) → Reads text p → HasTextFault text e → ⊥

-- The text reads as a program, or a line and a reason are its first fault.
abbrev pub TextOrFault : List ℕ → Type 0
TextOrFault text =
    ((p : Program) × Reads text p) ⊎ ((line : ℕ) × (reason : Reason) × HasTextFault text (Fault line reason))
