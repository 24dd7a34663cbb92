-- A line has a value or a first fault.
use Rattle.std.proofs.Common.{◌≡◌, inl, inr, refl, ℕ, List, Result, Ok, Err}
use Rattle.asm_lexemes.specs.declared.fault.LineFault.{LineFault}
use Rattle.asm_lexemes.specs.declared.fault.LineFault.TheVariants as fault
use Rattle.asm_instructions.proofs.DecidedFormats.{listed}
use Rattle.asm_reading.specs.declared.line.Line.{Line}
use Rattle.asm_reading.specs.declared.line.Line.TheVariants as line
use Rattle.asm_reading.specs.Lines.{reading_of, IsListedLine}
use Rattle.asm_reading.specs.SomeAnswer.{LineOrFault}

listed_line : (value : Line) → Dec (IsListedLine value)
listed_line (line.Slot draft stop) = listed draft.insn
listed_line value = yes tt

answered : (bytes : List ℕ) (r : Result Line LineFault) → reading_of bytes ≡ r → LineOrFault bytes
answered bytes (Err e) is = inr (e, inl is)
answered bytes (Ok value) is = elim (listed_line value) [
  | yes h ↦ inl (value, record { reading = is; listed = h })
  | no never ↦ inr (fault.Form, inr (value, is, never, refl))
]

pub line_or_fault : (bytes : List ℕ) → LineOrFault bytes
line_or_fault bytes = answered bytes (reading_of bytes) refl
