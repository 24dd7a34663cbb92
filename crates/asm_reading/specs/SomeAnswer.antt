-- A line has a value or a first fault.
use Rattle.std.specs.Prelude.{◌⊎◌, ℕ, List}
use Rattle.asm_lexemes.specs.declared.fault.LineFault.{LineFault}
use Rattle.asm_reading.specs.declared.line.Line.{Line}
use Rattle.asm_reading.specs.Lines.{LineOf, FaultOf}

-- The line has a value, or a first fault.
abbrev pub LineOrFault : List ℕ → Type 0
LineOrFault bytes = ((value : Line) × LineOf bytes value) ⊎ ((e : LineFault) × FaultOf bytes e)
