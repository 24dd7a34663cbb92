-- A line has one value or one first fault, and not both.
use Rattle.std.specs.Prelude.{◌≡◌, ℕ, List}
use Rattle.asm_lexemes.specs.declared.fault.LineFault.{LineFault}
use Rattle.asm_reading.specs.declared.line.Line.{Line}
use Rattle.asm_reading.specs.Lines.{LineOf, FaultOf}

abbrev pub HasOneValue : List ℕ → Type 0
HasOneValue bytes = (value other : Line) → LineOf bytes value → LineOf bytes other → value ≡ other

abbrev pub HasOneFault : List ℕ → Type 0
HasOneFault bytes = (e f : LineFault) → FaultOf bytes e → FaultOf bytes f → e ≡ f

abbrev pub HasNoFault : List ℕ → Type 0
HasNoFault bytes = (value : Line) (e : LineFault) → LineOf bytes value → ¬ FaultOf bytes e
