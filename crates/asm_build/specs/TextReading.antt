-- What a text says: the program that its lines give, or its first fault.
use Rattle.std.specs.Prelude.{◌≡◌, ℕ, ◌+◌, ◌<◌, ◌≤◌, ◌⊎◌, List, [], ◌∷◌, map, length, Option, Some, None, Result, Ok, Err}
use Rattle.bstr.specs.Text.{lines_of, without_terminator}
use Rattle.first_fault.specs.Stages.{Stage, unless, first, IsFirstFault, ArePassed}
use Rattle.asm_lexemes.specs.declared.limits.TheConstants.{LINE_LIMIT}
use Rattle.ia_program.specs.declared.place.Place.{Place}
use Rattle.ia_program.specs.Places.{EachPlace, IsFirstBad}
use Rattle.ia_program.specs.Programs.{Program, IsEntryOf}
use Rattle.ia_program.specs.Runs.{IsWithinRun}
use Rattle.asm_lexemes.specs.declared.fault.LineFault.{LineFault}
use Rattle.asm_reading.specs.declared.line.Line.{Line}
use Rattle.asm_reading.specs.Lines.{LineOf, FaultOf}
use Rattle.asm_build.specs.declared.reason.Reason.{Reason}
use Rattle.asm_build.specs.declared.reason.Reason.TheVariants.{Limit, Misplaced, Empty, LongRun}
use Rattle.asm_build.specs.declared.reason.TextError.{TextError}
use Rattle.asm_build.specs.declared.reason.TextError.TheVariants.{Fault}
use Rattle.asm_build.specs.Names.{name_fault, program_of, line_at}
use Rattle.asm_build.specs.Reasons.{reason_of}
use Rattle.asm_build.specs.Relations.{relation_stages}
use Rattle.asm_build.specs.TextParts.{TextParts, start, after, value_stages, AreLabelsInside}

-- The lines of a text, without the line feed, or the carriage return and line feed, that ends each.
abbrev pub text_lines : List ℕ → List (List ℕ)
text_lines text = map without_terminator (lines_of text)

-- A line by itself says this.
pub record Says (line : List ℕ) (value : Line) : Type 0 where
  pub short : length line ≤ LINE_LIMIT
  pub reads : LineOf line value

-- A line by itself says nothing, for this reason: it is too long, or its first fault.
abbrev pub SaysNothing : List ℕ → Reason → Type 0
SaysNothing line reason =
    ((LINE_LIMIT < length line) × (reason ≡ Limit))
    ⊎ ((length line ≤ LINE_LIMIT) × (e : LineFault) × FaultOf line e × (reason ≡ reason_of e))

-- A way to read texts line by line: what is said before any line (`start`), what the lines say with the n-th line (`after`), the
-- faults of a line that follows others (`stages`), and the faults of a text of n lines (`ends`).
pub record LineReading (State : Type 0) : Type 1 where
  pub start : State
  pub after : State → ℕ → Line → State
  pub stages : State → Line → List (Stage Reason)
  pub ends : ℕ → State → List (Stage TextError)

-- A line is refused after what those before it say: by itself, or for what it says.
abbrev pub IsRefusedBy : {State : Type 0} → LineReading State → State → List ℕ → Reason → Type 0
IsRefusedBy reading s line reason =
    SaysNothing line reason ⊎ ((value : Line) × Says line value × IsFirstFault (reading.stages s value) reason)

-- A line says something that may follow what those before it say.
abbrev pub IsTakenBy : {State : Type 0} → LineReading State → State → List ℕ → Line → Type 0
IsTakenBy reading s line value = Says line value × ArePassed (reading.stages s value)

-- What lines come to, the first of which is the n-th: what they say after those before them, or the fault of
-- the first that is refused.
abbrev pub ComesToBy : {State : Type 0} → LineReading State → State → ℕ → List (List ℕ) → Result State TextError → Type 0
ComesToBy reading s n [] r = r ≡ Ok s
ComesToBy reading s n (line ∷ lines) r =
    ((reason : Reason) × IsRefusedBy reading s line reason × (r ≡ Err (Fault n reason)))
    ⊎ ((value : Line) × IsTakenBy reading s line value × ComesToBy reading (reading.after s n value) (n + 1) lines r)

-- All the lines of a text are taken, and say this.
abbrev pub AllSayBy : {State : Type 0} → LineReading State → List ℕ → State → Type 0
AllSayBy reading text s = ComesToBy reading reading.start 1 (text_lines text) (Ok s)

-- The first fault of a text: that of the first line that is refused, or else the first after the last line.
abbrev pub HasFaultBy : {State : Type 0} → LineReading State → List ℕ → TextError → Type 0
HasFaultBy {State} reading text e =
    ComesToBy reading reading.start 1 (text_lines text) (Err e)
    ⊎ ((s : State) × AllSayBy reading text s × IsFirstFault (reading.ends (length (text_lines text)) s) e)

-- The stage whose fault is the one that is found, where there is one.
abbrev pub found : Option TextError → Stage TextError
found o = first TextError (λ e. e) (λ e. o ≡ Some e) (o ≡ None)

-- The stage whose fault is the first that these find.
abbrev pub first_of : List (Stage TextError) → Stage TextError
first_of stages = first TextError (λ e. e) (IsFirstFault stages) (ArePassed stages)

-- What is looked for after the last line, in this order: a bundle that is open or a label without one, that
-- there are bundles, names, relations, and the slots of runs. `count` lines were read.
abbrev pub end_stages : ℕ → TextParts → List (Stage TextError)
end_stages count s =
    unless ((s.current ≡ None) × AreLabelsInside s) (Fault (count + 1) Misplaced)
    ∷ unless (1 ≤ length s.bundles) (Fault (count + 1) Empty)
    ∷ found (name_fault s)
    ∷ first_of (relation_stages (IsEntryOf (program_of s).bundles (program_of s).entries) [] s.relations)
    ∷ first Place (λ place. Fault (line_at s.bundles place) LongRun)
    (IsFirstBad (program_of s).bundles (IsWithinRun (program_of s).bundles))
    (EachPlace (program_of s).bundles (IsWithinRun (program_of s).bundles))
    ∷ []

-- How the text of a program is read.
abbrev pub program_reading : LineReading TextParts
program_reading = record { start = start; after = after; stages = value_stages; ends = end_stages }

abbrev pub ComesTo : TextParts → ℕ → List (List ℕ) → Result TextParts TextError → Type 0
ComesTo s n lines r = ComesToBy program_reading s n lines r

abbrev pub AllSay : List ℕ → TextParts → Type 0
AllSay text s = AllSayBy program_reading text s

-- The text reads as the program.
pub record Reads (text : List ℕ) (p : Program) : Type 0 where
  pub parts : TextParts
  pub lines : AllSay text parts
  pub whole : ArePassed (end_stages (length (text_lines text)) parts)
  pub program : p ≡ program_of parts

-- The first fault of a text that is to be a program.
abbrev pub HasTextFault : List ℕ → TextError → Type 0
HasTextFault text e = HasFaultBy program_reading text e
