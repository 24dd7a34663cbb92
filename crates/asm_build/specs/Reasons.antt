-- Why a text is no program, in words, and why a line is refused by itself.
use Rattle.std.specs.Prelude.{ℕ, List, codes}
use Rattle.asm_lexemes.specs.declared.fault.LineFault.{LineFault}
use Rattle.asm_lexemes.specs.declared.fault.LineFault.TheVariants as fault
use Rattle.asm_build.specs.declared.reason.Reason.{Reason}
use Rattle.asm_build.specs.declared.reason.Reason.TheVariants as reason

-- The reason in words, as it is printed.
abbrev pub reason_text : Reason → List ℕ
reason_text reason.Char = codes "char"
reason_text reason.Name = codes "name"
reason_text reason.Register = codes "register"
reason_text reason.Number = codes "number"
reason_text reason.Range = codes "range"
reason_text reason.Form = codes "form"
reason_text reason.Template = codes "template"
reason_text reason.SlotKind = codes "slot kind"
reason_text reason.Twice = codes "twice"
reason_text reason.NoLabel = codes "no label"
reason_text reason.Limit = codes "limit"
reason_text reason.LongRun = codes "long run"
reason_text reason.Misplaced = codes "misplaced"
reason_text reason.Empty = codes "empty"
reason_text reason.Relation = codes "relation"

-- The reason for which a line is refused by itself.
abbrev pub reason_of : LineFault → Reason
reason_of fault.Char = reason.Char
reason_of fault.Name = reason.Name
reason_of fault.Register = reason.Register
reason_of fault.Number = reason.Number
reason_of fault.Range = reason.Range
reason_of fault.Form = reason.Form
