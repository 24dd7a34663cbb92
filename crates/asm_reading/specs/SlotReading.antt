-- How the program reads a slot line that has no fault: by the one row that its name and its operands spell.
use Rattle.std.specs.Prelude.{ℕ, Bool, false, ◌&&◌, ◌||◌, ◌==◌, List, [], ◌∷◌, Option}
use Rattle.std.specs.Option.{option_map}
use Rattle.asm_lexemes.specs.declared.tokens.Token.{Token}
use Rattle.asm_forms.specs.declared.completer.Completer.{Completer}
use Rattle.asm_forms.specs.declared.form.Form.{Form}
use Rattle.asm_forms.specs.Items.{taken}
use Rattle.asm_forms.specs.Rows.{row_of}
use Rattle.asm_instructions.specs.Instructions.{op_of}
use Rattle.asm_reading.specs.declared.line.Line.{Line}
use Rattle.asm_reading.specs.declared.line.Line.TheVariants as line
use Rattle.asm_reading.specs.Lines.{KindAndText, draft_of, ends_in_stop, without_stop}

-- A name that only a directive can have: it begins with a dot or with `da`.
abbrev pub is_directive_name : List ℕ → Bool
is_directive_name [] = false
is_directive_name (c ∷ []) = c == 46
is_directive_name (c ∷ d ∷ cs) = (c == 46) || ((c == 100) && (d == 97))

-- The slot line of a form with these completers and the tokens after its name, where they make an instruction.
abbrev pub slot_line : ℕ → Form → List Completer → List Token → List KindAndText → Option Line
slot_line qp f cs xs after =
    option_map (λ x. line.Slot (draft_of f cs qp after x) (ends_in_stop xs)) (op_of f cs (taken (row_of f).items (without_stop xs)))
