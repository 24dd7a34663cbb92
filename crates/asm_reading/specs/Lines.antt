-- What a line says, and its first fault. A line is read by its lexemes, each of a kind and with a text:
-- the leading lexeme names forms, and the first form that the operands have makes the line's value.
use Rattle.std.specs.Prelude.{◌≡◌, ◌⊎◌, ℕ, ◌+◌, ◌-◌, ◌^◌, ◌*◌, ◌%◌, Bool, true, false, not, ◌&&◌, nat_le, nat_lt, ◌==◌, if◌then◌else◌, List, [], ◌∷◌, map, take, drop, length, Option, Some, None, is_some, unwrap_or, Result, Ok, Err, slice_get, slice_range, codes}
use Rattle.std.specs.Option.{option_map}
use Rattle.std.specs.List.{All, find, list_any}
use Rattle.std.specs.Str.{bytes_eq}
use Rattle.asm_lexemes.specs.declared.limits.TheConstants.{NAME_LIMIT, NUMBER_TOKEN_LIMIT}
use Rattle.asm_lexemes.specs.declared.tokens.Token.{Token}
use Rattle.asm_lexemes.specs.declared.tokens.Token.TheVariants as t
use Rattle.asm_lexemes.specs.declared.lexeme.LexemeKind.{LexemeKind}
use Rattle.asm_lexemes.specs.declared.lexeme.LexemeKind.TheVariants as kind
use Rattle.asm_lexemes.specs.declared.fault.LineFault.{LineFault}
use Rattle.asm_lexemes.specs.declared.fault.LineFault.TheVariants as fault
use Rattle.asm_lexemes.specs.declared.lexeme.Lexeme.{Lexeme}
use Rattle.asm_lexemes.specs.Bytes.{has_only_plain}
use Rattle.asm_lexemes.specs.Registers.{numbered_register}
use Rattle.asm_lexemes.specs.Slices.{IsPart}
use Rattle.asm_lexemes.specs.Tokens.{token_of}
use Rattle.asm_lexemes.specs.Lexemes.{pick, lexemes_from}
use Rattle.asm_forms.specs.declared.choices.AccessSize.{AccessSize}
use Rattle.asm_forms.specs.declared.choices.AccessSize.TheVariants as size
use Rattle.asm_forms.specs.declared.completer.Completer.{Completer}
use Rattle.asm_forms.specs.declared.completer.Said.{Said}
use Rattle.asm_forms.specs.declared.completer.Said.TheVariants as said
use Rattle.asm_forms.specs.declared.form.Form.{Form}
use Rattle.asm_forms.specs.declared.form.Form.TheVariants as form
use Rattle.asm_forms.specs.declared.items.FormItem.{FormItem}
use Rattle.asm_forms.specs.declared.items.FormItem.TheVariants.{Is, Takes}
use Rattle.asm_forms.specs.declared.items.Fixed.TheVariants as fixed
use Rattle.asm_forms.specs.declared.items.Kind.TheVariants as takes
use Rattle.asm_forms.specs.declared.items.NumberField.{NumberField}
use Rattle.asm_forms.specs.declared.items.NumberField.TheVariants as field
use Rattle.asm_forms.specs.Items.{accepts, taken, is_label_item, is_stop}
use Rattle.asm_forms.specs.Naming.{completers, named_forms}
use Rattle.asm_forms.specs.Rows.{row_of, is_instruction}
use Rattle.asm_matching.specs.Matching.{fault_at, read_form}
use Rattle.asm_matching.specs.Relations.{named_predicates, agreed_relation, relation_fault}
use Rattle.ia_insn.specs.declared.insn.Op.{Op}
use Rattle.ia_program.specs.Listed.{IsListed}
use Rattle.asm_instructions.specs.Instructions.{op_of}
use Rattle.asm_instructions.specs.Operands.{u32_at, magnitude, is_negative, wrapped, bytes}
use Rattle.asm_reading.specs.declared.line.Line.{Line}
use Rattle.asm_reading.specs.declared.line.Line.TheVariants as line
use Rattle.asm_reading.specs.declared.line.Draft.{Draft}
use Rattle.asm_reading.specs.declared.line.TemplateName.{TemplateName}
use Rattle.asm_reading.specs.declared.line.TemplateName.TheVariants as template

infixl 10 ◌>>=◌
abbrev pub ◌>>=◌ : {A B : Type 0} → Result A LineFault → (A → Result B LineFault) → Result B LineFault
(Ok x) >>= f = f x
(Err e) >>= f = Err e

abbrev pub or_fault : {A : Type 0} → Option A → LineFault → Result A LineFault
or_fault None e = Err e
or_fault (Some x) e = Ok x

-- What is said where a value is put into a place: the value there, or the fault.
abbrev pub put : {A : Type 0} → Result A LineFault → Line → Result Line LineFault
put (Ok x) value = Ok value
put (Err e) value = Err e

-- A lexeme by its kind and its text.
abbrev pub KindAndText : Type 0
KindAndText = LexemeKind × List ℕ

-- The lexemes of a line by their kinds and texts.
abbrev pub texts : List ℕ → List Lexeme → List KindAndText
texts bytes ws = map (λ w. (w.kind, slice_range bytes w.start w.end)) ws

-- Each is a part of the line.
abbrev pub AreParts : List ℕ → List Lexeme → Type 0
AreParts bytes ws = All (IsPart (length bytes)) ws

abbrev pub tokens : List KindAndText → List Token
tokens ws = map (λ w. token_of w.0 w.1) ws

-- A name has 1 to NAME_LIMIT bytes.
abbrev pub name_of : List ℕ → Option (List ℕ)
name_of text = if nat_le 1 (length text) && nat_le (length text) NAME_LIMIT then Some text else None

-- The name at the position of the label among these items.
abbrev pub label_name : List FormItem → List KindAndText → Option (List ℕ)
label_name [] ws = None
label_name (i ∷ is) [] = None
label_name (i ∷ is) (w ∷ ws) = if is_label_item i then name_of w.1 else label_name is ws

abbrev pub is_open : Token → Bool
is_open t.OpenParenthesis = true
is_open _ = false

abbrev pub is_close : Token → Bool
is_close t.CloseParenthesis = true
is_close _ = false

-- How many lexemes there are up to the first `)`.
abbrev pub past_parenthesis : List Token → Option ℕ
past_parenthesis [] = None
past_parenthesis (x ∷ xs) = if is_close x then Some 1 else option_map (λ n. n + 1) (past_parenthesis xs)

-- How many lexemes stand before the leading one: a qualifying predicate, or nothing.
abbrev pub lead_at : List Token → Option ℕ
lead_at [] = None
lead_at (x ∷ xs) = if is_open x then past_parenthesis (x ∷ xs) else Some 0

abbrev pub is_some_stop : Option Token → Bool
is_some_stop None = false
is_some_stop (Some x) = is_stop x

abbrev pub ends_in_stop : List Token → Bool
ends_in_stop xs = is_some_stop (slice_get xs (length xs - 1))

-- The operands, without the stop after them.
abbrev pub without_stop : List Token → List Token
without_stop xs = if ends_in_stop xs then take (length xs - 1) xs else xs

-- The qualifying predicate: a register between parentheses, and p0 where no lexeme stands before the leading one.
abbrev pub predicate_of : List Token → Result ℕ LineFault
predicate_of [] = Ok 0
predicate_of (x ∷ []) = Err fault.Form
predicate_of (x ∷ t.Pr p ∷ t.CloseParenthesis ∷ []) = Ok p
predicate_of (x ∷ t.Pr p ∷ ys) = Err fault.Form
predicate_of (x ∷ y ∷ ys) = Err fault.Register

-- The unit letter is missing.
abbrev pub is_missing : Said → Bool
is_missing said.NoUnit = true
is_missing _ = false

abbrev pub is_bare : List Completer → Bool
is_bare cs = list_any (λ c. is_missing c.says) cs

abbrev pub draft_of : Form → List Completer → ℕ → List KindAndText → Op → Draft
draft_of f cs qp after x =
    record { insn = record { qp = qp; op = x }; target = label_name (row_of f).items after; bare = is_bare cs }

abbrev pub completers_or_none : Form → List ℕ → List Completer
completers_or_none f name = unwrap_or (completers f name) []

-- A slot line under a predicate by its name and the tokens after that.
abbrev pub slot_under : ℕ → List Form → List ℕ → List Token → List KindAndText → Result Line LineFault
slot_under qp forms name xs after = do
  f ← read_form forms (without_stop xs) xs
  x ← or_fault (op_of f (completers_or_none f name) (taken (row_of f).items (without_stop xs))) fault.Form
  Ok (line.Slot (draft_of f (completers_or_none f name) qp after x) (ends_in_stop xs))

-- A slot line: the predicate is read first, and then the operands.
abbrev pub slot_of : List Form → List ℕ → List KindAndText → List KindAndText → Result Line LineFault
slot_of forms name before after =
    predicate_of (tokens before) >>= λ qp. slot_under qp forms name (tokens after) after

-- A data line has 1 to NUMBER_LIMIT numbers in turn with commas.
abbrev pub data_field : AccessSize → NumberField
data_field size.One = field.Data1
data_field size.Two = field.Data2
data_field size.Four = field.Data4
data_field size.Eight = field.Imm64

abbrev pub data_item : NumberField → ℕ → FormItem
data_item f at = if at % 2 == 0 then Takes (takes.Number f) 0 else Is fixed.Comma

-- On how many tokens from the position on there are numbers and commas in turn.
abbrev pub agreed_data : NumberField → ℕ → List Token → ℕ
agreed_data f at [] = 0
agreed_data f at (x ∷ xs) = if nat_lt at NUMBER_TOKEN_LIMIT && accepts (data_item f at) x then agreed_data f (at + 1) xs + 1 else 0

-- Every second token is a number, modulo what its bytes hold.
abbrev pub numbers_of : ℕ → List Token → List ℕ
numbers_of modulus [] = []
numbers_of modulus (x ∷ []) = wrapped modulus (is_negative x) (magnitude x) ∷ []
numbers_of modulus (x ∷ y ∷ xs) = wrapped modulus (is_negative x) (magnitude x) ∷ numbers_of modulus xs

abbrev pub wants_number : ℕ → Bool
wants_number at = nat_lt at NUMBER_TOKEN_LIMIT && (at % 2 == 0)

abbrev pub data_fault : ℕ → List Token → LineFault
data_fault at xs = fault_at false (wants_number at) false (slice_get xs at)

abbrev pub data_of : AccessSize → List Token → Result Line LineFault
data_of z xs =
    if (agreed_data (data_field z) 0 xs == length xs) && (length xs % 2 == 1)
    then Ok (line.Numbers (bytes z) (numbers_of (2 ^ (8 * bytes z)) xs))
    else Err (data_fault (agreed_data (data_field z) 0 xs) xs)

-- A relation line: each token is right, no comma is the last, and two predicates or more are named.
abbrev pub relation_of : List Token → Result Line LineFault
relation_of xs =
    if (agreed_relation [] xs == length xs) && ((length xs % 2 == 1) && nat_le 2 (length (named_predicates xs)))
    then Ok (line.Relation (named_predicates xs))
    else Err (relation_fault (agreed_relation [] xs) xs)

abbrev pub named : Option (List ℕ) → (List ℕ → Line) → Result Line LineFault
named None value = Err fault.Form
named (Some name) value = Ok (value name)

-- The value of a directive's form.
abbrev pub directive_value : Form → List KindAndText → Result Line LineFault
directive_value form.Text after = Ok line.Text
directive_value form.Data after = Ok line.Data
directive_value form.Entry after = named (label_name (row_of form.Entry).items after) (λ name. line.Entry name)
directive_value form.Global after = Ok line.Ignored
directive_value form.Proc after = Ok line.Ignored
directive_value form.Endp after = Ok line.Ignored
directive_value form.Skip after = Ok (line.Skip (u32_at (tokens after) 0))
directive_value _ after = Err fault.Form

abbrev pub directive_of : List Form → List KindAndText → Result Line LineFault
directive_of forms after = read_form forms (tokens after) (tokens after) >>= λ f. directive_value f after

-- No predicate stands before a directive.
abbrev pub alone : List KindAndText → Result Line LineFault → Result Line LineFault
alone [] value = value
alone (b ∷ before) value = Err fault.Form

abbrev pub formed : Form → List Form → List ℕ → List KindAndText → List KindAndText → Result Line LineFault
formed form.Data1 forms name before after = alone before (data_of size.One (tokens after))
formed form.Data2 forms name before after = alone before (data_of size.Two (tokens after))
formed form.Data4 forms name before after = alone before (data_of size.Four (tokens after))
formed form.Data8 forms name before after = alone before (data_of size.Eight (tokens after))
formed form.PredRel forms name before after = alone before (relation_of (tokens after))
formed f forms name before after = if is_instruction f then slot_of forms name before after else alone before (directive_of forms after)

-- A line whose leading name names these forms, the first of which decides what the line is.
abbrev pub line_by_forms : List Form → List ℕ → List KindAndText → List KindAndText → Result Line LineFault
line_by_forms [] name before after = Err fault.Name
line_by_forms (f ∷ fs) name before after = formed f (f ∷ fs) name before after

-- A line that a name leads.
abbrev pub line_led_by_name : List ℕ → List KindAndText → List KindAndText → Result Line LineFault
line_led_by_name name before after = line_by_forms (named_forms name) name before after

-- A mark that stands alone.
abbrev pub lone_mark : Line → List KindAndText → List KindAndText → Result Line LineFault
lone_mark value [] [] = Ok value
lone_mark value before after = Err fault.Form

abbrev pub template_name_text : TemplateName → List ℕ
template_name_text template.Mii = codes ".mii"
template_name_text template.Mlx = codes ".mlx"
template_name_text template.Mmi = codes ".mmi"
template_name_text template.Mfi = codes ".mfi"
template_name_text template.Mmf = codes ".mmf"
template_name_text template.Mib = codes ".mib"
template_name_text template.Mbb = codes ".mbb"
template_name_text template.Bbb = codes ".bbb"
template_name_text template.Mmb = codes ".mmb"
template_name_text template.Mfb = codes ".mfb"

abbrev pub all_template_names : List TemplateName
all_template_names =
    template.Mii ∷ template.Mlx ∷ template.Mmi ∷ template.Mfi ∷ template.Mmf ∷ template.Mib ∷ template.Mbb ∷ template.Bbb ∷ template.Mmb
    ∷ template.Mfb ∷ []

-- The template name that a lexeme is.
abbrev pub template_name_of : List ℕ → Option TemplateName
template_name_of text = find (λ s. bytes_eq (template_name_text s) text) all_template_names

abbrev pub opened_as : Option TemplateName → List KindAndText → List KindAndText → Result Line LineFault
opened_as None before after = Err fault.Name
opened_as (Some s) before after = lone_mark (line.Open s) before after

-- `{` and a template name
abbrev pub opening_brace : List KindAndText → List KindAndText → Result Line LineFault
opening_brace before [] = Err fault.Name
opening_brace before (w ∷ after) = opened_as (template_name_of w.1) before after

-- A line that a mark leads.
abbrev pub mark_led : Token → List KindAndText → List KindAndText → Result Line LineFault
mark_led t.Stop before after = lone_mark line.Stop before after
mark_led t.CloseBrace before after = lone_mark line.Close before after
mark_led t.OpenBrace before after = opening_brace before after
mark_led _ before after = Err fault.Name

abbrev pub line_led_by : KindAndText → List KindAndText → List KindAndText → Result Line LineFault
line_led_by (kind.Name, text) before after = line_led_by_name text before after
line_led_by (kind.Number, text) before after = Err fault.Name
line_led_by (kind.Quoted, text) before after = Err fault.Name
line_led_by (kind.Mark, text) before after = mark_led (token_of kind.Mark text) before after

abbrev led_by_some : Option KindAndText → List KindAndText → List KindAndText → Result Line LineFault
led_by_some None before after = Err fault.Name
led_by_some (Some w) before after = line_led_by w before after

abbrev pub led_at : List KindAndText → Option ℕ → Result Line LineFault
led_at ws None = Err fault.Name
led_at ws (Some k) = led_by_some (slice_get ws k) (take k ws) (drop (k + 1) ws)

-- A line that is no label.
abbrev pub line_without_label : List KindAndText → Result Line LineFault
line_without_label ws = led_at ws (lead_at (tokens ws))

abbrev pub is_name_lexeme : KindAndText → Bool
is_name_lexeme w = pick w.0 true false false false

abbrev pub is_colon : Token → Bool
is_colon t.Colon = true
is_colon _ = false

-- A label stands alone, and is spelled as no register by number.
abbrev pub label_of : List ℕ → List KindAndText → Result Line LineFault
label_of text [] = if is_some (numbered_register text) then Err fault.Form else named (name_of text) (λ name. line.Label name)
label_of text (w ∷ ws) = Err fault.Form

-- What the lexemes of a line say: nothing, a label where the second lexeme is a colon, or what the leading
-- lexeme leads.
abbrev pub line_of : List KindAndText → Result Line LineFault
line_of [] = Ok line.Empty
line_of (w ∷ []) = line_without_label (w ∷ [])
line_of (w ∷ x ∷ ws) =
    if is_name_lexeme w && is_colon (token_of x.0 x.1) then label_of w.1 ws else line_without_label (w ∷ x ∷ ws)

-- What the bytes of a line say, but for whether its instruction is listed.
abbrev pub reading_of : List ℕ → Result Line LineFault
reading_of bytes = if has_only_plain bytes then line_of (texts bytes (lexemes_from 0 0 bytes)) else Err fault.Char

-- The instruction of a slot line is listed.
abbrev pub IsListedLine : Line → Type 0
IsListedLine (line.Slot draft stop) = IsListed draft.insn
IsListedLine _ = Unit {0}

-- The line has this value.
pub record LineOf (bytes : List ℕ) (value : Line) : Type 0 where
  pub reading : reading_of bytes ≡ Ok value
  pub listed : IsListedLine value

-- The line has this first fault: where its bytes are read, that of its lexemes, and Form where all is read and the
-- instruction isn't listed. The law `faults_in_order` has the stages in which it is looked for.
abbrev pub FaultOf : List ℕ → LineFault → Type 0
FaultOf bytes e =
    (reading_of bytes ≡ Err e)
    ⊎ ((value : Line) × (reading_of bytes ≡ Ok value) × (IsListedLine value → ⊥) × (e ≡ fault.Form))
