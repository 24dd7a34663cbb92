-- A line that declares relations names predicates that relations may name.
use Rattle.std.proofs.Common.{◌≡◌, ◌≤◌, refl, subst, ℕ, ◌+◌, ◌*◌, ◌^◌, ◌%◌, Bool, true, false, ◌&&◌, ◌==◌, nat_le, List, [], ◌∷◌, length, Option, Some, None, Result, Ok, Err, arith}
use Rattle.std.specs.Prelude.{if◌then◌else◌, is_some, slice_get, take, drop}
use Rattle.std.specs.List.{All}
use Rattle.std.proofs.lemmas.Bool.Decides.{nat_tests}
use Rattle.asm_lexemes.specs.declared.fault.LineFault.{LineFault}
use Rattle.asm_lexemes.specs.declared.fault.LineFault.TheVariants as fault
use Rattle.asm_lexemes.specs.declared.tokens.Token.{Token}
use Rattle.asm_lexemes.specs.declared.tokens.Token.TheVariants as t
use Rattle.asm_lexemes.specs.declared.lexeme.LexemeKind.TheVariants as kind
use Rattle.asm_lexemes.specs.Bytes.{has_only_plain}
use Rattle.asm_lexemes.specs.Registers.{numbered_register}
use Rattle.asm_lexemes.specs.Tokens.{token_of}
use Rattle.asm_lexemes.specs.Lexemes.{lexemes_from}
use Rattle.asm_forms.specs.declared.choices.AccessSize.{AccessSize}
use Rattle.asm_forms.specs.declared.choices.AccessSize.TheVariants as size
use Rattle.asm_forms.specs.declared.form.Form.{Form}
use Rattle.asm_forms.specs.declared.form.Form.TheVariants as form
use Rattle.asm_forms.specs.Naming.{named_forms}
use Rattle.asm_forms.specs.Rows.{row_of, is_instruction}
use Rattle.asm_matching.specs.Matching.{read_form}
use Rattle.asm_matching.specs.Related.{IsRelated}
use Rattle.asm_matching.specs.Relations.{named_predicates, agreed_relation, relation_fault}
use Rattle.asm_matching.proofs.NamedPredicates.{are_predicates}
use Rattle.asm_instructions.specs.Instructions.{op_of}
use Rattle.asm_instructions.specs.Operands.{bytes}
use Rattle.asm_reading.specs.declared.line.Line.{Line}
use Rattle.asm_reading.specs.declared.line.Line.TheVariants as line
use Rattle.asm_reading.specs.declared.line.TemplateName.{TemplateName}
use Rattle.ia_insn.specs.declared.insn.Op.{Op}
use Rattle.asm_forms.specs.Items.{taken}
use Rattle.asm_reading.specs.Lines.{KindAndText, ◌>>=◌, or_fault, tokens, texts, name_of, label_name, lead_at, ends_in_stop, without_stop, predicate_of, draft_of, completers_or_none, slot_under, slot_of, data_field, agreed_data, numbers_of, data_fault, data_of, named, directive_value, directive_of, alone, formed, line_by_forms, lone_mark, template_name_of, opened_as, opening_brace, mark_led, line_led_by, led_at, line_without_label, is_name_lexeme, is_colon, label_of, line_of, reading_of, relation_of}

-- The predicates of a relation line.
abbrev pub NamesRelated : Line → Type 0
NamesRelated (line.Relation ps) = All IsRelated ps
NamesRelated value = Unit {0}

abbrev Relates : Result Line LineFault → Type 0
Relates (Ok value) = NamesRelated value
Relates (Err e) = Unit {0}

by_test : (b : Bool) (r q : Result Line LineFault) → (b ≡ true → Relates r) → Relates q → Relates (if b then r else q)
by_test true r q here there = here refl
by_test false r q here there = there

bound : {X : Type 0} (r : Result X LineFault) (f : X → Result Line LineFault) → ((x : X) → Relates (f x)) → Relates (r >>= f)
bound (Ok x) f h = h x
bound (Err e) f h = tt

both : (a b c : Bool) → (a && (b && c)) ≡ true → c ≡ true
both true true c e = e
both true false c e = absurd cc
both false b c e = absurd cc

relation_relates : (xs : List Token) → Relates (relation_of xs)
relation_relates xs =
    by_test ((agreed_relation [] xs == length xs) && ((length xs % 2 == 1) && nat_le 2 (length (named_predicates xs))))
    (Ok (line.Relation (named_predicates xs))) (Err (relation_fault (agreed_relation [] xs) xs))
    (λ e. (are_predicates xs (two (length (named_predicates xs)) (both (agreed_relation [] xs == length xs) (length xs % 2 == 1)
    (nat_le 2 (length (named_predicates xs))) e))).related) tt
  where
    two : (n : ℕ) → nat_le 2 n ≡ true → 2 ≤ n
    two n e = grind (arith, nat_tests)

data_relates : (z : AccessSize) (xs : List Token) → Relates (data_of z xs)
data_relates z xs =
    by_test ((agreed_data (data_field z) 0 xs == length xs) && (length xs % 2 == 1))
    (Ok (line.Numbers (bytes z) (numbers_of (2 ^ (8 * bytes z)) xs))) (Err (data_fault (agreed_data (data_field z) 0 xs) xs))
    (λ e. tt) tt

named_relates : (o : Option (List ℕ)) (value : List ℕ → Line) → ((name : List ℕ) → NamesRelated (value name)) → Relates (named o value)
named_relates None value h = tt
named_relates (Some name) value h = h name

directive_value_relates : (f : Form) (after : List KindAndText) → Relates (directive_value f after)
directive_value_relates form.Text after = tt
directive_value_relates form.Data after = tt
directive_value_relates form.Entry after = named_relates (label_name (row_of form.Entry).items after) _ (λ name. tt)
directive_value_relates form.Global after = tt
directive_value_relates form.Proc after = tt
directive_value_relates form.Endp after = tt
directive_value_relates form.Skip after = tt
directive_value_relates _ after = tt

directive_relates : (forms : List Form) (after : List KindAndText) → Relates (directive_of forms after)
directive_relates forms after =
    bound (read_form forms (tokens after) (tokens after)) (λ f. directive_value f after) (λ f. directive_value_relates f after)

slot_relates : (forms : List Form) (name : List ℕ) (before after : List KindAndText) → Relates (slot_of forms name before after)
slot_relates forms name before after =
    bound (predicate_of (tokens before)) (λ qp. slot_under qp forms name (tokens after) after)
    (λ qp. bound (read_form forms (without_stop (tokens after)) (tokens after)) (λ f. made qp f)
    (λ f. bound (op f) (λ x. Ok (line.Slot (draft_of f (completers_or_none f name) qp after x) (ends_in_stop (tokens after))))
    (λ x. tt)))
  where
    op : Form → Result Op LineFault
    op f = or_fault (op_of f (completers_or_none f name) (taken (row_of f).items (without_stop (tokens after)))) fault.Form

    made : ℕ → Form → Result Line LineFault
    made qp f = op f >>= λ x. Ok (line.Slot (draft_of f (completers_or_none f name) qp after x) (ends_in_stop (tokens after)))

alone_relates : (before : List KindAndText) (r : Result Line LineFault) → Relates r → Relates (alone before r)
alone_relates [] r h = h
alone_relates (b ∷ before) r h = tt

either_relates : (b : Bool) (r s : Result Line LineFault) → Relates r → Relates s → Relates (if b then r else s)
either_relates true r s h k = h
either_relates false r s h k = k

formed_relates : (f : Form) (forms : List Form) (name : List ℕ) (before after : List KindAndText)
    → Relates (formed f forms name before after)
formed_relates form.Data1 forms name before after = alone_relates before _ (data_relates size.One (tokens after))
formed_relates form.Data2 forms name before after = alone_relates before _ (data_relates size.Two (tokens after))
formed_relates form.Data4 forms name before after = alone_relates before _ (data_relates size.Four (tokens after))
formed_relates form.Data8 forms name before after = alone_relates before _ (data_relates size.Eight (tokens after))
formed_relates form.PredRel forms name before after = alone_relates before _ (relation_relates (tokens after))
formed_relates f forms name before after =
    either_relates (is_instruction f) (slot_of forms name before after) (alone before (directive_of forms after))
    (slot_relates forms name before after) (alone_relates before _ (directive_relates forms after))

worded_relates : (forms : List Form) (name : List ℕ) (before after : List KindAndText) → Relates (line_by_forms forms name before after)
worded_relates [] name before after = tt
worded_relates (f ∷ fs) name before after = formed_relates f (f ∷ fs) name before after

marked_relates : (value : Line) (before after : List KindAndText) → NamesRelated value → Relates (lone_mark value before after)
marked_relates value [] [] h = h
marked_relates value [] (w ∷ after) h = tt
marked_relates value (b ∷ before) after h = tt

template_name_relates : (o : Option TemplateName) (before after : List KindAndText) → Relates (opened_as o before after)
template_name_relates None before after = tt
template_name_relates (Some s) before after = marked_relates (line.Open s) before after tt

opened_relates : (before after : List KindAndText) → Relates (opening_brace before after)
opened_relates before [] = tt
opened_relates before (w ∷ after) = template_name_relates (template_name_of w.1) before after

mark_relates : (x : Token) (before after : List KindAndText) → Relates (mark_led x before after)
mark_relates t.Stop before after = marked_relates line.Stop before after tt
mark_relates t.CloseBrace before after = marked_relates line.Close before after tt
mark_relates t.OpenBrace before after = opened_relates before after
mark_relates _ before after = tt

led_by_relates : (w : KindAndText) (before after : List KindAndText) → Relates (line_led_by w before after)
led_by_relates (kind.Name, text) before after = worded_relates (named_forms text) text before after
led_by_relates (kind.Number, text) before after = tt
led_by_relates (kind.Quoted, text) before after = tt
led_by_relates (kind.Mark, text) before after = mark_relates (token_of kind.Mark text) before after

led_at_relates : (ws : List KindAndText) (o : Option ℕ) → Relates (led_at ws o)
led_at_relates ws None = tt
led_at_relates ws (Some k) = of (slice_get ws k) refl
  where
    of : (o : Option KindAndText) → slice_get ws k ≡ o → Relates (led_at ws (Some k))
    of None e = rw e tt
    of (Some w) e = rw e (led_by_relates w (take k ws) (drop (k + 1) ws))

label_relates : (text : List ℕ) (ws : List KindAndText) → Relates (label_of text ws)
label_relates text [] =
    by_test (is_some (numbered_register text)) (Err fault.Form) (named (name_of text) (λ name. line.Label name)) (λ e. tt)
    (named_relates (name_of text) (λ name. line.Label name) (λ name. tt))
label_relates text (w ∷ ws) = tt

value_relates : (ws : List KindAndText) → Relates (line_of ws)
value_relates [] = tt
value_relates (w ∷ []) = led_at_relates (w ∷ []) (lead_at (tokens (w ∷ [])))
value_relates (w ∷ x ∷ ws) =
    by_test (is_name_lexeme w && is_colon (token_of x.0 x.1)) (label_of w.1 ws) (line_without_label (w ∷ x ∷ ws)) (λ e. label_relates w.1 ws)
    (led_at_relates (w ∷ x ∷ ws) (lead_at (tokens (w ∷ x ∷ ws))))

pub line_relates : (bytes : List ℕ) (value : Line) → reading_of bytes ≡ Ok value → NamesRelated value
line_relates bytes value is =
    subst Relates is (by_test (has_only_plain bytes) (line_of (texts bytes (lexemes_from 0 0 bytes))) (Err fault.Char)
    (λ e. value_relates (texts bytes (lexemes_from 0 0 bytes))) tt)
