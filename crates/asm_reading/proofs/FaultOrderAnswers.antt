-- What a line's reading answers is what its stages find.
use Rattle.std.proofs.Common.{◌≡◌, ◌⊎◌, ◌≤◌, ◌∙◌, inl, inr, refl, sym, ℕ, zero, suc, ◌+◌, ◌%◌, ◌==◌, ◌&&◌, Bool, true, false, if◌then◌else◌, List, [], ◌∷◌, length, take, drop, Option, Some, None, Result, Ok, Err, arith}
use Rattle.std.specs.Prelude.{is_some, nat_le, slice_get}
use Rattle.std.specs.List.{find}
use Rattle.std.specs.Option.{option_and_then, option_map}
use Rattle.std.proofs.lemmas.Bool.{eqb-true}
use Rattle.std.proofs.lemmas.Option.{slice_get_within}
use Rattle.first_fault.specs.Stages.{Stage, IsFirstFault, ArePassed}
use Rattle.ia_program.proofs.Tests.{left}
use Rattle.asm_lexemes.specs.declared.tokens.Token.{Token}
use Rattle.asm_lexemes.specs.declared.tokens.Token.TheVariants as t
use Rattle.asm_lexemes.specs.declared.lexeme.LexemeKind.TheVariants as kind
use Rattle.asm_lexemes.specs.declared.fault.LineFault.{LineFault}
use Rattle.asm_lexemes.specs.declared.fault.LineFault.TheVariants as fault
use Rattle.asm_lexemes.specs.Registers.{numbered_register}
use Rattle.asm_lexemes.specs.Tokens.{token_of}
use Rattle.asm_forms.specs.declared.choices.AccessSize.{AccessSize}
use Rattle.asm_forms.specs.declared.choices.AccessSize.TheVariants as size
use Rattle.asm_forms.specs.declared.form.Form.{Form}
use Rattle.asm_forms.specs.declared.form.Form.TheVariants as form
use Rattle.asm_forms.specs.Items.{taken}
use Rattle.asm_forms.specs.Naming.{named_forms}
use Rattle.asm_forms.specs.Rows.{row_of, is_instruction}
use Rattle.asm_forms.specs.Spelled.{is_spelled}
use Rattle.asm_matching.specs.Matching.{agreed, reach, fault_of, read_form}
use Rattle.asm_matching.specs.Relations.{named_predicates, agreed_relation}
use Rattle.asm_instructions.specs.Instructions.{op_of}
use Rattle.asm_reading.specs.declared.line.Line.{Line}
use Rattle.asm_reading.specs.declared.line.Line.TheVariants as line
use Rattle.asm_reading.specs.declared.line.TemplateName.{TemplateName}
use Rattle.asm_reading.specs.Lines.{◌>>=◌, or_fault, KindAndText, tokens, label_name, name_of, lead_at, without_stop, predicate_of, completers_or_none, slot_under, slot_of, data_field, agreed_data, data_of, relation_of, named, directive_value, directive_of, alone, formed, line_by_forms, lone_mark, template_name_of, opened_as, mark_led, line_led_by, led_at, line_without_label, is_name_lexeme, is_colon, label_of, line_of}
use Rattle.asm_reading.specs.FaultOrder.{Beside, beside, beside_name, beside_mark, beside_lexeme, beside_at, beside_lead, beside_of, name_instruction, fault_in, predicate_fault, fault_before, Operands, Numbers, Predicates, OfForms, operands_of, right_count, fault_among, before_stage, after_stage}
use Rattle.asm_reading.proofs.FaultOrderFronts.{right_within, fault_front, first_wrong, spelled_all, spelled_with_stop, found_all}

-- A fault is what the stages find, or Form where they find nothing.
abbrev pub IsFoundFault : List (Stage LineFault) → LineFault → Type 0
IsFoundFault stages e = IsFirstFault stages e ⊎ (ArePassed stages × (e ≡ fault.Form))

abbrev pub IsFound : {A : Type 0} → List (Stage LineFault) → Result A LineFault → Type 0
IsFound stages (Ok x) = ArePassed stages
IsFound stages (Err e) = IsFoundFault stages e

-- The later stages, after one that is passed.
past : {A : Type 0} (s : Stage LineFault) (later : List (Stage LineFault)) (r : Result A LineFault) → s.IsPassed → IsFound later r
    → IsFound (s ∷ later) r
past s later (Ok x) passed found = (passed, found)
past s later (Err e) passed (inl found) = inl (inr (passed, found))
past s later (Err e) passed (inr (all, is)) = inr ((passed, all), is)

-- No fault but Form.
abbrev OnlyForm : {A : Type 0} → Result A LineFault → Type 0
OnlyForm (Ok x) = Unit {0}
OnlyForm (Err e) = e ≡ fault.Form

-- Where all stages are passed.
all_passed : {A : Type 0} (stages : List (Stage LineFault)) (r : Result A LineFault) → ArePassed stages → OnlyForm r → IsFound stages r
all_passed stages (Ok x) passed only = passed
all_passed stages (Err e) passed only = inr (passed, only)

-- One step and then the next, which has no fault but Form.
then_found : {A B : Type 0} (stages : List (Stage LineFault)) (r : Result A LineFault) (f : A → Result B LineFault) → IsFound stages r
    → ((x : A) → OnlyForm (f x)) → IsFound stages (r >>= f)
then_found stages (Ok x) f found only = all_passed stages (f x) found (only x)
then_found stages (Err e) f found only = found

then_only : {A B : Type 0} (r : Result A LineFault) (f : A → Result B LineFault) → OnlyForm r → ((x : A) → OnlyForm (f x))
    → OnlyForm (r >>= f)
then_only (Ok x) f h k = k x
then_only (Err e) f h k = h

or_only : {A : Type 0} (o : Option A) → OnlyForm (or_fault o fault.Form)
or_only None = refl
or_only (Some x) = tt

-- The stage of the tokens after a leading lexeme of these forms, by itself.
abbrev after_stages : List Form → List Token → List (Stage LineFault)
after_stages forms xs = after_stage (record { forms = forms; before = []; after = xs }) ∷ []

-- No token is left.
no_token : (z : Operands) (forms : List Form) (xs : List Token) → slice_get xs (right_count z forms xs) ≡ None
    → fault_among z forms xs ≡ fault.Form
no_token (Numbers z) forms xs e = rw e refl
no_token Predicates forms xs e = rw e refl
no_token OfForms forms xs e = rw e refl

none_past : (xs : List Token) (k : ℕ) → slice_get xs k ≡ None → length xs ≤ k
none_past [] k e = omega arith
none_past (x ∷ xs) zero e = cc
none_past (x ∷ xs) (suc k) e = let l : length xs ≤ k = none_past xs k e in omega (arith, l)

all_right : (k n : ℕ) → k ≤ n → n ≤ k → k ≡ n
all_right k n h l = omega (arith, h, l)

-- The fault where no more tokens are right is the first wrong one's, or Form where no token is left.
stopped_at : (forms : List Form) (xs : List Token) (o : Option Token) (e : LineFault)
    → slice_get xs (right_count (operands_of forms) forms xs) ≡ o
    → e ≡ fault_among (operands_of forms) forms xs → IsFoundFault (after_stages forms xs) e
stopped_at forms xs None e none is =
    inr (
      (all_right _ _ (right_within (operands_of forms) forms xs) (none_past xs _ none), tt),
      is ∙ no_token (operands_of forms) forms xs none,
    )
stopped_at forms xs (Some x) e there is =
    inl (inl (
      right_count (operands_of forms) forms xs,
      is ∙ sym (fault_front (operands_of forms) forms xs),
      first_wrong forms xs _ refl (slice_get_within xs _ x there),
    ))

stopped : (forms : List Form) (xs : List Token) (e : LineFault) → e ≡ fault_among (operands_of forms) forms xs
    → IsFoundFault (after_stages forms xs) e
stopped forms xs e is = stopped_at forms xs _ e refl is

-- The fault of what forms have.
same_fault : (z : Operands) (forms : List Form) (xs : List Token) → z ≡ OfForms → fault_of forms xs ≡ fault_among z forms xs
same_fault z forms xs e = rw e refl

-- A value or a fault.
or_found : {A : Type 0} (stages : List (Stage LineFault)) (o : Option A) (e : LineFault) → ((x : A) → o ≡ Some x → ArePassed stages)
    → IsFoundFault stages e → IsFound stages (or_fault o e)
or_found stages None e passed found = found
or_found stages (Some x) e passed found = passed x refl

if_found : {A : Type 0} (stages : List (Stage LineFault)) (b : Bool) (x : A) (e : LineFault) → (b ≡ true → ArePassed stages)
    → IsFoundFault stages e → IsFound {A = A} stages (if b then Ok x else Err e)
if_found stages true x e passed found = passed refl
if_found stages false x e passed found = found

reach_all : (z : Operands) (forms : List Form) (xs : List Token) → z ≡ OfForms → length xs ≤ reach forms xs
    → right_count z forms xs ≡ length xs
reach_all z forms xs e h = rw e (omega (arith, h, right_within OfForms forms xs))

-- The form of the operands.
form_found : (forms : List Form) (operands xs : List Token) → operands_of forms ≡ OfForms
    → ((f : Form) → is_spelled operands f ≡ true → length xs ≤ agreed (row_of f).items xs)
    → IsFound (after_stages forms xs) (read_form forms operands xs)
form_found forms operands xs by_form all =
    or_found (after_stages forms xs) (find (is_spelled operands) forms) (fault_of forms xs)
    (λ f is. (reach_all (operands_of forms) forms xs by_form (found_all (is_spelled operands) xs all forms f is), tt))
    (stopped forms xs (fault_of forms xs) (same_fault (operands_of forms) forms xs by_form))

-- The numbers of a data line.
data_found : (z : AccessSize) (forms : List Form) (xs : List Token) → operands_of forms ≡ Numbers z
    → IsFound (after_stages forms xs) (data_of z xs)
data_found z forms xs is =
    if_found (after_stages forms xs) ((agreed_data (data_field z) 0 xs == length xs) && (length xs % 2 == 1)) _ _
    (λ h. (rw is (eqb-true _ _ (left _ _ h)), tt))
    (stopped forms xs _ (rw is refl))

-- The predicates of a relation line.
relation_found : (forms : List Form) (xs : List Token) → operands_of forms ≡ Predicates → IsFound (after_stages forms xs) (relation_of xs)
relation_found forms xs is =
    if_found (after_stages forms xs) ((agreed_relation [] xs == length xs)
    && ((length xs % 2 == 1) && nat_le 2 (length (named_predicates xs)))) _ _
    (λ h. (rw is (eqb-true _ _ (left _ _ h)), tt))
    (stopped forms xs _ (rw is refl))

named_only : (o : Option (List ℕ)) (value : List ℕ → Line) → OnlyForm (named o value)
named_only None value = refl
named_only (Some name) value = tt

directive_value_only : (f : Form) (after : List KindAndText) → OnlyForm (directive_value f after)
directive_value_only form.Text after = tt
directive_value_only form.Data after = tt
directive_value_only form.Entry after = named_only (label_name (row_of form.Entry).items after) (λ name. line.Entry name)
directive_value_only form.Global after = tt
directive_value_only form.Proc after = tt
directive_value_only form.Endp after = tt
directive_value_only form.Skip after = tt
directive_value_only _ after = refl

directive_found : (forms : List Form) (after : List KindAndText) → operands_of forms ≡ OfForms
    → IsFound (after_stages forms (tokens after)) (directive_of forms after)
directive_found forms after by_form =
    then_found (after_stages forms (tokens after)) _ _ (form_found forms (tokens after) (tokens after) by_form (spelled_all (tokens after)))
    (λ f. directive_value_only f after)

slot_under_found : (qp : ℕ) (forms : List Form) (name : List ℕ) (xs : List Token) (after : List KindAndText) → operands_of forms ≡ OfForms
    → IsFound (after_stages forms xs) (slot_under qp forms name xs after)
slot_under_found qp forms name xs after by_form =
    then_found (after_stages forms xs) _ _ (form_found forms (without_stop xs) xs by_form (spelled_with_stop xs))
    (λ f. then_only _ _ (or_only (op_of f (completers_or_none f name) (taken (row_of f).items (without_stop xs)))) (λ x. tt))

-- The stages beside a leading lexeme.
abbrev pub beside_stages : Beside → List (Stage LineFault)
beside_stages b = before_stage b ∷ after_stage b ∷ []

predicate_found : (b : Beside) (r : Result ℕ LineFault) (k : ℕ → Result Line LineFault) → fault_before b ≡ fault_in r
    → ((qp : ℕ) → IsFound (after_stage b ∷ []) (k qp)) → IsFound (beside_stages b) (r >>= k)
predicate_found b (Ok qp) k is found = past (before_stage b) (after_stage b ∷ []) (k qp) is (found qp)
predicate_found b (Err e) k is found = inl (inl (e, refl, is))

same_predicate : (instruction : Bool) (xs : List Token) → instruction ≡ true → predicate_fault instruction xs ≡ fault_in (predicate_of xs)
same_predicate true [] is = refl
same_predicate true (x ∷ xs) is = refl
same_predicate false xs is = cc

slot_found : (forms : List Form) (name : List ℕ) (before after : List KindAndText) → name_instruction forms ≡ true
    → operands_of forms ≡ OfForms
    → IsFound (beside_stages (beside forms before after)) (slot_of forms name before after)
slot_found forms name before after is by_form =
    predicate_found (beside forms before after) (predicate_of (tokens before)) (λ qp. slot_under qp forms name (tokens after) after)
    (same_predicate (name_instruction forms) (tokens before) is) (λ qp. slot_under_found qp forms name (tokens after) after by_form)

nothing_before : (instruction : Bool) (x : Token) (xs : List Token) → instruction ≡ false
    → predicate_fault instruction (x ∷ xs) ≡ Some fault.Form
nothing_before true x xs other = cc
nothing_before false x xs other = refl

none_before : (instruction : Bool) → predicate_fault instruction [] ≡ None
none_before true = refl
none_before false = refl

alone_found : (forms : List Form) (before after : List KindAndText) (r : Result Line LineFault) → name_instruction forms ≡ false
    → IsFound (after_stages forms (tokens after)) r → IsFound (beside_stages (beside forms before after)) (alone before r)
alone_found forms [] after r other found =
    past (before_stage (beside forms [] after)) (after_stages forms (tokens after)) r (none_before (name_instruction forms)) found
alone_found forms (b ∷ before) after r other found = inl (inl (fault.Form, refl, nothing_before (name_instruction forms) _ _ other))

-- Lines by the first of their forms.
by_row_found : (f : Form) (fs : List Form) (name : List ℕ) (before after : List KindAndText) (b : Bool) → is_instruction f ≡ b
    → operands_of (f ∷ fs) ≡ OfForms
    → IsFound (beside_stages (beside (f ∷ fs) before after)) (if b then slot_of (f ∷ fs) name before after else alone before
    (directive_of (f ∷ fs) after))
by_row_found f fs name before after true is by_form = slot_found (f ∷ fs) name before after is by_form
by_row_found f fs name before after false is by_form = alone_found (f ∷ fs) before after _ is (directive_found (f ∷ fs) after by_form)

formed_found : (f : Form) (fs : List Form) (name : List ℕ) (before after : List KindAndText)
    → IsFound (beside_stages (beside (f ∷ fs) before after)) (formed f (f ∷ fs) name before after)
formed_found form.Data1 fs name before after =
    alone_found (form.Data1 ∷ fs) before after _ refl (data_found size.One (form.Data1 ∷ fs) (tokens after) refl)
formed_found form.Data2 fs name before after =
    alone_found (form.Data2 ∷ fs) before after _ refl (data_found size.Two (form.Data2 ∷ fs) (tokens after) refl)
formed_found form.Data4 fs name before after =
    alone_found (form.Data4 ∷ fs) before after _ refl (data_found size.Four (form.Data4 ∷ fs) (tokens after) refl)
formed_found form.Data8 fs name before after =
    alone_found (form.Data8 ∷ fs) before after _ refl (data_found size.Eight (form.Data8 ∷ fs) (tokens after) refl)
formed_found form.PredRel fs name before after =
    alone_found (form.PredRel ∷ fs) before after _ refl (relation_found (form.PredRel ∷ fs) (tokens after) refl)
formed_found f fs name before after = by_row_found f fs name before after (is_instruction f) refl refl

-- A leading lexeme that names nothing is Name, and else the stages beside it find what is answered.
abbrev pub Answers : Option Beside → Result Line LineFault → Type 0
Answers None r = r ≡ Err fault.Name
Answers (Some b) r = IsFound (beside_stages b) r

among_answers : (forms : List Form) (name : List ℕ) (before after : List KindAndText)
    → Answers (beside_name forms before after) (line_by_forms forms name before after)
among_answers [] name before after = refl
among_answers (f ∷ fs) name before after = formed_found f fs name before after

-- What stands after a lexeme that names no form.
beside_none : (w : KindAndText) (ws : List KindAndText) → IsFoundFault (beside_stages (beside [] [] (w ∷ ws))) fault.Form
beside_none w ws = inl (inr (refl, inl (0, refl, record { right = refl; wrong = λ e. omega (arith, e) })))

marked_found : (value : Line) (before after : List KindAndText)
    → IsFound (beside_stages (beside [] before after)) (lone_mark value before after)
marked_found value [] [] = (refl, (refl, tt))
marked_found value [] (w ∷ ws) = beside_none w ws
marked_found value (b ∷ bs) after = inl (inl (fault.Form, refl, refl))

opened_as_answers : (o : Option TemplateName) (before after : List KindAndText)
    → Answers (option_map (λ s. beside [] before after) o) (opened_as o before after)
opened_as_answers None before after = refl
opened_as_answers (Some s) before after = marked_found (line.Open s) before after

mark_led_answers : (x : Token) (before after : List KindAndText) → Answers (beside_mark x before after) (mark_led x before after)
mark_led_answers t.Stop before after = marked_found line.Stop before after
mark_led_answers t.CloseBrace before after = marked_found line.Close before after
mark_led_answers t.OpenBrace before [] = refl
mark_led_answers t.OpenBrace before (w ∷ after) = opened_as_answers (template_name_of w.1) before after
mark_led_answers _ before after = refl

-- Lines by their leading lexemes, and by the positions of these.
led_by_answers : (w : KindAndText) (before after : List KindAndText) → Answers (beside_lexeme w before after) (line_led_by w before after)
led_by_answers (kind.Name, text) before after = among_answers (named_forms text) text before after
led_by_answers (kind.Number, text) before after = refl
led_by_answers (kind.Quoted, text) before after = refl
led_by_answers (kind.Mark, text) before after = mark_led_answers (token_of kind.Mark text) before after

led_at_answers : (ws : List KindAndText) (o : Option ℕ) → Answers (option_and_then (beside_at ws) o) (led_at ws o)
led_at_answers ws None = refl
led_at_answers ws (Some k) =
    elim (slice_get ws k) as (λ o. slice_get ws k ≡ o → Answers (beside_at ws k) (led_at ws (Some k))) [
      | None ↦ λ e. rw e refl
      | Some w ↦ λ e. rw e (led_by_answers w (take k ws) (drop (k + 1) ws))
    ] refl

led_answers : (ws : List KindAndText) → Answers (beside_lead ws) (line_without_label ws)
led_answers ws = led_at_answers ws (lead_at (tokens ws))

if_only : {A : Type 0} (b : Bool) (r : Result A LineFault) → OnlyForm r → OnlyForm (if b then Err fault.Form else r)
if_only true r only = refl
if_only false r only = only

label_found : (text : List ℕ) (ws : List KindAndText) → IsFound (beside_stages (beside [] [] ws)) (label_of text ws)
label_found text [] =
    all_passed (beside_stages (beside [] [] [])) _ (refl, (refl, tt))
    (if_only (is_some (numbered_register text)) _ (named_only (name_of text) (λ name. line.Label name)))
label_found text (w ∷ ws) = beside_none w ws

-- Whole lines of plain bytes.
pub value_answers : (ws : List KindAndText) → Answers (beside_of ws) (line_of ws)
value_answers [] = (refl, (refl, tt))
value_answers (w ∷ []) = led_answers (w ∷ [])
value_answers (w ∷ x ∷ ws) =
    elim (is_name_lexeme w && is_colon (token_of x.0 x.1)) as (λ b.
    Answers (if b then Some (beside [] [] ws) else beside_lead (w ∷ x ∷ ws)) (if b then label_of w.1 ws else line_without_label (w ∷ x ∷ ws))) [
      | true ↦ label_found w.1 ws
      | false ↦ led_answers (w ∷ x ∷ ws)
    ]
