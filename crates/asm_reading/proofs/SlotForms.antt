-- Which names are those of slot lines: all forms of a name are of slot lines, or none is.
use Rattle.std.proofs.Common.{◌≡◌, refl, ◌∙◌, ap, sym, ℕ, Bool, true, false, ◌||◌, ◌&&◌, cond, nat_eq, List, [], ◌∷◌, map, Option, Some, None}
use Rattle.std.specs.Prelude.{filter, Ok, IfSome}
use Rattle.std.specs.List.{find, list_all, starts_with}
use Rattle.std.specs.Option.{option_map}
use Rattle.std.proofs.lemmas.Bool.{eqb-true, and_from, cond-true}
use Rattle.ia_insn.specs.declared.insn.Op.{Op}
use Rattle.ia_program.proofs.Tests.{left, right}
use Rattle.asm_lexemes.specs.declared.tokens.Token.{Token}
use Rattle.asm_lexemes.specs.declared.fault.LineFault.TheVariants as fault
use Rattle.asm_forms.specs.declared.completer.Completer.{Completer}
use Rattle.asm_forms.specs.declared.completer.CompleterSet.{CompleterSet}
use Rattle.asm_forms.specs.declared.form.Form.{Form}
use Rattle.asm_forms.specs.declared.form.Form.TheVariants as form
use Rattle.asm_forms.specs.Items.{taken}
use Rattle.asm_forms.specs.Naming.{is_named, begins, has_completers_if, named_forms, completers}
use Rattle.asm_forms.specs.Rows.{FormRow, rows, row_of, is_instruction}
use Rattle.asm_forms.specs.Spelled.{is_spelled}
use Rattle.asm_matching.specs.Matching.{read_form}
use Rattle.asm_instructions.specs.Instructions.{op_of}
use Rattle.asm_reading.specs.declared.line.Line.{Line}
use Rattle.asm_reading.specs.declared.line.Line.TheVariants as line
use Rattle.asm_reading.specs.Lines.{◌>>=◌, or_fault, KindAndText, draft_of, ends_in_stop, completers_or_none, directive_of, alone, formed, line_by_forms, line_led_by_name, slot_of, slot_under, predicate_of, tokens, without_stop}
use Rattle.asm_reading.specs.SlotReading.{slot_line, is_directive_name}

formed_slot : (f : Form) (forms : List Form) (name : List ℕ) (before after : List KindAndText) → is_instruction f ≡ true
    → formed f forms name before after ≡ slot_of forms name before after
formed_slot form.Data1 forms name before after h = cc
formed_slot form.Data2 forms name before after h = cc
formed_slot form.Data4 forms name before after h = cc
formed_slot form.Data8 forms name before after h = cc
formed_slot form.PredRel forms name before after h = cc
formed_slot f forms name before after h =
    cond-true (is_instruction f) (slot_of forms name before after) (alone before (directive_of forms after)) h

pub slot_first : (fs : List Form) (p : Form → Bool) (f : Form) (name : List ℕ) (before after : List KindAndText)
    → list_all is_instruction fs ≡ true → find p fs ≡ Some f → line_by_forms fs name before after ≡ slot_of fs name before after
slot_first [] p f name before after h e = cc
slot_first (g ∷ gs) p f name before after h e = formed_slot g (g ∷ gs) name before after (left _ _ h)

-- What a stem begins with, so does a name of it.
same_byte : (c d : ℕ) → nat_eq d c ≡ true → c ≡ d
same_byte c d h = sym (eqb-true d c h)

directive_so : (name w : List ℕ) → starts_with nat_eq name w ≡ true → is_directive_name w ≡ true → is_directive_name name ≡ true
directive_so name [] h k = cc
directive_so [] (d ∷ w) h k = cc
directive_so (c ∷ []) (d ∷ []) h k = ap (λ n. nat_eq n 46) (same_byte c d (left _ _ h)) ∙ k
directive_so (c ∷ b ∷ name) (d ∷ []) h k = rw (same_byte c d (left _ _ h), k) refl
directive_so (c ∷ []) (d ∷ e ∷ w) h k = let none : false ≡ true = right (nat_eq d c) false h in cc
directive_so (c ∷ b ∷ name) (d ∷ e ∷ w) h k =
    let first : nat_eq d c ≡ true = left _ _ h in
    let rest : (nat_eq e b && starts_with nat_eq name w) ≡ true = right (nat_eq d c) _ h in
    rw (same_byte c d first, same_byte b e (left _ _ rest)) k

-- The rows of other stems are of slot lines.
stems_tell : list_all (λ r. is_directive_name r.stem || is_instruction r.form) rows ≡ true
stems_tell = refl

named_begins : (b : Bool) (sets : List (CompleterSet × ℕ)) (rest : List ℕ) → has_completers_if b sets rest ≡ true → b ≡ true
named_begins true sets rest h = refl
named_begins false sets rest h = h

one_slot : (name : List ℕ) (r : FormRow) → is_directive_name name ≡ false → (is_directive_name r.stem || is_instruction r.form) ≡ true
    → is_named name r ≡ true → is_instruction r.form ≡ true
one_slot name r plain known named = other (is_directive_name r.stem) refl known
  where
    other : (b : Bool) → b ≡ is_directive_name r.stem → (b || is_instruction r.form) ≡ true → is_instruction r.form ≡ true
    other false e k = k
    other true e k =
        let so : is_directive_name name ≡ true = directive_so name r.stem (left _ _ (named_begins (begins name r.stem) r.sets _ named))
        (sym e) in cc

kept_slots : (name : List ℕ) (rs : List FormRow) → is_directive_name name ≡ false
    → list_all (λ r. is_directive_name r.stem || is_instruction r.form) rs ≡ true
    → list_all is_instruction (map (λ r. r.form) (filter (is_named name) rs)) ≡ true
kept_slots name [] plain known = refl
kept_slots name (r ∷ rs) plain known = kept_one (is_named name r) refl (kept_slots name rs plain (right _ _ known))
  where
    kept_one : (b : Bool) → b ≡ is_named name r → list_all is_instruction (map (λ q. q.form) (filter (is_named name) rs)) ≡ true
        → list_all is_instruction (map (λ q. q.form) (cond b (r ∷ filter (is_named name) rs) (filter (is_named name) rs))) ≡ true
    kept_one true e m = and_from _ _ (one_slot name r plain (left _ _ known) (sym e)) m
    kept_one false e m = m

pub all_slots : (name : List ℕ) → is_directive_name name ≡ false → list_all is_instruction (named_forms name) ≡ true
all_slots name plain = kept_slots name rows plain stems_tell

-- What is made of an instruction, where there is one.
lined : (o : Option Op) (f : Op → Line) → (or_fault o fault.Form >>= λ x. Ok (f x)) ≡ or_fault (option_map f o) fault.Form
lined None f = refl
lined (Some x) f = refl

-- A form that is read makes its slot line, or has the fault that it makes none.
pub slot_made : (qp : ℕ) (forms : List Form) (name : List ℕ) (xs : List Token) (after : List KindAndText) (f : Form) (o : Option Line)
    → read_form forms (without_stop xs) xs ≡ Ok f → slot_line qp f (completers_or_none f name) xs after ≡ o
    → slot_under qp forms name xs after ≡ or_fault o fault.Form
slot_made qp forms name xs after f o read is =
    rw read (lined (op_of f (completers_or_none f name) (taken (row_of f).items (without_stop xs)))
    (λ x. line.Slot (draft_of f (completers_or_none f name) qp after x) (ends_in_stop xs))
    ∙ ap (λ o. or_fault o fault.Form) is)

pub found_read : (forms : List Form) (operands xs : List Token) (f : Form) → find (is_spelled operands) forms ≡ Some f
    → read_form forms operands xs ≡ Ok f
found_read forms operands xs f h = rw h refl

-- A slot line whose parts are found is what the name says.
slot_read : (name : List ℕ) (before after : List KindAndText) (qp : ℕ) (f : Form) (cs : List Completer) (value : Line)
    → is_directive_name name ≡ false → predicate_of (tokens before) ≡ Ok qp
    → find (is_spelled (without_stop (tokens after))) (named_forms name) ≡ Some f
    → completers f name ≡ Some cs → slot_line qp f cs (tokens after) after ≡ Some value → line_led_by_name name before after ≡ Ok value
slot_read name before after qp f cs value plain guarded found named is =
    let xs = tokens after in
    let all : slot_line qp f (completers_or_none f name) xs after ≡ Some value = rw named is in
    slot_first (named_forms name) (is_spelled (without_stop xs)) f name before after (all_slots name plain) found
    ∙ ap (λ p. p >>= λ q. slot_under q (named_forms name) name xs after) guarded
    ∙ slot_made qp (named_forms name) name xs after f (Some value) (found_read (named_forms name) (without_stop xs) xs f found) all

pub slot_if_read : (name : List ℕ) (before after : List KindAndText) (qp : ℕ) (f : Form) (cs : List Completer) (o : Option Line)
    → is_directive_name name ≡ false → predicate_of (tokens before) ≡ Ok qp
    → find (is_spelled (without_stop (tokens after))) (named_forms name) ≡ Some f
    → completers f name ≡ Some cs → o ≡ slot_line qp f cs (tokens after) after → IfSome o (λ value. line_led_by_name name before after ≡ Ok value)
slot_if_read name before after qp f cs None plain guarded found named is = tt
slot_if_read name before after qp f cs (Some value) plain guarded found named is =
    slot_read name before after qp f cs value plain guarded found named (sym is)

-- What holds of a value that is made holds of it where it is put.
pub put_there : {A : Type 0} (P : Line → Type 0) (r : Option A) (value : Line) → IfSome (option_map (λ x. value) r) P
    → IfSome r (λ x. P value)
put_there P None value h = tt
put_there P (Some x) value h = h
