-- What the order of the stages says of single faults.
use Rattle.std.proofs.Common.{◌≡◌, ◌⊎◌, ◌↔◌, inl, inr, refl, sym, ap, subst, ℕ, suc, ◌+◌, ◌&&◌, ◌||◌, not, Bool, true, false, if◌then◌else◌, List, [], ◌∷◌, ◌++◌, length, take, Option, Some, None}
use Rattle.std.specs.Prelude.{unwrap_or, slice_get, IsTrue, IsSome, IsNone}
use Rattle.std.proofs.Math.Numerals.{add-one}
use Rattle.std.proofs.Math.Seq.{take-append_seam}
use Rattle.first_fault.specs.Stages.{unless, IsFirstFault}
use Rattle.asm_lexemes.specs.declared.tokens.Token.{Token}
use Rattle.asm_lexemes.specs.declared.tokens.Token.TheVariants as t
use Rattle.asm_lexemes.specs.declared.fault.LineFault.{LineFault}
use Rattle.asm_lexemes.specs.declared.fault.LineFault.TheVariants as fault
use Rattle.asm_lexemes.specs.Bytes.{has_only_plain}
use Rattle.asm_forms.specs.declared.form.Form.{Form}
use Rattle.asm_forms.specs.Items.{is_long_name, begins_with_letter}
use Rattle.asm_matching.specs.Matching.{reach, number_fault, fault_at}
use Rattle.asm_matching.specs.Related.{is_related}
use Rattle.asm_matching.specs.Relations.{wants_predicate, agreed_relation, unrelated_fault, relation_fault_at}
use Rattle.asm_reading.specs.Lines.{predicate_of, data_field, agreed_data, FaultOf}
use Rattle.asm_reading.specs.FaultOrder.{lexemes_of, Beside, nothing, beside_of, name_instruction, fault_in, predicate_fault, fault_before, Operands, Numbers, Predicates, OfForms, operands_of, AreRight, fault_among, before_stage, after_stage, HasValue, HasBeside}
use Rattle.asm_reading.proofs.FaultOrder.{stages, fault_found, found_fault, no_value}
use Rattle.asm_reading.proofs.SomeAnswer.{line_or_fault}

-- One of the four faults that come of what stands beside a leading lexeme.
abbrev IsBeside : LineFault → Type 0
IsBeside fault.Char = ⊥
IsBeside fault.Name = ⊥
IsBeside _ = Unit {0}

if_beside : (b : Bool) (d e : LineFault) → IsBeside d → IsBeside e → IsBeside (if b then d else e)
if_beside true d e hd he = hd
if_beside false d e hd he = he

number_beside : (x : Token) → IsBeside (number_fault x)
number_beside (t.Number s m) = tt
number_beside t.TooLarge = tt
number_beside _ = tt

token_beside : (register number label : Bool) (o : Option Token) → IsBeside (fault_at register number label o)
token_beside register number label None = tt
token_beside register number label (Some x) =
    if_beside (label && is_long_name x) _ _ tt
    (if_beside (register && (begins_with_letter x || not number)) _ _ tt (if_beside number _ _ (number_beside x) tt))

unrelated_beside : (x : Token) → IsBeside (unrelated_fault x)
unrelated_beside (t.Pr p) = if_beside (is_related p) _ _ tt tt
unrelated_beside _ = tt

relation_beside : (wanted : Bool) (o : Option Token) → IsBeside (relation_fault_at wanted o)
relation_beside wanted None = tt
relation_beside wanted (Some x) = if_beside wanted _ _ (unrelated_beside x) tt

among_beside : (z : Operands) (forms : List Form) (xs : List Token) → IsBeside (fault_among z forms xs)
among_beside Predicates forms xs = relation_beside (wants_predicate (agreed_relation [] xs)) (slice_get xs (agreed_relation [] xs))
among_beside (Numbers z) forms xs = token_beside false _ false (slice_get xs (agreed_data (data_field z) 0 xs))
among_beside OfForms forms xs = token_beside _ _ _ (slice_get xs (reach forms xs))

-- A predicate's too.
abbrev AreBeside : Option LineFault → Type 0
AreBeside None = Unit {0}
AreBeside (Some e) = IsBeside e

predicate_beside : (xs : List Token) → AreBeside (fault_in (predicate_of xs))
predicate_beside [] = tt
predicate_beside (x ∷ []) = tt
predicate_beside (x ∷ t.Pr p ∷ t.CloseParenthesis ∷ []) = tt
predicate_beside (x ∷ t.Pr p ∷ ys) = tt
predicate_beside (x ∷ y ∷ ys) = tt

before_beside : (instruction : Bool) (xs : List Token) → AreBeside (predicate_fault instruction xs)
before_beside true [] = tt
before_beside false [] = tt
before_beside false (x ∷ xs) = tt
before_beside true (x ∷ xs) = predicate_beside (x ∷ xs)

-- Only the first two stages find Char and Name.
later_beside : (b : Beside) (Last : Type 0) (e : LineFault) → IsFirstFault (before_stage b ∷ after_stage b ∷ unless Last fault.Form ∷ []) e
    → IsBeside e
later_beside b Last e (inl (f, is, found)) =
    subst IsBeside (sym is) (subst AreBeside found (before_beside (name_instruction b.forms) b.before))
later_beside b Last e (inr (before, inl (at, is, found))) =
    subst IsBeside (sym is) (among_beside (operands_of b.forms) b.forms (take (at + 1) b.after))
later_beside b Last e (inr (before, inr (after, inl (key, is, found)))) = subst IsBeside (sym is) tt
later_beside b Last e (inr (before, inr (after, inr (value, found)))) = absurd found

not_true : (b : Bool) → ¬ IsTrue b → b ≡ false
not_true true h = absurd (h refl)
not_true false h = refl

not_both : (b : Bool) → b ≡ false → ¬ IsTrue b
not_both b h t = cc

not_some : {A : Type 0} (o : Option A) → ¬ IsSome o → IsNone o
not_some None h = refl
not_some (Some x) h = absurd (h refl)

none_some : {A : Type 0} (o : Option A) → IsNone o → ¬ IsSome o
none_some None h s = cc
none_some (Some x) h s = cc

char_read : (plain : Bool) (o : Option Beside) (Last : Type 0) → IsFirstFault (stages plain o Last) fault.Char → plain ≡ false
char_read plain o Last (inl (key, is, found)) = not_true plain found
char_read plain o Last (inr (passed, inl (key, is, found))) = cc
char_read plain o Last (inr (passed, inr (named, found))) = absurd (later_beside (unwrap_or o nothing) Last fault.Char found)

name_read : (plain : Bool) (o : Option Beside) (Last : Type 0) → IsFirstFault (stages plain o Last) fault.Name → IsTrue plain × IsNone o
name_read plain o Last (inl (key, is, found)) = cc
name_read plain o Last (inr (passed, inl (key, is, found))) = (passed, not_some o found)
name_read plain o Last (inr (passed, inr (named, found))) = absurd (later_beside (unwrap_or o nothing) Last fault.Name found)

-- Char comes of a byte that is none of a line's.
pub char_first : (bytes : List ℕ) → FaultOf bytes fault.Char ↔ (has_only_plain bytes ≡ false)
char_first bytes = (
  λ is. char_read (has_only_plain bytes) (beside_of (lexemes_of bytes)) (HasValue bytes) (fault_found bytes fault.Char is),
  λ h. found_fault bytes fault.Char (inl (tt, refl, not_both (has_only_plain bytes) h)),
)

-- Name comes of a leading lexeme that names nothing.
pub name_next : (bytes : List ℕ) → FaultOf bytes fault.Name ↔ (IsTrue (has_only_plain bytes) × IsNone (beside_of (lexemes_of bytes)))
name_next bytes = (
  λ is. name_read (has_only_plain bytes) (beside_of (lexemes_of bytes)) (HasValue bytes) (fault_found bytes fault.Name is),
  λ h. found_fault bytes fault.Name (inr (h.0, inl (tt, refl, none_some (beside_of (lexemes_of bytes)) h.1))),
)

-- Where the leading lexeme names something, what stands beside it decides.
found_beside : (plain : Bool) (o : Option Beside) (Last : Type 0) (b : Beside) (e : LineFault) → IsTrue plain → o ≡ Some b
    → IsFirstFault (before_stage b ∷ after_stage b ∷ unless Last fault.Form ∷ []) e → IsFirstFault (stages plain o Last) e
found_beside plain None Last b e passed is found = cc
found_beside plain (Some c) Last b e passed is found =
    let same : b ≡ c = cc in
    inr (passed, inr (refl, subst (λ d. IsFirstFault (before_stage d ∷ after_stage d ∷ unless Last fault.Form ∷ []) e) same found))

beside_fault : (bytes : List ℕ) (b : Beside) (e : LineFault) → HasBeside bytes b
    → IsFirstFault (before_stage b ∷ after_stage b ∷ unless (HasValue bytes) fault.Form ∷ []) e → FaultOf bytes e
beside_fault bytes b e has found =
    found_fault bytes e (found_beside (has_only_plain bytes) (beside_of (lexemes_of bytes)) (HasValue bytes) b e has.plain has.beside found)

pub before_decides : (bytes : List ℕ) (b : Beside) (e : LineFault) → HasBeside bytes b → fault_before b ≡ Some e → FaultOf bytes e
before_decides bytes b e has is = beside_fault bytes b e has (inl (e, refl, is))

-- The tokens up to and with one of them.
front_with : (xs : List Token) (x : Token) (ys : List Token) → take (suc (length xs)) (xs ++ x ∷ ys) ≡ xs ++ x ∷ []
front_with [] x ys = refl
front_with (y ∷ xs) x ys = ap (λ l. y ∷ l) (front_with xs x ys)

pub token_decides : (bytes : List ℕ) (b : Beside) (xs rest : List Token) (x : Token) → HasBeside bytes b → fault_before b ≡ None
    → b.after ≡ xs ++ x ∷ rest
    → AreRight b.forms xs → ¬ AreRight b.forms (xs ++ x ∷ []) → FaultOf bytes (fault_among (operands_of b.forms) b.forms (xs ++ x ∷ []))
token_decides bytes b xs rest x has before is right wrong =
    let front : take (length xs) b.after ≡ xs = rw is (take-append_seam xs (x ∷ rest)) in
    let more : take (length xs + 1) b.after ≡ xs ++ x ∷ [] = rw (is, add-one (length xs)) (front_with xs x rest) in
    beside_fault bytes b _ has (inr (before, inl (length xs, rw more refl, record { right = rw front right; wrong = rw more wrong })))

-- Where no fault comes before the last stage, the line has a value or the fault Form.
pub form_last : (bytes : List ℕ) (b : Beside) → HasBeside bytes b → fault_before b ≡ None → AreRight b.forms b.after
    → HasValue bytes ⊎ FaultOf bytes fault.Form
form_last bytes b has before after = elim (line_or_fault bytes) [
  | inl says ↦ inl says
  | inr (f, is) ↦ inr (beside_fault bytes b fault.Form has (inr (before, inr (after, inl (tt, refl, no_value bytes f is)))))
]
