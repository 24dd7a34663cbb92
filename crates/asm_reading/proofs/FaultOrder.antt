-- A line's faults come in the order of its stages.
use Rattle.std.proofs.Common.{◌≡◌, ◌⊎◌, ◌↔◌, ◌∙◌, inl, inr, refl, sym, subst, ℕ, Bool, true, false, if◌then◌else◌, List, [], ◌∷◌, ◌++◌, Option, Some, None, Result, Ok, Err, arith}
use Rattle.std.specs.Prelude.{unwrap_or, IsTrue, IsSome}
use Rattle.first_fault.specs.Stages.{Stage, unless, IsFirstFault, ArePassed}
use Rattle.first_fault.proofs.Laws.{IsSound, AreSound, unless_sound, one_fault, no_fault}
use Rattle.asm_lexemes.specs.declared.fault.LineFault.{LineFault}
use Rattle.asm_lexemes.specs.declared.fault.LineFault.TheVariants as fault
use Rattle.asm_lexemes.specs.Bytes.{has_only_plain}
use Rattle.asm_reading.specs.declared.line.Line.{Line}
use Rattle.asm_reading.specs.Lines.{line_of, reading_of, IsListedLine, FaultOf}
use Rattle.asm_reading.specs.FaultOrder.{lexemes_of, Beside, nothing, beside_of, fault_before, before_stage, after_stage, HasValue, line_stages}
use Rattle.asm_reading.proofs.FaultOrderFronts.{wrong_position}
use Rattle.asm_reading.proofs.FaultOrderAnswers.{IsFound, beside_stages, Answers, value_answers}
use Rattle.asm_reading.proofs.SomeAnswer.{line_or_fault}

-- The stages of a line by what they look at.
abbrev pub stages : Bool → Option Beside → Type 0 → List (Stage LineFault)
stages plain o Last =
    unless (IsTrue plain) fault.Char
    ∷ unless (IsSome o) fault.Name
    ∷ before_stage (unwrap_or o nothing)
    ∷ after_stage (unwrap_or o nothing)
    ∷ unless Last fault.Form
    ∷ []

-- Each finds at most one fault.
some_same : (e f : LineFault) (o : Option LineFault) → o ≡ Some e → o ≡ Some f → e ≡ f
some_same e f o is are = cc

some_none : (e : LineFault) (o : Option LineFault) → o ≡ Some e → o ≡ None → ⊥
some_none e o is none = cc

before_sound : (b : Beside) → IsSound (before_stage b)
before_sound b = record {
  one = λ e f is are. some_same e f (fault_before b) is are;
  none = λ e is none. some_none e (fault_before b) is none;
}

after_sound : (b : Beside) → IsSound (after_stage b)
after_sound b = record {
  one = λ m n is are. (wrong_position b.forms b.after m is).0 ∙ sym (wrong_position b.forms b.after n are).0;
  none = λ n is all. omega (arith, (wrong_position b.forms b.after n is).1, all);
}

sound : (plain : Bool) (o : Option Beside) (Last : Type 0) → AreSound (stages plain o Last)
sound plain o Last = (
  unless_sound _ _,
  (unless_sound _ _, (before_sound (unwrap_or o nothing), (after_sound (unwrap_or o nothing), (unless_sound _ _, tt)))),
)

-- A stage more, which is the last.
and_last : (some : List (Stage LineFault)) (Last : Type 0) (e : LineFault) → IsFirstFault some e ⊎ (ArePassed some × (e ≡ fault.Form))
    → ¬ Last
    → IsFirstFault (some ++ unless Last fault.Form ∷ []) e
and_last [] Last e (inl found) silent = absurd found
and_last [] Last e (inr (passed, is)) silent = inl (tt, is, silent)
and_last (s ∷ later) Last e (inl (inl found)) silent = inl found
and_last (s ∷ later) Last e (inl (inr (passed, found))) silent = inr (passed, and_last later Last e (inl found) silent)
and_last (s ∷ later) Last e (inr ((passed, all), is)) silent = inr (passed, and_last later Last e (inr (all, is)) silent)

char_is : (e : LineFault) (r : Result Line LineFault) → r ≡ Err fault.Char → r ≡ Err e → e ≡ fault.Char
char_is e r a b = cc

name_is : (e : LineFault) (r : Result Line LineFault) → r ≡ Err fault.Name → r ≡ Err e → e ≡ fault.Name
name_is e r a b = cc

not_ok : (r : Result Line LineFault) (value : Line) → r ≡ Err fault.Name → r ≡ Ok value → ⊥
not_ok r value a b = cc

-- What is answered is found.
err_found : (plain : Bool) (o : Option Beside) (r : Result Line LineFault) (Last : Type 0) (e : LineFault) → Answers o r
    → (if plain then r else Err fault.Char) ≡ Err e → ¬ Last → IsFirstFault (stages plain o Last) e
err_found false o r Last e answers is silent = inl (tt, char_is e (Err fault.Char) refl is, λ h. cc)
err_found true None r Last e answers is silent = inr (refl, inl (tt, name_is e r answers is, λ h. cc))
err_found true (Some b) r Last e answers is silent =
    inr (refl, inr (refl, and_last (beside_stages b) Last e (subst (IsFound (beside_stages b)) is answers) silent))

-- A line that is read passes the first stages.
ok_found : (plain : Bool) (o : Option Beside) (r : Result Line LineFault) (value : Line) (Last : Type 0) (e : LineFault) → Answers o r
    → (if plain then r else Err fault.Char) ≡ Ok value → ¬ Last → e ≡ fault.Form → IsFirstFault (stages plain o Last) e
ok_found false o r value Last e answers is silent form = cc
ok_found true None r value Last e answers is silent form = absurd (not_ok r value answers is)
ok_found true (Some b) r value Last e answers is silent form =
    inr (refl, inr (refl, and_last (beside_stages b) Last e (inr (subst (IsFound (beside_stages b)) is answers, form)) silent))

ok_passed : (plain : Bool) (o : Option Beside) (r : Result Line LineFault) (value : Line) (Last : Type 0) → Answers o r
    → (if plain then r else Err fault.Char) ≡ Ok value → Last → ArePassed (stages plain o Last)
ok_passed false o r value Last answers is last = cc
ok_passed true None r value Last answers is last = absurd (not_ok r value answers is)
ok_passed true (Some b) r value Last answers is last =
    let passed : ArePassed (beside_stages b) = subst (IsFound (beside_stages b)) is answers in
    (refl, (refl, (passed.0, (passed.1.0, (last, tt)))))

-- A line with a fault has no value.
same_value : (v w : Line) (r : Result Line LineFault) → r ≡ Ok v → r ≡ Ok w → v ≡ w
same_value v w r a b = cc

not_both : (v : Line) (e : LineFault) (r : Result Line LineFault) → r ≡ Ok v → r ≡ Err e → ⊥
not_both v e r a b = cc

pub fault_found : (bytes : List ℕ) (e : LineFault) → FaultOf bytes e → IsFirstFault (line_stages bytes) e
fault_found bytes e (inl is) =
    err_found (has_only_plain bytes) (beside_of (lexemes_of bytes)) (line_of (lexemes_of bytes))
    (HasValue bytes) e (value_answers (lexemes_of bytes)) is
    (λ says. not_both says.0 e (reading_of bytes) says.1.reading is)
fault_found bytes e (inr (value, is, unlisted, form)) =
    ok_found (has_only_plain bytes) (beside_of (lexemes_of bytes))
    (line_of (lexemes_of bytes)) value (HasValue bytes) e (value_answers (lexemes_of bytes)) is
    (λ says. unlisted (subst IsListedLine (same_value says.0 value (reading_of bytes) says.1.reading is) says.1.listed)) form

value_passes : (bytes : List ℕ) → HasValue bytes → ArePassed (line_stages bytes)
value_passes bytes says =
    ok_passed (has_only_plain bytes) (beside_of (lexemes_of bytes)) (line_of (lexemes_of bytes)) says.0 (HasValue bytes)
    (value_answers (lexemes_of bytes)) says.1.reading says

line_sound : (bytes : List ℕ) → AreSound (line_stages bytes)
line_sound bytes = sound (has_only_plain bytes) (beside_of (lexemes_of bytes)) (HasValue bytes)

pub no_value : (bytes : List ℕ) (e : LineFault) → FaultOf bytes e → ¬ HasValue bytes
no_value bytes e is says = no_fault (line_stages bytes) (line_sound bytes) (value_passes bytes says) e (fault_found bytes e is)

-- What is found is the fault.
pub found_fault : (bytes : List ℕ) (e : LineFault) → IsFirstFault (line_stages bytes) e → FaultOf bytes e
found_fault bytes e found = elim (line_or_fault bytes) [
  | inl says ↦ absurd (no_fault (line_stages bytes) (line_sound bytes) (value_passes bytes says) e found)
  | inr (f, is) ↦ subst (FaultOf bytes) (one_fault (line_stages bytes) (line_sound bytes) f e (fault_found bytes f is) found) is
]

pub in_order : (bytes : List ℕ) (e : LineFault) → FaultOf bytes e ↔ IsFirstFault (line_stages bytes) e
in_order bytes e = (fault_found bytes e, found_fault bytes e)

pub passed_in_order : (bytes : List ℕ) → HasValue bytes ↔ ArePassed (line_stages bytes)
passed_in_order bytes = (value_passes bytes, λ passed. passed.1.1.1.1.0)
