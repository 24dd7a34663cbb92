-- A text that is read line by line comes to one state or to one fault, and not to both.
use Rattle.std.proofs.Common.{◌≡◌, ◌∙◌, inl, inr, refl, sym, ap, ℕ, ◌+◌, List, [], ◌∷◌, length, Option, Result, Ok, Err, arith}
use Rattle.first_fault.specs.Stages.{Stage, ArePassed}
use Rattle.first_fault.proofs.Laws.{IsSound, AreSound, unless_sound, one_fault, no_fault}
use Rattle.ia_program.specs.declared.relations.Relation.{Relation}
use Rattle.asm_reading.specs.declared.line.Line.{Line}
use Rattle.asm_reading.specs.OneAnswer.{HasOneValue, HasOneFault, HasNoFault}
use Rattle.asm_build.specs.declared.reason.Reason.{Reason}
use Rattle.asm_build.specs.declared.reason.TextError.{TextError}
use Rattle.asm_build.specs.declared.reason.TextError.TheVariants.{Fault}
use Rattle.asm_build.specs.declared.text_parts.RelationLine.{RelationLine}
use Rattle.asm_build.specs.Reasons.{reason_of}
use Rattle.asm_build.specs.Relations.{related, relation_stages}
use Rattle.asm_build.specs.TextReading.{text_lines, Says, SaysNothing, LineReading, IsRefusedBy, IsTakenBy, ComesToBy, AllSayBy, HasFaultBy, found, first_of}

-- What is known of each line: it has one value or one fault, and not both.
pub record HaveOneAnswer : Type 0 where
  pub value : (bytes : List ℕ) → HasOneValue bytes
  pub fault : (bytes : List ℕ) → HasOneFault bytes
  pub either : (bytes : List ℕ) → HasNoFault bytes

-- What is known of what is looked for: a stage finds at most one fault, and none where it is passed.
pub record IsSoundReading {S : Type 0} (reading : LineReading S) : Type 0 where
  pub stages : (s : S) (value : Line) → AreSound (reading.stages s value)
  pub ends : (count : ℕ) (s : S) → AreSound (reading.ends count s)

-- A line that says something by itself is not refused by itself.
says_or_not : HaveOneAnswer → (line : List ℕ) (v : Line) (why : Reason) → Says line v → SaysNothing line why → ⊥
says_or_not one line v why says (inl (long, is)) = omega (arith, long, says.short)
says_or_not one line v why says (inr (short, e, fault, is)) = one.either line v e says.reads fault

one_nothing : HaveOneAnswer → (line : List ℕ) (a b : Reason) → SaysNothing line a → SaysNothing line b → a ≡ b
one_nothing one line a b (inl (long, is)) (inl (also, are)) = is ∙ sym are
one_nothing one line a b (inl (long, is)) (inr (short, e, fault, are)) = absurd (omega (arith, long, short))
one_nothing one line a b (inr (short, e, fault, is)) (inl (long, are)) = absurd (omega (arith, long, short))
one_nothing one line a b (inr (short, e, fault, is)) (inr (also, f, other, are)) =
    is ∙ ap reason_of (one.fault line e f fault other) ∙ sym are

one_refusal : {S : Type 0} → HaveOneAnswer → (reading : LineReading S) → IsSoundReading reading → (s : S) (line : List ℕ) (a b : Reason)
    → IsRefusedBy reading s line a → IsRefusedBy reading s line b → a ≡ b
one_refusal one reading sound s line a b (inl nothing) (inl also) = one_nothing one line a b nothing also
one_refusal one reading sound s line a b (inl nothing) (inr (v, says, fault)) = absurd (says_or_not one line v a says nothing)
one_refusal one reading sound s line a b (inr (v, says, fault)) (inl nothing) = absurd (says_or_not one line v b says nothing)
one_refusal one reading sound s line a b (inr (v, says, fault)) (inr (w, also, other)) =
    let same : v ≡ w = one.value line v w says.reads also.reads in
    one_fault (reading.stages s v) (sound.stages s v) a b fault (rw (sym same) at other)

-- A line is not taken and refused.
taken_or_refused : {S : Type 0} → HaveOneAnswer → (reading : LineReading S) → IsSoundReading reading
    → (s : S) (line : List ℕ) (v : Line) (why : Reason) → IsTakenBy reading s line v → IsRefusedBy reading s line why → ⊥
taken_or_refused one reading sound s line v why (says, passed) (inl nothing) = says_or_not one line v why says nothing
taken_or_refused one reading sound s line v why (says, passed) (inr (w, also, fault)) =
    let same : v ≡ w = one.value line v w says.reads also.reads in
    no_fault (reading.stages s v) (sound.stages s v) passed why (rw (sym same) at fault)

one_outcome : {S : Type 0} → HaveOneAnswer → (reading : LineReading S) → IsSoundReading reading
    → (s : S) (n : ℕ) (lines : List (List ℕ)) (r q : Result S TextError) → ComesToBy reading s n lines r → ComesToBy reading s n lines q
    → r ≡ q
one_outcome one reading sound s n [] r q a b = a ∙ sym b
one_outcome one reading sound s n (line ∷ lines) r q (inl (why, refused, is)) (inl (other, also, are)) =
    is ∙ ap (λ w. Err (Fault n w)) (one_refusal one reading sound s line why other refused also) ∙ sym are
one_outcome one reading sound s n (line ∷ lines) r q (inl (why, refused, is)) (inr (v, taken, rest)) =
    absurd (taken_or_refused one reading sound s line v why taken refused)
one_outcome one reading sound s n (line ∷ lines) r q (inr (v, taken, rest)) (inl (why, refused, is)) =
    absurd (taken_or_refused one reading sound s line v why taken refused)
one_outcome one reading sound s n (line ∷ lines) r q (inr (v, taken, rest)) (inr (w, also, more)) =
    let same : v ≡ w = one.value line v w taken.0.reads also.0.reads in
    one_outcome one reading sound (reading.after s n v) (n + 1) lines r q rest (rw (sym same) at more)

-- What is known of equal results.
ok_same : {S : Type 0} (s t : S) (r q : Result S TextError) → r ≡ Ok s → q ≡ Ok t → r ≡ q → s ≡ t
ok_same s t r q a b same = cc

err_same : {S : Type 0} (e f : TextError) (r q : Result S TextError) → r ≡ Err e → q ≡ Err f → r ≡ q → e ≡ f
err_same e f r q a b same = cc

not_both : {S : Type 0} (s : S) (e : TextError) (r q : Result S TextError) → r ≡ Ok s → q ≡ Err e → r ≡ q → ⊥
not_both s e r q a b same = cc

-- One state, where all lines are taken.
pub one_state : {S : Type 0} → HaveOneAnswer → (reading : LineReading S) → IsSoundReading reading → (text : List ℕ) (s t : S)
    → AllSayBy reading text s → AllSayBy reading text t → s ≡ t
one_state one reading sound text s t a b =
    ok_same s t (Ok s) (Ok t) refl refl (one_outcome one reading sound reading.start 1 (text_lines text) (Ok s) (Ok t) a b)

ok_or_err : {S : Type 0} → HaveOneAnswer → (reading : LineReading S) → IsSoundReading reading → (text : List ℕ) (s : S) (e : TextError)
    → AllSayBy reading text s → ComesToBy reading reading.start 1 (text_lines text) (Err e) → ⊥
ok_or_err one reading sound text s e a b =
    not_both s e (Ok s) (Err e) refl refl (one_outcome one reading sound reading.start 1 (text_lines text) (Ok s) (Err e) a b)

-- One first fault.
pub one_fault_by : {S : Type 0} → HaveOneAnswer → (reading : LineReading S) → IsSoundReading reading → (text : List ℕ) (e f : TextError)
    → HasFaultBy reading text e → HasFaultBy reading text f → e ≡ f
one_fault_by {S = State} one reading sound text e f (inl a) (inl b) =
    err_same {S = State} e f (Err e) (Err f) refl refl (one_outcome one reading sound reading.start 1 (text_lines text) (Err e) (Err f) a b)
one_fault_by one reading sound text e f (inl a) (inr (s, says, fault)) = absurd (ok_or_err one reading sound text s e says a)
one_fault_by one reading sound text e f (inr (s, says, fault)) (inl a) = absurd (ok_or_err one reading sound text s f says a)
one_fault_by one reading sound text e f (inr (s, says, fault)) (inr (t, also, other)) =
    let same : s ≡ t = one_state one reading sound text s t says also in
    let count = length (text_lines text) in
    one_fault (reading.ends count s) (sound.ends count s) e f fault (rw (sym same) at other)

-- None where all lines are taken and no fault comes after the last.
pub no_fault_by : {S : Type 0} → HaveOneAnswer → (reading : LineReading S) → IsSoundReading reading
    → (text : List ℕ) (s : S) (e : TextError) → AllSayBy reading text s → ArePassed (reading.ends (length (text_lines text)) s)
    → HasFaultBy reading text e → ⊥
no_fault_by one reading sound text s e says whole (inl a) = ok_or_err one reading sound text s e says a
no_fault_by one reading sound text s e says whole (inr (t, also, fault)) =
    let same : s ≡ t = one_state one reading sound text s t says also in
    let count = length (text_lines text) in
    no_fault (reading.ends count s) (sound.ends count s) whole e (rw (sym same) at fault)

pub found_sound : (o : Option TextError) → IsSound (found o)
found_sound o = record { one = λ e f is are. cc; none = λ e is none. cc }

pub first_sound : (stages : List (Stage TextError)) → AreSound stages → IsSound (first_of stages)
first_sound stages sound =
    record { one = λ e f is are. one_fault stages sound e f is are; none = λ e is passed. no_fault stages sound passed e is }

pub relations_sound : (IsEntry : ℕ → Type 0) (before : List Relation) (lines : List RelationLine)
    → AreSound (relation_stages IsEntry before lines)
relations_sound IsEntry before [] = tt
relations_sound IsEntry before (l ∷ ls) = (unless_sound _ _, (unless_sound _ _, relations_sound IsEntry (related before l) ls))
