-- A text that is read line by line comes to a state or has a first fault.
use Rattle.std.proofs.Common.{◌⊎◌, inl, inr, refl, subst, ℕ, ◌+◌, List, [], ◌∷◌, length, Option, Some, None, Ok, Err, arith}
use Rattle.std.proofs.Math.Decide.{dec_le, dec_lt}
use Rattle.std.specs.Map.{values_of}
use Rattle.first_fault.specs.Stages.{Stage, IsFirstFault, ArePassed}
use Rattle.first_fault.proofs.Laws.{IsDecided, AreDecided, some_fault}
use Rattle.asm_lexemes.specs.declared.limits.TheConstants.{LINE_LIMIT}
use Rattle.insn_rows.proofs.Decided.{all}
use Rattle.asm_reading.specs.declared.line.Line.{Line}
use Rattle.asm_reading.specs.SomeAnswer.{LineOrFault}
use Rattle.asm_build.specs.declared.address.Address.{Address}
use Rattle.asm_build.specs.declared.address.Address.TheVariants.{Bundle, Byte}
use Rattle.asm_build.specs.declared.reason.Reason.{Reason}
use Rattle.asm_build.specs.declared.reason.Reason.TheVariants.{Limit}
use Rattle.asm_build.specs.declared.reason.TextError.{TextError}
use Rattle.asm_build.specs.declared.reason.TextError.TheVariants.{Fault}
use Rattle.asm_build.specs.Addresses.{IsInside}
use Rattle.asm_build.specs.Reasons.{reason_of}
use Rattle.asm_build.specs.TextParts.{TextParts, AreLabelsBelow}
use Rattle.asm_build.specs.TextReading.{text_lines, Says, SaysNothing, LineReading, IsRefusedBy, IsTakenBy, ComesToBy, AllSayBy, HasFaultBy, found, first_of}
use Rattle.asm_build.proofs.EndFaults.{IsOfLine}

-- What is known of each line.
abbrev pub HaveAnswers : Type 0
HaveAnswers = (bytes : List ℕ) → LineOrFault bytes

-- What is known of what is looked for: each stage finds a fault or is passed, and after the last line the fault is one
-- of a line.
pub record IsDecidedReading {S : Type 0} (reading : LineReading S) : Type 0 where
  pub stages : (s : S) (value : Line) → AreDecided (reading.stages s value)
  pub ends : (count : ℕ) (s : S) → AreDecided (reading.ends count s)
  pub lines : (count : ℕ) (s : S) (e : TextError) → IsFirstFault (reading.ends count s) e → IsOfLine e

-- A line says something by itself, or is refused by itself.
says_or_not : HaveAnswers → (line : List ℕ) → ((value : Line) × Says line value) ⊎ ((why : Reason) × SaysNothing line why)
says_or_not answers line = elim (dec_le (length line) LINE_LIMIT) [
  | no long ↦ inr (Limit, inl (omega arith, refl))
  | yes short ↦ elim (answers line) [
    | inl (value, reads) ↦ inl (value, record { short = short; reads = reads })
    | inr (e, fault) ↦ inr (reason_of e, inr (short, e, fault, refl))
  ]
]

taken_or_refused : {S : Type 0} → HaveAnswers → (reading : LineReading S) → IsDecidedReading reading → (s : S) (line : List ℕ)
    → ((value : Line) × IsTakenBy reading s line value) ⊎ ((why : Reason) × IsRefusedBy reading s line why)
taken_or_refused answers reading decided s line = elim (says_or_not answers line) [
  | inr (why, nothing) ↦ inr (why, inl nothing)
  | inl (value, says) ↦ elim (some_fault (reading.stages s value) (decided.stages s value)) [
    | inl (why, fault) ↦ inr (why, inr (value, says, fault))
    | inr passed ↦ inl (value, (says, passed))
  ]
]

-- Lines come to a state, or to the fault of a line.
abbrev HaveOutcome : {S : Type 0} → LineReading S → S → ℕ → List (List ℕ) → Type 0
HaveOutcome {S} reading s n lines =
    ((t : S) × ComesToBy reading s n lines (Ok t)) ⊎ ((line : ℕ) × (why : Reason) × ComesToBy reading s n lines (Err (Fault line why)))

outcome : {S : Type 0} → HaveAnswers → (reading : LineReading S) → IsDecidedReading reading → (s : S) (n : ℕ) (lines : List (List ℕ))
    → HaveOutcome reading s n lines
outcome answers reading decided s n [] = inl (s, refl)
outcome answers reading decided s n (line ∷ lines) = elim (taken_or_refused answers reading decided s line) [
  | inr (why, refused) ↦ inr (n, why, inl (why, refused, refl))
  | inl (value, taken) ↦ elim (outcome answers reading decided (reading.after s n value) (n + 1) lines) [
    | inl (t, rest) ↦ inl (t, inr (value, taken, rest))
    | inr (m, why, rest) ↦ inr (m, why, inr (value, taken, rest))
  ]
]

-- All lines are taken and no fault comes after the last, or the text has the fault of a line.
abbrev pub ReadOrFault : {S : Type 0} → LineReading S → List ℕ → Type 0
ReadOrFault {S} reading text =
    ((s : S) × AllSayBy reading text s × ArePassed (reading.ends (length (text_lines text)) s))
    ⊎ ((line : ℕ) × (why : Reason) × HasFaultBy reading text (Fault line why))

all_taken : {S : Type 0} (reading : LineReading S) → IsDecidedReading reading → (text : List ℕ) (s : S) → AllSayBy reading text s
    → ReadOrFault reading text
all_taken reading decided text s says = elim (some_fault (reading.ends count s) (decided.ends count s)) [
  | inr passed ↦ inl (s, says, passed)
  | inl (e, fault) ↦
      let of = decided.lines count s e fault in
      inr (of.0, of.1, inr (s, says, subst (IsFirstFault (reading.ends count s)) of.2 fault))
]
  where
    count : ℕ
    count = length (text_lines text)

pub read_or_fault : {S : Type 0} → HaveAnswers → (reading : LineReading S) → IsDecidedReading reading → (text : List ℕ)
    → ReadOrFault reading text
read_or_fault answers reading decided text = elim (outcome answers reading decided reading.start 1 (text_lines text)) [
  | inl (s, says) ↦ all_taken reading decided text s says
  | inr (line, why, comes) ↦ inr (line, why, inl comes)
]

-- What is looked for after the last line.
label_inside : (count : ℕ) (a : Address) → Dec (IsInside count a)
label_inside count (Bundle n) = dec_lt n count
label_inside count (Byte at) = yes tt

pub labels_below : (count : ℕ) (s : TextParts) → Dec (AreLabelsBelow count s)
labels_below count s = all (values_of s.labels) (label_inside count)

pub found_decided : (o : Option TextError) → IsDecided (found o)
found_decided None = inr refl
found_decided (Some e) = inl (e, refl)

pub first_decided : (stages : List (Stage TextError)) → AreDecided stages → IsDecided (first_of stages)
first_decided stages decided = some_fault stages decided
