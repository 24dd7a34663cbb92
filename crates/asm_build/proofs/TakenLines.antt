-- Lines that are taken one by one.
use Rattle.std.proofs.Common.{◌≡◌, ◌⊎◌, inl, inr, ap, ℕ, ◌+◌, ◌≤◌, List, ◌∷◌, length, Result, Ok, Err}
use Rattle.std.specs.Prelude.{OnOk, IfErr}
use Rattle.first_fault.specs.Stages.{ArePassed, IsFirstFault}
use Rattle.asm_lexemes.specs.declared.limits.TheConstants.{LINE_LIMIT}
use Rattle.asm_reading.specs.declared.line.Line.{Line}
use Rattle.asm_reading.specs.Lines.{LineOf}
use Rattle.asm_build.specs.declared.reason.Reason.{Reason}
use Rattle.asm_build.specs.declared.reason.TextError.{TextError}
use Rattle.asm_build.specs.declared.reason.TextError.TheVariants as error
use Rattle.asm_build.specs.TextReading.{text_lines, LineReading, IsTakenBy, IsRefusedBy, ComesToBy, AllSayBy, HasFaultBy}

-- A line that is read and taken.
pub is_taken : {S : Type 0} (reading : LineReading S) (s t : S) (n : ℕ) (line : List ℕ) (value : Line) (r : Result (Unit {0}) TextError)
    → length line ≤ LINE_LIMIT → LineOf line value
    → OnOk r (ArePassed (reading.stages s value) × (t ≡ reading.after s n value))
    → OnOk r ((v : Line) × IsTakenBy reading s line v × (t ≡ reading.after s n v))
is_taken reading s t n line value (Ok u) short reads h = (value, (record { short = short; reads = reads }, h.0), h.1)
is_taken reading s t n line value (Err e) short reads h = tt

-- One that is read and refused.
pub is_refused : {S : Type 0} (reading : LineReading S) (s : S) (n : ℕ) (line : List ℕ) (value : Line) (r : Result (Unit {0}) TextError)
    → length line ≤ LINE_LIMIT → LineOf line value
    → IfErr r (λ e. (e ≡ error.Memory) ⊎ ((why : Reason) × (e ≡ error.Fault n why) × IsFirstFault (reading.stages s value) why))
    → IfErr r (λ e. (e ≡ error.Memory) ⊎ ((why : Reason) × (e ≡ error.Fault n why) × IsRefusedBy reading s line why))
is_refused reading s n line value (Ok u) short reads h = tt
is_refused reading s n line value (Err e) short reads (inl memory) = inl memory
is_refused reading s n line value (Err e) short reads (inr (reason, is, first)) =
    inr (reason, is, inr (value, record { short = short; reads = reads }, first))

-- After a line that is taken, what the rest comes to is what all come to.
pub one_more : {S : Type 0} (reading : LineReading S) (s t : S) (n : ℕ) (line : List ℕ) (lines : List (List ℕ)) (r : Result S TextError)
    → (v : Line) × IsTakenBy reading s line v × (t ≡ reading.after s n v)
    → ComesToBy reading t (n + 1) lines r → ComesToBy reading s n (line ∷ lines) r
one_more reading s t n line lines r (v, taken, is) rest = inr (v, taken, rw is at rest)

-- The fault of a line that is refused, or want of memory, where what the rest comes to is what all come to.
pub refused_after : {S : Type 0} (reading : LineReading S) (s t : S) (n : ℕ) (line : List ℕ) (lines all : List (List ℕ)) (e : TextError)
    → ((r : Result S TextError) → ComesToBy reading s n (line ∷ lines) r → ComesToBy reading t 1 all r)
    → (e ≡ error.Memory) ⊎ ((why : Reason) × (e ≡ error.Fault n why) × IsRefusedBy reading s line why)
    → (e ≡ error.Memory) ⊎ ComesToBy reading t 1 all (Err e)
refused_after reading s t n line lines all e go (inl memory) = inl memory
refused_after reading s t n line lines all e go (inr (why, is, refused)) = inr (go (Err e) (inl (why, refused, ap Err is)))

-- The fault after the last line, or want of memory, where all lines are taken.
pub end_reported : {S T : Type 0} (reading : LineReading S) (text : List ℕ) (s : S) (count : ℕ) (r : Result T TextError)
    → AllSayBy reading text s → count ≡ length (text_lines text)
    → IfErr r (λ e. (e ≡ error.Memory) ⊎ IsFirstFault (reading.ends count s) e)
    → IfErr r (λ e. (e ≡ error.Memory) ⊎ HasFaultBy reading text e)
end_reported reading text s count (Ok t) says counted h = tt
end_reported reading text s count (Err e) says counted (inl memory) = inl memory
end_reported reading text s count (Err e) says counted (inr fault) = inr (inr (s, says, rw counted at fault))
