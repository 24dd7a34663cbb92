-- What lines that are taken come to, one after the other.
use Rattle.std.proofs.Common.{◌≡◌, ◌∙◌, ℕ, ◌+◌, Bool, true, false, List, [], ◌++◌, Result, Ok, Err, refl, sym, subst, inr, append_assoc}
use Rattle.first_fault.specs.Stages.{ArePassed}
use Rattle.asm_lexemes.specs.Bytes.{has_only_plain}
use Rattle.asm_lexemes.specs.declared.fault.LineFault.TheVariants as fault
use Rattle.asm_reading.specs.declared.line.Line.{Line}
use Rattle.asm_reading.specs.Lines.{reading_of}
use Rattle.asm_build.specs.CanonicalText.{line}
use Rattle.asm_build.specs.declared.reason.TextError.{TextError}
use Rattle.asm_build.specs.TextParts.{TextParts, after, value_stages}
use Rattle.asm_build.specs.TextReading.{text_lines, Says, ComesTo}
use Rattle.asm_build.proofs.TextLines.{lines_after}

-- After a text, from the k-th line on, the state and the number of the next line are these.
abbrev pub Goes : TextParts → ℕ → List ℕ → TextParts → ℕ → Type 0
Goes s k text to next =
    (more : List ℕ) (r : Result TextParts TextError) → ComesTo to next (text_lines more) r → ComesTo s k (text_lines (text ++ more)) r

-- No text.
pub stays : (s : TextParts) (k : ℕ) → Goes s k [] s k
stays s k more r h = h

-- One text after another.
pub goes_on : (s t u : TextParts) (k m n : ℕ) (one two : List ℕ) → Goes s k one t m → Goes t m two u n → Goes s k (one ++ two) u n
goes_on s t u k m n one two f g more r h =
    subst (λ text. ComesTo s k (text_lines text) r) (sym (append_assoc one two more)) (f (two ++ more) r (g more r h))

-- A line that says something has only plain bytes.
plain_of : (bytes : List ℕ) (value : Line) → reading_of bytes ≡ Ok value → has_only_plain bytes ≡ true
plain_of bytes value h = of (has_only_plain bytes) refl
  where
    of : (b : Bool) → has_only_plain bytes ≡ b → has_only_plain bytes ≡ true
    of true e = e
    of false e = absurd (refused (sym h ∙ rw e refl))
      where
        refused : Ok value ≡ Err fault.Char → ⊥
        refused e = cc

-- One line.
pub line_goes : (s : TextParts) (k : ℕ) (bytes : List ℕ) (value : Line) → Says bytes value → ArePassed (value_stages s value)
    → Goes s k (line bytes) (after s k value) (k + 1)
line_goes s k bytes value says passed more r h =
    subst (λ lines. ComesTo s k lines r) (sym (lines_after bytes more (plain_of bytes value says.reads.reading)))
    (inr (value, (says, passed), h))
