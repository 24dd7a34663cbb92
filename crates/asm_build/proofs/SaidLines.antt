-- Lines that are taken, by what they say.
use Rattle.std.proofs.Common.{◌≡◌, ◌∙◌, refl, sym, ap, inl, inr, ℕ, ◌+◌, ◌++◌, List, [], ◌∷◌, map, Option, Some, None, Result, Ok, Err, append_assoc, append-nil}
use Rattle.std.proofs.lemmas.List.{map-append}
use Rattle.first_fault.specs.Stages.{ArePassed}
use Rattle.asm_reading.specs.declared.line.Line.{Line}
use Rattle.asm_reading.specs.declared.line.Line.TheVariants as line
use Rattle.asm_build.specs.declared.draft.BundleLines.{BundleLines}
use Rattle.asm_build.specs.declared.reason.TextError.{TextError}
use Rattle.asm_build.specs.declared.text_parts.EntryLine.{EntryLine}
use Rattle.asm_build.specs.TextParts.{TextParts, after, value_stages, closed_of, with_bundle}
use Rattle.asm_build.specs.TextReading.{ComesTo}
use Rattle.asm_build.specs.WholeTexts.{AreSaid, line_data, data_in, line_entry, entries_in}

-- Lines that say these, the first of which is the n-th, are taken one after the other, and come to this.
abbrev pub Follow : TextParts → ℕ → List Line → TextParts → Type 0
Follow s n [] t = t ≡ s
Follow s n (v ∷ vs) t = ArePassed (value_stages s v) × Follow (after s n v) (n + 1) vs t

-- What lines say that come to something.
pub record TakenAs (s : TextParts) (n : ℕ) (lines : List (List ℕ)) (t : TextParts) : Type 0 where
  pub values : List Line
  pub said : AreSaid lines values
  pub follow : Follow s n values t

same_parts : (s t : TextParts) (r : Result TextParts TextError) → r ≡ Ok t → r ≡ Ok s → t ≡ s
same_parts s t r a b = cc

no_fault : (t : TextParts) (e : TextError) (r : Result TextParts TextError) → r ≡ Ok t → r ≡ Err e → ⊥
no_fault t e r a b = cc

pub taken_as : (s : TextParts) (n : ℕ) (lines : List (List ℕ)) (t : TextParts) (r : Result TextParts TextError) → r ≡ Ok t
    → ComesTo s n lines r → TakenAs s n lines t
taken_as s n [] t r is h = record { values = []; said = tt; follow = same_parts s t r is h }
taken_as s n (bytes ∷ lines) t r is (inl (reason, refused, err)) = absurd (no_fault t _ r is err)
taken_as s n (bytes ∷ lines) t r is (inr (value, taken, rest)) =
    let later = taken_as (after s n value) (n + 1) lines t r is rest in
    record { values = value ∷ later.values; said = (taken.0, later.said); follow = (taken.1, later.follow) }

closed_bytes : (s : TextParts) (o : Option BundleLines) → (with_bundle s o).bytes ≡ s.bytes
closed_bytes s None = refl
closed_bytes s (Some b) = refl

closed_entries : (s : TextParts) (o : Option BundleLines) → (with_bundle s o).entries ≡ s.entries
closed_entries s None = refl
closed_entries s (Some b) = refl

-- What a line adds to the data.
one_data : (s : TextParts) (n : ℕ) (v : Line) → (after s n v).bytes ≡ s.bytes ++ line_data v
one_data s n (line.Numbers size values) = refl
one_data s n (line.Skip count) = refl
one_data s n line.Close = closed_bytes s (closed_of s.current) ∙ sym (append-nil s.bytes)
one_data s n v = sym (append-nil s.bytes)

-- The data are those of the lines.
pub all_data : (s : TextParts) (n : ℕ) (values : List Line) (t : TextParts) → Follow s n values t → t.bytes ≡ s.bytes ++ data_in values
all_data s n [] t h = ap (λ (u : TextParts). u.bytes) h ∙ sym (append-nil s.bytes)
all_data s n (v ∷ vs) t h =
    all_data (after s n v) (n + 1) vs t h.1 ∙ ap (λ bytes. bytes ++ data_in vs) (one_data s n v)
    ∙ append_assoc s.bytes (line_data v) (data_in vs)

abbrev pub names_of : List EntryLine → List (List ℕ)
names_of lines = map (λ e. e.name) lines

-- What a line adds to the entries.
one_entry : (s : TextParts) (n : ℕ) (v : Line) → names_of (after s n v).entries ≡ names_of s.entries ++ line_entry v
one_entry s n (line.Entry name) = map-append (λ (e : EntryLine). e.name) s.entries (record { line = n; name = name } ∷ [])
one_entry s n line.Close = ap names_of (closed_entries s (closed_of s.current)) ∙ sym (append-nil (names_of s.entries))
one_entry s n v = sym (append-nil (names_of s.entries))

-- The names of the entries are those before the lines, and then those of the lines.
pub all_entries : (s : TextParts) (n : ℕ) (values : List Line) (t : TextParts) → Follow s n values t
    → names_of t.entries ≡ names_of s.entries ++ entries_in values
all_entries s n [] t h = ap (λ (u : TextParts). names_of u.entries) h ∙ sym (append-nil (names_of s.entries))
all_entries s n (v ∷ vs) t h =
    all_entries (after s n v) (n + 1) vs t h.1 ∙ ap (λ names. names ++ entries_in vs) (one_entry s n v)
    ∙ append_assoc (names_of s.entries) (line_entry v) (entries_in vs)
