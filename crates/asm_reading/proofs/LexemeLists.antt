-- What the lexemes of a line say, by how many there are and by the position of the leading one.
use Rattle.std.proofs.Common.{◌≡◌, ◌≤◌, ◌<◌, ◌∙◌, sym, ap, refl, ℕ, suc, ◌+◌, true, List, [], ◌∷◌, length, take, drop, get_or, slice_get, slice_range, Some, None, Err, Result, false, add-one, arith}
use Rattle.std.proofs.Math.Seq.{drop-cons}
use Rattle.std.proofs.lemmas.List.{take-map, drop-map}
use Rattle.std.proofs.lemmas.Option.{slice_get-map, slice_get-get_or}
use Rattle.asm_lexemes.specs.declared.lexeme.Lexeme.{Lexeme}
use Rattle.asm_lexemes.specs.declared.lexeme.LexemeKind.{LexemeKind}
use Rattle.asm_lexemes.specs.declared.lexeme.LexemeKind.TheVariants as kind
use Rattle.asm_lexemes.specs.declared.fault.LineFault.{LineFault}
use Rattle.asm_lexemes.specs.declared.fault.LineFault.TheVariants as fault
use Rattle.asm_lexemes.specs.Bytes.{has_only_plain}
use Rattle.asm_forms.specs.declared.items.FormItem.{FormItem}
use Rattle.asm_forms.specs.Items.{is_label_item}
use Rattle.asm_lexemes.specs.Lexemes.{lexemes_from}
use Rattle.asm_reading.specs.declared.line.Line.{Line}
use Rattle.asm_reading.specs.Lines.{KindAndText, AreParts, texts, line_of, line_without_label, led_at, line_led_by, line_led_by_name, label_of, label_name, reading_of}

-- A label has nothing after its colon.
pub label_alone : (text line : List ℕ) (ws : List Lexeme) → 1 ≤ length ws → Err fault.Form ≡ label_of text (texts line ws)
label_alone text line [] h = absurd (omega (arith, h))
label_alone text line (w ∷ ws) h = refl

-- One lexeme is no label.
pub one_lexeme : (line : List ℕ) (ws : List Lexeme) → 1 ≤ length ws → length ws < 2 → line_without_label (texts line ws) ≡ line_of (texts line ws)
one_lexeme line [] some few = absurd (omega (arith, some))
one_lexeme line (w ∷ []) some few = refl
one_lexeme line (w ∷ x ∷ ws) some few = absurd (omega (arith, few))

-- The leading lexeme, what stands before it and what follows it.
pub led_there : (line : List ℕ) (ws before after : List Lexeme) (k : ℕ) (d : Lexeme) → k < length ws → before ≡ take k ws
    → after ≡ drop (k + 1) ws
    → line_led_by ((get_or ws k d).kind, slice_range line (get_or ws k d).start (get_or ws k d).end) (texts line before) (texts line after)
    ≡ led_at (texts line ws) (Some k)
led_there line ws before after k d h front rest =
    let view : Lexeme → KindAndText = λ w. (w.kind, slice_range line w.start w.end) in
    let there : slice_get (texts line ws) k ≡ Some (view (get_or ws k d)) = slice_get-map view ws k ∙ rw (slice_get-get_or ws k d h) refl in
    let b : take k (texts line ws) ≡ texts line before = take-map view k ws ∙ ap (texts line) (sym front) in
    let a : drop (k + 1) (texts line ws) ≡ texts line after = drop-map view (k + 1) ws ∙ ap (texts line) (sym rest) in
    rw (there, b, a) refl

-- A line that a name leads.
pub led_name : (k : LexemeKind) (text part : List ℕ) (before after : List KindAndText) (r : Result Line LineFault) → k ≡ kind.Name
    → text ≡ part → r ≡ line_led_by_name text before after → r ≡ line_led_by (k, part) before after
led_name k text part before after r e t h = h ∙ ap (λ w. line_led_by_name w before after) t ∙ ap (λ q. line_led_by (q, part) before after) (sym e)

-- The lexemes of a line are read by their kinds and texts.
pub read_by_text : (line : List ℕ) (ws : List Lexeme) → ws ≡ lexemes_from 0 0 line → has_only_plain line ≡ true
    → line_of (texts line ws) ≡ reading_of line
read_by_text line ws e plain = rw (e, plain) refl

-- The name of the label is not among the lexemes where they end before it.
pub label_missing : (line : List ℕ) (is : List FormItem) (ws : List Lexeme) → length ws < 1 → None ≡ label_name is (texts line ws)
label_missing line [] [] few = refl
label_missing line (i ∷ is) [] few = refl
label_missing line is (w ∷ ws) few = absurd (omega (arith, few))

-- The name of the label is among the lexemes behind one that is another item's.
pub label_later : (line : List ℕ) (is : List FormItem) (ws rest : List Lexeme) (k : ℕ) (d : FormItem) → k < length is → 1 ≤ length ws
    → is_label_item (get_or is k d) ≡ false → rest ≡ drop 1 ws
    → label_name (drop (k + 1) is) (texts line rest) ≡ label_name (drop k is) (texts line ws)
label_later line is [] rest k d there some other e = absurd (omega (arith, some))
label_later line is (w ∷ ws) rest k d there some other e = rw (e, add-one, drop-cons is k d there, other) refl

-- The lexemes after the first are parts of the line too.
pub parts_later : (line : List ℕ) (ws rest : List Lexeme) → AreParts line ws → rest ≡ drop 1 ws → AreParts line rest
parts_later line [] rest all e = rw e (λ k d there. absurd (omega (arith, there)))
parts_later line (w ∷ ws) rest all e = rw e (λ k d there. all (suc k) d (omega (arith, there)))
