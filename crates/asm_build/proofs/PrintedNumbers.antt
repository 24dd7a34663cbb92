-- What a printed line of data says.
use Rattle.std.proofs.Common.{◌≡◌, ◌∙◌, ℕ, ◌+◌, ◌*◌, ◌<◌, ◌≤◌, ◌%◌, ◌^◌, true, false, ◌==◌, leb, List, [], ◌∷◌, ◌++◌, length, codes, Ok, refl, ap, arith, length-append}
use Rattle.std.specs.Fmt.{digits}
use Rattle.std.proofs.lemmas.Bool.{lt-ltb, le-leb, eq-eqb, ne_eqb, cond-false}
use Rattle.asm_lexemes.specs.declared.limits.TheConstants.{NUMBER_TOKEN_LIMIT}
use Rattle.asm_lexemes.specs.declared.lexeme.LexemeKind.TheVariants as kind
use Rattle.asm_lexemes.specs.declared.tokens.Token.{Token}
use Rattle.asm_lexemes.specs.declared.tokens.Token.TheVariants as t
use Rattle.asm_lexemes.specs.Bytes.{has_only_plain}
use Rattle.asm_lexemes.specs.Tokens.{token_of}
use Rattle.asm_lexemes.proofs.Lexed.{lexed, is_end}
use Rattle.asm_lexemes.proofs.Lexing.{name_lexed}
use Rattle.asm_lexemes.proofs.Readings.{hex_reads, hex_is_plain, both_plain, hex_lexed}
use Rattle.asm_forms.specs.declared.choices.AccessSize.TheVariants as size
use Rattle.asm_forms.specs.declared.items.NumberField.TheVariants as field
use Rattle.asm_reading.specs.declared.line.Line.TheVariants as line
use Rattle.asm_reading.specs.Lines.{KindAndText, tokens, agreed_data, numbers_of, data_of, is_colon, line_of}
use Rattle.asm_printing.proofs.Rooms.{hex_is_short}
use Rattle.asm_text.proofs.SlotLines.{read_plain}
use Rattle.asm_build.specs.TextReading.{Says}
use Rattle.asm_build.proofs.DataBack.{AreWords}

abbrev pub hex_text : ℕ → List ℕ
hex_text w = 48 ∷ 120 ∷ digits 16 false w

-- Each word after a comma.
abbrev pub more_text : List ℕ → List ℕ
more_text [] = []
more_text (w ∷ ws) = 44 ∷ hex_text w ++ more_text ws

-- The line of a word and more.
abbrev pub numbers_text : ℕ → List ℕ → List ℕ
numbers_text w ws = codes "data8 " ++ hex_text w ++ more_text ws

abbrev more_words : List ℕ → List KindAndText
more_words [] = []
more_words (w ∷ ws) = (kind.Mark, codes ",") ∷ (kind.Number, hex_text w) ∷ more_words ws

abbrev more_tokens : List ℕ → List Token
more_tokens [] = []
more_tokens (w ∷ ws) = t.Comma ∷ t.Number false w ∷ more_tokens ws

comma_ends : (ws : List ℕ) → is_end (more_text ws) ≡ true
comma_ends [] = refl
comma_ends (w ∷ ws) = refl

more_lexed : (ws : List ℕ) → AreWords ws → lexed 0 (more_text ws) ≡ more_words ws
more_lexed [] h = refl
more_lexed (w ∷ ws) h =
    ap (λ ks. (kind.Mark, codes ",") ∷ ks) (hex_lexed w (more_text ws) h.0 (comma_ends ws)
    ∙ ap (λ ks. (kind.Number, hex_text w) ∷ ks) (more_lexed ws h.1))

more_read : (ws : List ℕ) → AreWords ws → tokens (more_words ws) ≡ more_tokens ws
more_read [] h = refl
more_read (w ∷ ws) h =
    ap (λ x. t.Comma ∷ x ∷ tokens (more_words ws)) (hex_reads w h.0) ∙ ap (λ xs. t.Comma ∷ t.Number false w ∷ xs) (more_read ws h.1)

more_plain : (ws : List ℕ) → AreWords ws → has_only_plain (more_text ws) ≡ true
more_plain [] h = refl
more_plain (w ∷ ws) h = both_plain (44 ∷ hex_text w) (more_text ws) (hex_is_plain w h.0) (more_plain ws h.1)

more_short : (ws : List ℕ) → AreWords ws → length (more_text ws) ≤ 19 * length ws
more_short [] h = omega arith
more_short (w ∷ ws) h = omega (arith, length-append (44 ∷ hex_text w) (more_text ws), more_short ws h.1, hex_is_short 15 w h.0 h.0)

count_tokens : (ws : List ℕ) → length (more_tokens ws) ≡ 2 * length ws
count_tokens [] = refl
count_tokens (w ∷ ws) = omega (arith, count_tokens ws)

-- Numbers and commas in turn.
agreed_more : (ws : List ℕ) (at : ℕ) → at % 2 ≡ 1 → at + 2 * length ws ≤ NUMBER_TOKEN_LIMIT → AreWords ws
    → agreed_data field.Imm64 at (more_tokens ws) ≡ length (more_tokens ws)
agreed_more [] at odd room h = refl
agreed_more (w ∷ ws) at odd room h =
    let comma : (at % 2 == 0) ≡ false = ne_eqb (at % 2) 0 (λ e. omega (arith, odd, e)) in
    let number : ((at + 1) % 2 == 0) ≡ true = eq-eqb ((at + 1) % 2) 0 (omega (arith, odd)) in
    let small : leb w 18446744073709551615 ≡ true = le-leb w 18446744073709551615 (omega (arith, h.0)) in
    rw (
      comma,
      lt-ltb at NUMBER_TOKEN_LIMIT (omega (arith, room)),
      number,
      lt-ltb (at + 1) NUMBER_TOKEN_LIMIT (omega (arith, room)),
      small,
      agreed_more ws (at + 1 + 1) (omega (arith, odd)) (omega (arith, room)) h.1,
    ) (omega arith)

first_agreed : (w : ℕ) (ws : List ℕ) → length ws ≤ 7 → w < 2 ^ 64 → AreWords ws
    → agreed_data field.Imm64 0 (t.Number false w ∷ more_tokens ws) ≡ length (t.Number false w ∷ more_tokens ws)
first_agreed w ws few l h =
    let small : leb w 18446744073709551615 ≡ true = le-leb w 18446744073709551615 (omega (arith, l)) in
    rw (small, agreed_more ws 1 refl (omega (arith, few)) h) (omega arith)

numbers_back : (w : ℕ) (ws : List ℕ) → w < 2 ^ 64 → AreWords ws → numbers_of (2 ^ 64) (t.Number false w ∷ more_tokens ws) ≡ w ∷ ws
numbers_back w [] l h = ap (λ v. v ∷ []) (omega (arith, l))
numbers_back w (v ∷ ws) l h =
    let here : w % 2 ^ 64 ≡ w = omega (arith, l) in
    ap (λ x. x ∷ numbers_of (2 ^ 64) (t.Number false v ∷ more_tokens ws)) here ∙ ap (λ vs. w ∷ vs) (numbers_back v ws h.0 h.1)

data_value : (w : ℕ) (ws : List ℕ) → length ws ≤ 7 → w < 2 ^ 64 → AreWords ws
    → data_of size.Eight (t.Number false w ∷ more_tokens ws) ≡ Ok (line.Numbers 8 (w ∷ ws))
data_value w ws few l h =
    let same : (agreed_data field.Imm64 0 (t.Number false w ∷ more_tokens ws) == length (t.Number false w ∷ more_tokens ws)) ≡ true =
    eq-eqb _ _ (first_agreed w ws few l h) in
    let odd : (length (t.Number false w ∷ more_tokens ws) % 2 == 1) ≡ true = eq-eqb _ 1 (omega (arith, count_tokens ws)) in
    rw (same, odd, numbers_back w ws l h) refl

after_name : (x : KindAndText) (ws : List KindAndText) → is_colon (token_of x.0 x.1) ≡ false
    → line_of ((kind.Name, codes "data8") ∷ x ∷ ws) ≡ data_of size.Eight (tokens (x ∷ ws))
after_name x ws h = cond-false (is_colon (token_of x.0 x.1)) _ _ h

led_value : (w : ℕ) (ws : List KindAndText) → token_of kind.Number (hex_text w) ≡ t.Number false w
    → line_of ((kind.Name, codes "data8") ∷ (kind.Number, hex_text w) ∷ ws) ≡ data_of size.Eight (t.Number false w ∷ tokens ws)
led_value w ws e = after_name (kind.Number, hex_text w) ws (ap is_colon e) ∙ ap (λ x. data_of size.Eight (x ∷ tokens ws)) e

-- A line of at most eight words.
pub numbers_say : (w : ℕ) (ws : List ℕ) → length ws ≤ 7 → AreWords (w ∷ ws) → Says (numbers_text w ws) (line.Numbers 8 (w ∷ ws))
numbers_say w ws few h =
    let after : lexed 0 (hex_text w ++ more_text ws) ≡ (kind.Number, hex_text w) ∷ more_words ws =
    hex_lexed w (more_text ws) h.0 (comma_ends ws) ∙ ap (λ ks. (kind.Number, hex_text w) ∷ ks) (more_lexed ws h.1) in
    let cut : lexed 0 (numbers_text w ws) ≡ (kind.Name, codes "data8") ∷ (kind.Number, hex_text w) ∷ more_words ws =
    name_lexed 100 (codes "ata8") (32 ∷ hex_text w ++ more_text ws) refl refl refl refl
    ∙ ap (λ ks. (kind.Name, codes "data8") ∷ ks) after in
    let plain : has_only_plain (numbers_text w ws) ≡ true =
    both_plain (codes "data8 " ++ hex_text w) (more_text ws) (hex_is_plain w h.0) (more_plain ws h.1) in
    record {
      short = omega (arith, length-append (codes "data8 " ++ hex_text w) (more_text ws), more_short ws h.1, few, hex_is_short 15 w h.0 h.0);
      reads = record {
        reading =
            read_plain (numbers_text w ws) plain ∙ ap line_of cut ∙ led_value w (more_words ws) (hex_reads w h.0)
            ∙ ap (λ xs. data_of size.Eight (t.Number false w ∷ xs)) (more_read ws h.1) ∙ data_value w ws few h.0 h.1;
        listed = tt;
      };
    }
