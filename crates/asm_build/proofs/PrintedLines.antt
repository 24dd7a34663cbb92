-- What the printed lines other than slots say.
use Rattle.std.proofs.Common.{◌≡◌, ◌∙◌, ℕ, ◌<◌, ◌≤◌, ◌^◌, true, List, [], ◌∷◌, ◌++◌, length, map, codes, Ok, refl, sym, ap, arith, length-append}
use Rattle.std.specs.Fmt.{decimal}
use Rattle.std.proofs.lemmas.List.{append-nil}
use Rattle.std.proofs.lemmas.Bool.{cond-false}
use Rattle.asm_lexemes.specs.declared.limits.TheConstants.{LINE_LIMIT}
use Rattle.asm_lexemes.specs.declared.lexeme.LexemeKind.TheVariants as kind
use Rattle.asm_lexemes.specs.Bytes.{has_only_plain}
use Rattle.asm_lexemes.proofs.Lexed.{lexed}
use Rattle.asm_lexemes.proofs.Lexing.{name_lexed}
use Rattle.asm_lexemes.proofs.Readings.{label_is_short, label_reads, decimal_is_name_bytes, decimal_is_plain, both_plain}
use Rattle.asm_forms.specs.declared.form.Form.TheVariants as form
use Rattle.asm_matching.specs.Matching.{read_form}
use Rattle.asm_lexemes.specs.Tokens.{token_of}
use Rattle.asm_reading.specs.declared.line.Line.{Line}
use Rattle.asm_reading.specs.declared.line.Line.TheVariants as line
use Rattle.asm_reading.specs.declared.line.TemplateName.{TemplateName}
use Rattle.asm_reading.specs.declared.line.TemplateName.TheVariants as template_name
use Rattle.asm_reading.specs.Lines.{◌>>=◌, named, directive_value, IsListedLine, is_colon, line_of, reading_of}
use Rattle.asm_printing.specs.SlotTexts.{label_text}
use Rattle.asm_text.proofs.OperandTexts.{label_is_name}
use Rattle.asm_text.proofs.SlotLines.{read_plain}
use Rattle.asm_build.specs.CanonicalText.{unit_letter}
use Rattle.asm_build.specs.TemplateNames.{units_named}
use Rattle.asm_build.specs.TextReading.{Says}

label_lexed : (n : ℕ) → n < 2 ^ 32 → lexed 0 (label_text n ++ codes ":") ≡ (kind.Name, label_text n) ∷ (kind.Mark, codes ":") ∷ []
label_lexed n l = name_lexed 76 (decimal n) (codes ":") refl refl (decimal_is_name_bytes n (omega (arith, l))) refl

label_plain : (n : ℕ) → n < 2 ^ 32 → has_only_plain (label_text n) ≡ true
label_plain n l = decimal_is_plain n (omega (arith, l))

label_value : (n : ℕ) → n < 2 ^ 32 → line_of ((kind.Name, label_text n) ∷ (kind.Mark, codes ":") ∷ []) ≡ Ok (line.Label (label_text n))
label_value n l = rw (label_is_name n (omega (arith, l))) refl

-- The label of a bundle.
pub label_says : (n : ℕ) → n < 2 ^ 32 → Says (label_text n ++ codes ":") (line.Label (label_text n))
label_says n l = record {
  short = omega (arith, length-append (label_text n) (codes ":"), label_is_short n l);
  reads = record {
    reading =
        read_plain (label_text n ++ codes ":") (both_plain (label_text n) (codes ":") (label_plain n l) refl)
        ∙ ap line_of (label_lexed n l) ∙ label_value n l;
    listed = tt;
  };
}

entry_lexed : (n : ℕ) → n < 2 ^ 32 → lexed 0 (codes ".entry " ++ label_text n) ≡ (kind.Name, codes ".entry") ∷ lexed 0 (label_text n)
entry_lexed n l = name_lexed 46 (codes "entry") (32 ∷ label_text n) refl refl refl refl

name_alone : (n : ℕ) → n < 2 ^ 32 → lexed 0 (label_text n ++ []) ≡ (kind.Name, label_text n) ∷ []
name_alone n l = name_lexed 76 (decimal n) [] refl refl (decimal_is_name_bytes n (omega (arith, l))) refl

entry_value : (n : ℕ) → n < 2 ^ 32 → line_of ((kind.Name, codes ".entry") ∷ (kind.Name, label_text n) ∷ [])
    ≡ Ok (line.Entry (label_text n))
entry_value n l =
    cond-false (is_colon (token_of kind.Name (label_text n))) _ _ (ap is_colon (label_reads n l))
    ∙ ap (λ x. read_form (form.Entry ∷ []) (x ∷ []) (x ∷ []) >>= λ f. directive_value f ((kind.Name, label_text n) ∷ [])) (label_reads n l)
    ∙ ap (λ o. named o (λ name. line.Entry name)) (label_is_name n (omega (arith, l)))

-- A declared entry.
pub entry_says : (n : ℕ) → n < 2 ^ 32 → Says (codes ".entry " ++ label_text n) (line.Entry (label_text n))
entry_says n l = record {
  short = omega (arith, label_is_short n l);
  reads = record {
    reading = read_plain (codes ".entry " ++ label_text n) (label_plain n l)
        ∙ ap line_of (entry_lexed n l ∙ ap (λ ws. (kind.Name, codes ".entry") ∷ ws)
        (ap (lexed 0) (sym (append-nil (label_text n))) ∙ name_alone n l)) ∙ entry_value n l;
    listed = tt;
  };
}

says : (bytes : List ℕ) (value : Line) → length bytes ≤ LINE_LIMIT → reading_of bytes ≡ Ok value → IsListedLine value → Says bytes value
says bytes value short reading listed = record { short = short; reads = record { reading = reading; listed = listed } }

-- The beginning of a bundle.
pub head_says : (s : TemplateName) → Says (codes "{ ." ++ map unit_letter (units_named s)) (line.Open s)
head_says template_name.Mii = says _ _ (omega arith) refl tt
head_says template_name.Mlx = says _ _ (omega arith) refl tt
head_says template_name.Mmi = says _ _ (omega arith) refl tt
head_says template_name.Mfi = says _ _ (omega arith) refl tt
head_says template_name.Mmf = says _ _ (omega arith) refl tt
head_says template_name.Mib = says _ _ (omega arith) refl tt
head_says template_name.Mbb = says _ _ (omega arith) refl tt
head_says template_name.Bbb = says _ _ (omega arith) refl tt
head_says template_name.Mmb = says _ _ (omega arith) refl tt
head_says template_name.Mfb = says _ _ (omega arith) refl tt

-- Its end.
pub end_says : Says (codes "}") line.Close
end_says = says (codes "}") line.Close (omega arith) refl tt

pub data_says : Says (codes ".data") line.Data
data_says = says (codes ".data") line.Data (omega arith) refl tt
