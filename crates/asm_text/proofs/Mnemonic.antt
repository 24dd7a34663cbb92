-- The text of a mnemonic is one name.
use Rattle.std.proofs.Common.{◌≡◌, refl, ℕ, Bool, true, false, ◌&&◌, not, List, [], ◌∷◌, ◌++◌}
use Rattle.std.specs.Prelude.{flat_map}
use Rattle.std.specs.List.{list_all}
use Rattle.std.proofs.lemmas.Bool.{not-true}
use Rattle.ia_insn.specs.declared.insn.Op.{Op}
use Rattle.ia_program.proofs.Tests.{left, right}
use Rattle.asm_lexemes.specs.declared.lexeme.LexemeKind.TheVariants as kind
use Rattle.asm_lexemes.specs.Bytes.{is_name_byte, is_digit_byte}
use Rattle.asm_lexemes.proofs.Lexed.{lexed, is_end}
use Rattle.asm_lexemes.proofs.Lexing.{name_lexed}
use Rattle.asm_forms.specs.declared.completer.Completer.{Completer}
use Rattle.asm_forms.specs.declared.completer.Suffix.{Suffix}
use Rattle.asm_forms.specs.declared.completer.Suffix.TheVariants as s
use Rattle.asm_forms.specs.declared.form.Form.{Form}
use Rattle.asm_forms.specs.Completers.{suffix_text, text_of}
use Rattle.asm_forms.specs.Rows.{rows, row_of}
use Rattle.asm_forms.proofs.RowFacts.{of_row}
use Rattle.asm_canonical.proofs.Written.{form_of, completers_of}
use Rattle.asm_printing.specs.SlotTexts.{mnemonic_text}

abbrev pub name_of_op : Op → List ℕ
name_of_op x = mnemonic_text (form_of x) (completers_of x)

-- The first byte is one of names and no digit.
abbrev pub begins_name : List ℕ → Bool
begins_name [] = false
begins_name (c ∷ cs) = is_name_byte c && not (is_digit_byte c)

-- The bytes of each word are those of a name.
stems_plain : list_all (λ r. begins_name r.stem && list_all is_name_byte r.stem) rows ≡ true
stems_plain = refl

stem_begins : (f : Form) → begins_name (row_of f).stem ≡ true
stem_begins f = left _ _ (of_row (λ r. begins_name r.stem && list_all is_name_byte r.stem) f stems_plain)

lexeme_bytes : (f : Form) → list_all is_name_byte (row_of f).stem ≡ true
lexeme_bytes f = right (begins_name (row_of f).stem) _ (of_row (λ r. begins_name r.stem && list_all is_name_byte r.stem) f stems_plain)

-- The bytes of each completer are those of a name.
completer_bytes : (suffix : Suffix) → list_all is_name_byte (suffix_text suffix) ≡ true
completer_bytes s.Absent = refl
completer_bytes suffix = refl

names_both : (xs ys : List ℕ) → list_all is_name_byte xs ≡ true → list_all is_name_byte ys ≡ true → list_all is_name_byte (xs ++ ys) ≡ true
names_both [] ys h k = k
names_both (x ∷ xs) ys h k = rw (left (is_name_byte x) _ h) (names_both xs ys (right (is_name_byte x) _ h) k)

begins_both : (xs ys : List ℕ) → begins_name xs ≡ true → begins_name (xs ++ ys) ≡ true
begins_both [] ys h = cc
begins_both (x ∷ xs) ys h = h

completers_bytes : (cs : List Completer) → list_all is_name_byte (flat_map text_of cs) ≡ true
completers_bytes [] = refl
completers_bytes (c ∷ cs) = names_both (text_of c) (flat_map text_of cs) (completer_bytes c.suffix) (completers_bytes cs)

-- The bytes of a mnemonic are those of a name.
pub mnemonic_bytes : (f : Form) (cs : List Completer) → list_all is_name_byte (mnemonic_text f cs) ≡ true
mnemonic_bytes f cs = names_both (row_of f).stem (flat_map text_of cs) (lexeme_bytes f) (completers_bytes cs)

pub mnemonic_begins : (f : Form) (cs : List Completer) → begins_name (mnemonic_text f cs) ≡ true
mnemonic_begins f cs = begins_both (row_of f).stem (flat_map text_of cs) (stem_begins f)

-- A name before an end is one word.
pub name_cut : (n cs : List ℕ) → begins_name n ≡ true → list_all is_name_byte n ≡ true → is_end cs ≡ true
    → lexed 0 (n ++ cs) ≡ (kind.Name, n) ∷ lexed 0 cs
name_cut [] cs b h e = cc
name_cut (c ∷ n) cs b h e = name_lexed c n cs (left _ _ b) (not-true _ (right (is_name_byte c) _ b)) (right (is_name_byte c) _ h) e

-- A mnemonic before an end is one word.
pub mnemonic_lexed : (f : Form) (completers : List Completer) (cs : List ℕ) → is_end cs ≡ true
    → lexed 0 (mnemonic_text f completers ++ cs) ≡ (kind.Name, mnemonic_text f completers) ∷ lexed 0 cs
mnemonic_lexed f completers cs e = name_cut (mnemonic_text f completers) cs (mnemonic_begins f completers) (mnemonic_bytes f completers) e
