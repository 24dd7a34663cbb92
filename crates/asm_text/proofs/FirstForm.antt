-- The first of the forms that the name of a slot line names is that of a slot line.
use Rattle.std.proofs.Common.{◌≡◌, refl, subst, sym, ℕ, Bool, true, false, not, ◌||◌, List, [], ◌∷◌, ◌++◌, flat_map}
use Rattle.std.specs.List.{list_all}
use Rattle.std.proofs.lemmas.Bool.{not-true}
use Rattle.asm_forms.specs.declared.completer.Completer.{Completer}
use Rattle.asm_forms.specs.declared.form.Form.{Form}
use Rattle.asm_forms.specs.Completers.{text_of}
use Rattle.asm_forms.specs.Naming.{named_forms}
use Rattle.asm_forms.specs.Rows.{rows, row_of, is_instruction}
use Rattle.asm_forms.proofs.RowFacts.{form_back, of_row}
use Rattle.asm_reading.specs.SlotReading.{is_directive_name}
use Rattle.asm_reading.proofs.SlotForms.{all_slots}
use Rattle.asm_printing.specs.SlotTexts.{mnemonic_text}

-- A printed mnemonic begins as its stem.
abbrev plain_stem : List ℕ → Bool
plain_stem [] = false
plain_stem (c ∷ []) = false
plain_stem (c ∷ d ∷ cs) = not (is_directive_name (c ∷ d ∷ cs))

stems_plain : list_all (λ r. not (is_instruction r.form) || plain_stem r.stem) rows ≡ true
stems_plain = refl

goes_on_plain : (w more : List ℕ) → plain_stem w ≡ true → is_directive_name (w ++ more) ≡ false
goes_on_plain [] more h = cc
goes_on_plain (c ∷ []) more h = cc
goes_on_plain (c ∷ d ∷ cs) more h = not-true (is_directive_name (c ∷ d ∷ cs)) h

pub named_slots : (f : Form) (cs : List Completer) → is_instruction f ≡ true
    → list_all is_instruction (named_forms (mnemonic_text f cs)) ≡ true
named_slots f cs h =
    let own : is_instruction (row_of f).form ≡ true = subst (λ g. is_instruction g ≡ true) (sym (form_back f)) h in
    let known : (not (is_instruction (row_of f).form) || plain_stem (row_of f).stem) ≡ true =
    of_row (λ r. not (is_instruction r.form) || plain_stem r.stem) f stems_plain in
    all_slots (mnemonic_text f cs) (goes_on_plain (row_of f).stem (flat_map text_of cs) (rw own at known))
