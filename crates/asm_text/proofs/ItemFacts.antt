-- What the items of a row say of the tokens that operands which fit them make: how many there are, that none run
-- together, which is the label, and that they can be printed.
use Rattle.std.proofs.Common.{◌≡◌, refl, ◌∙◌, ap, Bool, true, false, not, ◌&&◌, cond, List, [], ◌∷◌, length, Option, Some, None, is_some, lit<}
use Rattle.std.specs.Prelude.{ℤ}
use Rattle.std.specs.Option.{option_map}
use Rattle.std.specs.List.{AllByRecursion, list_all, list_any}
use Rattle.std.proofs.lemmas.Bool.{and_from}
use Rattle.ia_program.proofs.Tests.{left, right}
use Rattle.asm_lexemes.specs.declared.tokens.Token.{Token}
use Rattle.asm_lexemes.specs.declared.tokens.Token.TheVariants as t
use Rattle.asm_forms.specs.declared.form.Form.{Form}
use Rattle.asm_forms.specs.declared.items.FormItem.{FormItem}
use Rattle.asm_forms.specs.declared.items.FormItem.TheVariants.{Is, Takes}
use Rattle.asm_forms.specs.declared.items.Kind.{Kind}
use Rattle.asm_forms.specs.declared.items.Kind.TheVariants as k
use Rattle.asm_forms.specs.declared.items.Fixed.{Fixed}
use Rattle.asm_forms.specs.declared.items.Fixed.TheVariants as m
use Rattle.asm_forms.specs.Items.{fixed_token, filled, prints, fits, is_label_item}
use Rattle.asm_forms.specs.Rows.{rows, row_of}
use Rattle.asm_forms.proofs.RowFacts.{of_row}
use Rattle.asm_canonical.proofs.InRange.{IsTokenInRange}
use Rattle.asm_canonical.proofs.Written.{IsPrinted}
use Rattle.asm_text.proofs.OperandTexts.{is_lexemelike, are_apart, label_token}

-- A token for each item.
pub as_many : (is : List FormItem) (xs : List Token) → fits is xs ≡ true → length is ≡ length (filled is xs)
as_many [] xs h = refl
as_many (Is fixed ∷ is) xs h = rw (as_many is xs h) refl
as_many (Takes kind n ∷ is) [] h = cc
as_many (Takes kind n ∷ is) (x ∷ xs) h = rw (as_many is xs (right (prints kind x) _ h)) refl

-- No two words next to one another.
abbrev pub is_run : FormItem → Bool
is_run (Is fixed) = is_lexemelike (fixed_token fixed)
is_run (Takes kind n) = true

abbrev pub items_apart : List FormItem → Bool
items_apart [] = true
items_apart (i ∷ []) = true
items_apart (i ∷ j ∷ is) = not (is_run i && is_run j) && items_apart (j ∷ is)

rows_apart : list_all (λ r. items_apart r.items) rows ≡ true
rows_apart = refl

first_of_two : (a b : Bool) → not (a && true) ≡ true → not (a && b) ≡ true
first_of_two false b h = refl
first_of_two true b h = cc

second_of_two : (a b : Bool) → not (true && b) ≡ true → not (a && b) ≡ true
second_of_two true b h = h
second_of_two false b h = refl

apart : (is : List FormItem) (xs : List Token) → fits is xs ≡ true → items_apart is ≡ true → are_apart (filled is xs) ≡ true
apart [] xs h e = refl
apart (Is a ∷ []) xs h e = refl
apart (Takes kind n ∷ []) [] h e = cc
apart (Takes kind n ∷ []) (x ∷ xs) h e = refl
apart (Is a ∷ Is b ∷ is) xs h e = and_from _ _ (left _ _ e) (apart (Is b ∷ is) xs h (right _ _ e))
apart (Is a ∷ Takes kind n ∷ is) [] h e = cc
apart (Is a ∷ Takes kind n ∷ is) (x ∷ xs) h e =
    and_from _ _ (first_of_two (is_lexemelike (fixed_token a)) (is_lexemelike x) (left _ _ e))
    (apart (Takes kind n ∷ is) (x ∷ xs) h (right _ _ e))
apart (Takes kind n ∷ is) [] h e = cc
apart (Takes kind n ∷ Is b ∷ is) (x ∷ xs) h e =
    and_from _ _ (second_of_two (is_lexemelike x) (is_lexemelike (fixed_token b)) (left _ _ e))
    (apart (Is b ∷ is) xs (right _ _ h) (right _ _ e))
apart (Takes kind n ∷ Takes other to ∷ is) (x ∷ xs) h e = cc

pub row_apart : (f : Form) (xs : List Token) → fits (row_of f).items xs ≡ true → are_apart (filled (row_of f).items xs) ≡ true
row_apart f xs h = apart (row_of f).items xs h (of_row (λ r. items_apart r.items) f rows_apart)

-- The token at the position of the label is a name, where there is a label.
label_printed : (x : Token) → prints k.Label x ≡ true → x ≡ t.Name
label_printed t.Name h = refl
label_printed x h = cc

label_at : (is : List FormItem) (xs : List Token) → fits is xs ≡ true
    → label_token is (filled is xs) ≡ cond (list_any is_label_item is) (Some t.Name) None
label_at [] xs h = refl
label_at (Is fixed ∷ is) xs h = label_at is xs h
label_at (Takes kind n ∷ is) [] h = cc
label_at (Takes k.Label n ∷ is) (x ∷ xs) h = ap Some (label_printed x (left _ _ h))
label_at (Takes kind n ∷ is) (x ∷ xs) h = label_at is xs (right _ _ h)

name_where : (d : Option ℤ) → cond (is_some d) (Some t.Name) None ≡ option_map (λ disp. t.Name) d
name_where None = refl
name_where (Some disp) = refl

pub label_token_of : (f : Form) (xs : List Token) (d : Option ℤ) → fits (row_of f).items xs ≡ true
    → list_any is_label_item (row_of f).items ≡ is_some d → label_token (row_of f).items (filled (row_of f).items xs)
    ≡ option_map (λ disp. t.Name) d
label_token_of f xs d h e = label_at (row_of f).items xs h ∙ ap (λ b. cond b (Some t.Name) None) e ∙ name_where d

-- fixed tokens can be printed.
fixed_printed : (fixed : Fixed) → IsPrinted (fixed_token fixed)
fixed_printed m.Equals = tt
fixed_printed m.R0 = lit< tt
fixed_printed m.One = lit< tt
fixed_printed fixed = tt

-- Operands that fit and are in their ranges can be printed.
operand_printed : (kind : Kind) (x : Token) → prints kind x ≡ true → IsTokenInRange x → IsPrinted x
operand_printed k.Gr (t.Gr n) h r = r
operand_printed k.Pr (t.Pr n) h r = r
operand_printed k.Br (t.Br n) h r = r
operand_printed k.Ar (t.Ar a) h r = tt
operand_printed (k.Number f) (t.Number s m) h r = r
operand_printed k.Label t.Name h r = tt
operand_printed kind x h r = cc

pub all_printed : (is : List FormItem) (xs : List Token) → fits is xs ≡ true → AllByRecursion IsTokenInRange xs
    → AllByRecursion IsPrinted (filled is xs)
all_printed [] xs h r = tt
all_printed (Is fixed ∷ is) xs h r = (fixed_printed fixed, all_printed is xs h r)
all_printed (Takes kind n ∷ is) [] h r = tt
all_printed (Takes kind n ∷ is) (x ∷ xs) h r =
    (operand_printed kind x (left (prints kind x) _ h) r.0, all_printed is xs (right (prints kind x) _ h) r.1)
