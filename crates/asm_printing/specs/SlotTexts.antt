-- The canonical slot line: two spaces, the qualifying predicate where it isn't p0, the mnemonic, the
-- operands and a stop.
use Rattle.std.specs.Prelude.{ℕ, ℤ, pos, negsuc, ◌+ℤ◌, ◌≤ℤ◌, Bool, true, false, ◌==◌, if◌then◌else◌, List, [], ◌∷◌, ◌++◌, flat_map, codes, decimal, Option, Some, None, IfSome}
use Rattle.std.specs.Option.{option_map}
use Rattle.std.specs.Fmt.{digits}
use Rattle.asm_lexemes.specs.declared.tokens.Token.{Token}
use Rattle.asm_lexemes.specs.declared.tokens.Token.TheVariants as t
use Rattle.asm_forms.specs.declared.items.FormItem.{FormItem}
use Rattle.asm_forms.specs.declared.items.FormItem.TheVariants.{Is, Takes}
use Rattle.asm_forms.specs.declared.items.Kind.{Kind}
use Rattle.asm_forms.specs.declared.items.Kind.TheVariants as takes
use Rattle.asm_forms.specs.declared.items.NumberField.{NumberField}
use Rattle.asm_forms.specs.declared.items.NumberField.TheVariants as field
use Rattle.asm_forms.specs.declared.completer.Completer.{Completer}
use Rattle.asm_forms.specs.declared.form.Form.{Form}
use Rattle.asm_forms.specs.Completers.{text_of}
use Rattle.asm_forms.specs.Items.{fixed_token}
use Rattle.asm_forms.specs.Rows.{row_of}
use Rattle.ia_insn.specs.declared.insn.Insn.{Insn}
use Rattle.ia_insn.specs.declared.insn.Op.{Op}
use Rattle.ia_insn.specs.declared.registers.Ar.{Ar}
use Rattle.ia_insn.specs.declared.registers.Ar.TheVariants as ar
use Rattle.ia_insn.specs.Displacements.{displacement}
use Rattle.ia_insn.specs.RegisterTexts.{gr_text, pr_text, br_text}
use Rattle.asm_canonical.specs.Canonical.{syntax_of}

-- The fields whose numbers are printed in hexadecimal: masks, and the numbers of movl, break, nop and hint.
abbrev is_hex_field : NumberField → Bool
is_hex_field field.Mask = true
is_hex_field field.Imm21 = true
is_hex_field field.Imm62 = true
is_hex_field field.Imm64 = true
is_hex_field _ = false

abbrev pub is_hex : Kind → Bool
is_hex (takes.Number f) = is_hex_field f
is_hex _ = false

abbrev pub ar_text : Ar → List ℕ
ar_text ar.Unat = codes "ar.unat"
ar_text ar.Pfs = codes "ar.pfs"
ar_text ar.Lc = codes "ar.lc"
ar_text ar.Ec = codes "ar.ec"

-- A number in decimal, or after `0x` in hexadecimal.
abbrev pub number_text : Bool → Bool → ℕ → List ℕ
number_text true negative m = (if negative then 45 ∷ [] else []) ++ 48 ∷ 120 ∷ digits 16 false m
number_text false negative m = (if negative then 45 ∷ [] else []) ++ decimal m

-- The label of a bundle.
abbrev pub label_text : ℕ → List ℕ
label_text n = 76 ∷ decimal n

-- An operand, where a name is the label of the target. What is no operand prints as nothing.
abbrev pub token_text : ℕ → Bool → Token → List ℕ
token_text target hex (t.Gr n) = gr_text n
token_text target hex (t.Pr n) = pr_text n
token_text target hex (t.Br n) = br_text n
token_text target hex (t.Ar a) = ar_text a
token_text target hex t.Predicates = codes "pr"
token_text target hex t.RotatingPredicates = codes "pr.rot"
token_text target hex t.Ip = codes "ip"
token_text target hex (t.Number negative m) = number_text hex negative m
token_text target hex t.Name = label_text target
token_text target hex t.Equals = codes "="
token_text target hex t.Comma = codes ","
token_text target hex t.OpenBracket = codes "["
token_text target hex t.CloseBracket = codes "]"
token_text target hex _ = []

-- The fixed tokens and the operands of a form, item by item.
abbrev pub operands_text : ℕ → List FormItem → List Token → List ℕ
operands_text target [] xs = []
operands_text target (Is fixed ∷ is) xs = token_text target false (fixed_token fixed) ++ operands_text target is xs
operands_text target (Takes kind n ∷ is) [] = []
operands_text target (Takes kind n ∷ is) (x ∷ xs) = token_text target (is_hex kind) x ++ operands_text target is xs

-- After one space, where there are operands.
abbrev pub spaced : List ℕ → List ℕ
spaced [] = []
spaced (c ∷ cs) = 32 ∷ c ∷ cs

abbrev pub mnemonic_text : Form → List Completer → List ℕ
mnemonic_text form completers = (row_of form).stem ++ flat_map text_of completers

abbrev pub predicate_text : ℕ → List ℕ
predicate_text qp = if qp == 0 then [] else codes "(p" ++ decimal qp ++ codes ") "

abbrev pub stop_text : Bool → List ℕ
stop_text stop = if stop then codes " ;;" else []

abbrev pub natural_of : ℤ → ℕ
natural_of (pos n) = n
natural_of (negsuc n) = 0

-- The bundle of the target of a direct branch or check that stands in the bundle.
abbrev pub target_of : ℕ → Op → Option ℕ
target_of bundle x = option_map (λ disp. natural_of (pos bundle +ℤ disp)) (displacement x)

abbrev pub or_zero : Option ℕ → ℕ
or_zero None = 0
or_zero (Some n) = n

-- The target, where there is one, is no bundle before the first.
abbrev pub HasTarget : ℕ → Op → Type 0
HasTarget bundle x = IfSome (displacement x) (λ disp. pos 0 ≤ℤ (pos bundle +ℤ disp))

-- A slot line by its target, its predicate, and the form, the completers and the operands of its instruction.
abbrev pub line_text : ℕ → ℕ → Form → List Completer → List Token → Bool → List ℕ
line_text target qp form completers operands stop =
    codes "  " ++ predicate_text qp ++ mnemonic_text form completers ++ spaced
    (operands_text target (row_of form).items operands) ++ stop_text stop

-- The slot line of an instruction in a bundle, without its line feed.
abbrev pub slot_text : Insn → ℕ → Bool → List ℕ
slot_text insn bundle stop =
    line_text (or_zero (target_of bundle insn.op)) insn.qp (syntax_of insn.op).form (syntax_of insn.op).completers
    (syntax_of insn.op).operands stop
