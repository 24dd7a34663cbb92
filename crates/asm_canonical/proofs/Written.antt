-- How an instruction is printed, token by token.
use Rattle.std.proofs.Common.{◌≡◌, refl, ℕ, ◌<◌, ◌^◌, List}
use Rattle.asm_lexemes.specs.declared.tokens.Token.{Token}
use Rattle.asm_lexemes.specs.declared.tokens.Token.TheVariants as t
use Rattle.asm_forms.specs.declared.completer.Completer.{Completer}
use Rattle.asm_forms.specs.declared.form.Form.{Form}
use Rattle.asm_forms.specs.declared.items.FormItem.{FormItem}
use Rattle.asm_forms.specs.Items.{filled}
use Rattle.asm_forms.specs.Rows.{row_of}
use Rattle.ia_insn.specs.declared.insn.Op.{Op}
use Rattle.insn_rows.specs.declared.opcode.Opcode.{Opcode}
use Rattle.insn_rows.specs.declared.value.Value.{Value}
use Rattle.insn_rows.specs.Arms.{opcode_of, operands_of as values_under}
use Rattle.insn_rows.specs.Values.{at}
use Rattle.asm_canonical.specs.Canonical.{form_of as form_by, written, syntax_by, syntax_of}

abbrev pub form_of : Op → Form
form_of x = (syntax_of x).form

abbrev pub completers_of : Op → List Completer
completers_of x = (syntax_of x).completers

abbrev pub operands_of : Op → List Token
operands_of x = (syntax_of x).operands

abbrev pub items_of : Op → List FormItem
items_of x = (row_of (form_of x)).items

-- fixed tokens and operands.
abbrev pub tokens_of : Op → List Token
tokens_of x = filled (items_of x) (operands_of x)

-- A token that can be printed: an operand whose registers and numbers are in their ranges, or a fixed one.
abbrev pub IsPrinted : Token → Type 0
IsPrinted (t.Gr n) = n < 128
IsPrinted (t.Pr n) = n < 64
IsPrinted (t.Br n) = n < 8
IsPrinted (t.Ar a) = Unit {0}
IsPrinted t.Predicates = Unit {0}
IsPrinted t.RotatingPredicates = Unit {0}
IsPrinted t.Ip = Unit {0}
IsPrinted (t.Number s m) = m < 2 ^ 64
IsPrinted t.Name = Unit {0}
IsPrinted t.Equals = Unit {0}
IsPrinted t.Comma = Unit {0}
IsPrinted t.OpenBracket = Unit {0}
IsPrinted t.CloseBracket = Unit {0}
IsPrinted _ = ⊥

-- The syntax of an operation, step by step.
pub syntax_is : (x : Op) (qp : ℕ) (f : Form) (o : Opcode) (vs ws : List Value) → o ≡ opcode_of x → qp ≡ 0 → vs ≡ values_under qp x
    → f ≡ form_by o (at vs) → ws ≡ written o vs → syntax_by f o ws ≡ syntax_of x
syntax_is x qp f o vs ws e q v g w = rw (w, g, v, q, e) refl
