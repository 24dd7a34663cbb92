-- Operands of nothing, and opcodes that name no application register.
use Rattle.std.proofs.Common.{◌≡◌, ◌∙◌, length, arith, refl, sym, ap, ℕ, Bool, true, false, List, [], ◌∷◌}
use Rattle.asm_lexemes.specs.declared.tokens.Token.{Token}
use Rattle.asm_lexemes.specs.declared.tokens.Token.TheVariants as t
use Rattle.asm_forms.specs.declared.items.FormItem.{FormItem}
use Rattle.asm_forms.specs.declared.items.Kind.{Kind}
use Rattle.asm_forms.specs.Items.{operands, taken}
use Rattle.insn_rows.specs.declared.opcode.Opcode.{Opcode}
use Rattle.insn_rows.specs.declared.opcode.Opcode.TheVariants as o
use Rattle.insn_rows.specs.declared.value.Value.{Value}
use Rattle.asm_instructions.specs.Instructions.{moving, moving_by, with_operands}

of_nothing : (os : List (Kind × ℕ)) (vs : List Value) → with_operands os [] vs ≡ vs
of_nothing [] vs = refl
of_nothing (x ∷ xs) vs = refl

pub of_no_tokens : (items : List FormItem) (ts : List Token) (vs : List Value) → length ts ≡ 0
    → vs ≡ with_operands (operands items) (taken items ts) vs
of_no_tokens [] ts vs e = refl
of_no_tokens (i ∷ is) [] vs e = sym (of_nothing (operands (i ∷ is)) vs)
of_no_tokens (i ∷ is) (x ∷ ts) vs e = absurd (omega (arith, e))

abbrev pub names_register : Opcode → Bool
names_register (o.MovToAr a) = true
names_register (o.MovToArImm a) = true
names_register (o.MovFromAr a) = true
names_register x = false

stays : (token : Token) (x : Opcode) → names_register x ≡ false → moving token x ≡ x
stays (t.Ar b) (o.MovToAr a) h = cc
stays (t.Ar b) (o.MovToArImm a) h = cc
stays (t.Ar b) (o.MovFromAr a) h = cc
stays token x h = refl

pub others_stay : (ts : List Token) (x : Opcode) → names_register x ≡ false → moving_by ts x ≡ x
others_stay [] x h = refl
others_stay (token ∷ ts) x h = ap (moving_by ts) (stays token x h) ∙ others_stay ts x h
