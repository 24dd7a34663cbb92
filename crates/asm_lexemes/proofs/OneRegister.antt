-- A name spells a register by its number or by a name of its own, and none does both.
use Rattle.std.proofs.Common.{◌≡◌, ◌∙◌, refl, sym, subst, ap, ℕ, Bool, true, false, ◌&&◌, cond, List, [], ◌∷◌, Option, Some, None}
use Rattle.std.specs.Option.{is_none}
use Rattle.std.specs.Str.{bytes_eq}
use Rattle.std.proofs.lemmas.Slice.Eq.{bytes_eq-Decides}
use Rattle.ia_program.proofs.Tests.{left, right}
use Rattle.asm_lexemes.specs.declared.tokens.Token.{Token}
use Rattle.asm_lexemes.specs.Registers.{look_up, aliases, alias_of, numbered_register, register_of}

-- The entries' names spell none by a number.
abbrev spell_none : List (List ℕ × Token) → Bool
spell_none [] = true
spell_none (e ∷ es) = is_none (numbered_register e.0) && spell_none es

not_numbered : (name : List ℕ) (x : Token) → is_none (numbered_register name) ≡ true → numbered_register name ≡ Some x → ⊥
not_numbered name x none is = let h : false ≡ true = sym (ap is_none is) ∙ none in cc

look_none : (es : List (List ℕ × Token)) (name : List ℕ) (x : Token) → spell_none es ≡ true → numbered_register name ≡ Some x
    → look_up es name ≡ None
look_none [] name x none is = refl
look_none (e ∷ es) name x none is = other (bytes_eq name e.0) refl (look_none es name x (right _ _ none) is)
  where
    other : (b : Bool) → b ≡ bytes_eq name e.0 → look_up es name ≡ None → cond b (Some e.1) (look_up es name) ≡ None
    other true same rest =
        let equal : name ≡ e.0 = (bytes_eq-Decides name e.0).0 (sym same) in
        absurd (not_numbered e.0 x (left _ _ none) (subst (λ n. numbered_register n ≡ Some x) equal is))
    other false same rest = rest

pub by_number : (name : List ℕ) (x : Token) → numbered_register name ≡ Some x → Some x ≡ register_of name
by_number name x is = rw (look_none aliases name x refl is) (sym is)

abbrev or_numbered : Option Token → List ℕ → Option Token
or_numbered (Some register) name = Some register
or_numbered None name = numbered_register name

either : (o : Option Token) (name : List ℕ) → numbered_register name ≡ None → o ≡ or_numbered o name
either (Some register) name none = refl
either None name none = sym none

pub by_own_name : (name : List ℕ) → numbered_register name ≡ None → alias_of name ≡ register_of name
by_own_name name none = either (alias_of name) name none
