-- Where no token is left the items agree on no further one.
use Rattle.std.proofs.Common.{◌≡◌, ◌≤◌, ℕ, List, [], ◌∷◌, length, drop, refl}
use Rattle.asm_lexemes.specs.declared.tokens.Token.{Token}
use Rattle.asm_forms.specs.declared.items.FormItem.{FormItem}
use Rattle.asm_matching.specs.Matching.{agreed_items}
use Rattle.std.proofs.lemmas.List.{drop_all}

pub agreed_nothing : (is : List FormItem) → agreed_items is [] ≡ 0
agreed_nothing [] = refl
agreed_nothing (i ∷ is) = refl

pub agreed_past : (is : List FormItem) (ts : List Token) (at : ℕ) → length ts ≤ at → agreed_items (drop at is) (drop at ts) ≡ 0
agreed_past is ts at h = rw (drop_all at ts h) (agreed_nothing (drop at is))
