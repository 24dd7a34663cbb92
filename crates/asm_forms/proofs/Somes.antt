-- One more completer of a name.
use Rattle.std.proofs.Common.{◌≡◌, refl, ◌∙◌, ap, ℕ, ◌≤◌, Bool, List, [], ◌∷◌, length, drop, get_or, Option, Some, None, option_map, is_some, arith}
use Rattle.std.specs.List.{find}
use Rattle.asm_forms.specs.declared.completer.Completer.{Completer}
use Rattle.asm_forms.specs.declared.completer.CompleterSet.{CompleterSet}
use Rattle.asm_forms.specs.Completers.{text_of, members}
use Rattle.asm_forms.specs.Naming.{begins, and_more, completers_in}

still_some : (c : Completer) (o : Option (List Completer)) → is_some o ≡ is_some (option_map (λ cs. c ∷ cs) o)
still_some c None = refl
still_some c (Some cs) = refl

-- The name has a completer of each set where one of the first is found and the rest has those of the others.
pub one_more : (sets : List (CompleterSet × ℕ)) (d : CompleterSet × ℕ) (name : List ℕ) (ms : List Completer) (c : Completer) (w : List ℕ)
    (r : Bool) (others : List (CompleterSet × ℕ)) (rest : List ℕ) → 1 ≤ length sets → ms ≡ members (get_or sets 0 d).0
    → Some c ≡ find (λ y. begins name (text_of y)) ms → w ≡ text_of c → others ≡ drop 1 sets → rest ≡ drop (length w) name
    → r ≡ is_some (completers_in others rest) → r ≡ is_some (completers_in sets name)
one_more [] d name ms c w r others rest l e f t o n h = absurd (omega (arith, l))
one_more (s ∷ ss) d name ms c w r others rest l e f t o n h =
    let more : Completer → Option (List Completer) = λ x. completers_in ss (drop (length (text_of x)) name) in
    h ∙ ap (λ v. is_some (completers_in v rest)) o ∙ ap (λ v. is_some (completers_in ss v)) n
    ∙ ap (λ v. is_some (completers_in ss (drop (length v) name))) t
    ∙ still_some c (more c) ∙ ap (λ x. is_some (and_more x more)) (f ∙ ap (λ m. find (λ y. begins name (text_of y)) m) e)
