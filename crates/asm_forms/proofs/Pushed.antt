-- One more completer of a mnemonic.
use Rattle.std.proofs.Common.{◌≡◌, ◌≤◌, ◌<◌, ◌∙◌, sym, ap, ℕ, ◌+◌, List, [], ◌∷◌, ◌++◌, Option, Some, None, option_map, length, drop, refl}
use Rattle.std.specs.List.{find}
use Rattle.std.proofs.lemmas.List.{append_assoc, drop-drop, drop_all, drop_more}
use Rattle.asm_forms.specs.declared.completer.Completer.{Completer}
use Rattle.asm_forms.specs.declared.completer.CompleterSet.{CompleterSet}
use Rattle.asm_forms.specs.Completers.{text_of, members}
use Rattle.asm_forms.specs.Naming.{begins, completers_in}

-- A list that grows at its end.
pushed : (xs : List Completer) (c : Completer) (o : Option (List Completer)) →
    option_map (λ cs. (xs ++ c ∷ []) ++ cs) o ≡ option_map (λ cs. xs ++ cs) (option_map (λ cs. c ∷ cs) o)
pushed xs c None = refl
pushed xs c (Some cs) = ap Some (append_assoc xs (c ∷ []) cs)

-- The completer of the next set is read, and the rest is left.
pub turn : (ss rest : List (CompleterSet × ℕ)) (s : CompleterSet × ℕ) (ms : List Completer) (name left : List ℕ) (at : ℕ)
    (xs ys : List Completer) (c : Completer) (w : List ℕ)
    → ss ≡ s ∷ rest → ms ≡ members s.0 → left ≡ drop at name → Some c ≡ find (λ c. begins left (text_of c)) ms → ys ≡ xs ++ c ∷ []
    → w ≡ text_of c
    → option_map (λ cs. ys ++ cs) (completers_in rest (drop (at + length w) name)) ≡ option_map (λ cs. xs ++ cs)
    (completers_in ss (drop at name))
turn ss rest s ms name left at xs ys c w e these there found grown text =
    let there' : find (λ c. begins (drop at name) (text_of c)) (members s.0) ≡ Some c = rw (sym these, sym there) (sym found) in
    rw (e, there', grown, text, sym (drop-drop (length (text_of c)) at name))
    (pushed xs c (completers_in rest (drop (length (text_of c)) (drop at name))))

-- Where more of the name is left than the sets take, it has no such completers.
pub ended : (sets : List (CompleterSet × ℕ)) (i at : ℕ) (name : List ℕ) (xs : List Completer) (o : Option (List Completer))
    → length sets ≤ i → at < length name
    → option_map (λ cs. xs ++ cs) (completers_in (drop i sets) (drop at name)) ≡ o → None ≡ o
ended sets i at name xs o done more e =
    let none : option_map (λ cs. xs ++ cs) (completers_in (drop i sets) (drop at name)) ≡ None =
    rw (drop_all i sets done, drop_more name at 0 more) refl in
    sym none ∙ e
