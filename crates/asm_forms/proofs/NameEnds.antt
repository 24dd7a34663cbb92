-- A name that has another byte than a text at a position of both doesn't begin with the text.
use Rattle.std.proofs.Common.{◌≡◌, ◌<◌, refl, sym, ℕ, zero, suc, true, false, not, nat_eq, List, [], ◌∷◌, length, get_or, arith}
use Rattle.std.specs.List.{starts_with}
use Rattle.std.proofs.lemmas.Bool.{eqb-true, eq-eqb, false_from_ne_true, and_right}

differ : (c d : ℕ) → not (nat_eq c d) ≡ true → nat_eq d c ≡ false
differ c d h = false_from_ne_true (nat_eq d c) (λ e. let same : nat_eq c d ≡ true = eq-eqb c d (sym (eqb-true d c e)) in cc)

pub differ_at : (name text : List ℕ) (k : ℕ) → k < length text → k < length name → not (nat_eq (get_or name k 0) (get_or text k 0)) ≡ true
    → starts_with nat_eq name text ≡ false
differ_at name [] k here there other = absurd (omega (arith, here))
differ_at [] (t ∷ ts) k here there other = refl
differ_at (c ∷ name) (t ∷ ts) zero here there other = rw (differ c t other) refl
differ_at (c ∷ name) (t ∷ ts) (suc k) here there other =
    and_right (nat_eq t c) _ (differ_at name ts k (omega (arith, here)) (omega (arith, there)) other)
