-- What a map gives after a key is put in: at the key, and elsewhere.
use Rattle.std.proofs.Common.{◌≡◌, ◌∙◌, false, cond, List, [], ◌∷◌, Some, Ordering, Less, Equal, Greater, refl, sym, ap}
use Rattle.std.specs.Cmp.{IsTotalOrder}
use Rattle.std.specs.Map.{lookup}
use Rattle.std.specs.BTreeMap.{insert_entry, is_at}
use Rattle.std.specs.Ordering.{is_eq, match_ordering}
use Rattle.std.proofs.lemmas.Cmp.{alike_right}

-- At the key.
pub put_here : {K X : Type 0} (R : K → K → Ordering) (es : List (K × X)) (k : K) (v : X) → R k k ≡ Equal
    → lookup (is_at (R k)) (insert_entry R es k v) ≡ Some v
put_here R [] k v same = rw same refl
put_here R (e ∷ es) k v same = by (R k e.0) refl (put_here R es k v same)
  where
    by : (r : Ordering) → R k e.0 ≡ r → lookup (is_at (R k)) (insert_entry R es k v) ≡ Some v
        → lookup (is_at (R k)) (match_ordering r ((k, v) ∷ e ∷ es) ((e.0, v) ∷ es) (e ∷ insert_entry R es k v)) ≡ Some v
    by Less h later = rw same refl
    by Equal h later = rw h refl
    by Greater h later = rw h later

-- At another key.
pub put_elsewhere : {K X : Type 0} (R : K → K → Ordering) → IsTotalOrder R → (es : List (K × X)) (k : K) (v : X) (q : K)
    → is_eq (R q k) ≡ false → lookup (is_at (R q)) (insert_entry R es k v) ≡ lookup (is_at (R q)) es
put_elsewhere R o [] k v q other = rw other refl
put_elsewhere R o (e ∷ es) k v q other = by (R k e.0) refl (put_elsewhere R o es k v q other)
  where
    by : (r : Ordering) → R k e.0 ≡ r → lookup (is_at (R q)) (insert_entry R es k v) ≡ lookup (is_at (R q)) es
        → lookup (is_at (R q)) (match_ordering r ((k, v) ∷ e ∷ es) ((e.0, v) ∷ es) (e ∷ insert_entry R es k v)) ≡ lookup (is_at (R q))
        (e ∷ es)
    by Less h later = rw other refl
    by Equal h later = let no : is_eq (R q e.0) ≡ false = sym (ap is_eq (alike_right o k e.0 q h)) ∙ other in rw no refl
    by Greater h later = ap (λ r. cond (is_eq (R q e.0)) (Some e.1) r) later
