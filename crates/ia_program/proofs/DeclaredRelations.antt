-- The relations of a bundle stand side by side.
use Rattle.std.proofs.Common.{◌≡◌, ℕ, zero, suc, ◌+◌, ◌-◌, ◌<◌, ◌≤◌, ◌==◌, Bool, true, false, List, [], ◌∷◌, length, get_or, take, drop, filter, ap, subst, arith, inl, inr, add-one}
use Rattle.std.proofs.Math.Seq.{take-nil}
use Rattle.std.proofs.lemmas.List.{drop_all, get_or_default}
use Rattle.std.proofs.lemmas.Bool.{cases_lt}
use Rattle.std.specs.List.Sorted.{IsNonDecreasingBy}
use Rattle.std.proofs.lemmas.List.Sorted.{IsNonDecreasingBy-from_all_adjacent}
use Rattle.ia_program.specs.declared.relations.Relation.{Relation}
use Rattle.ia_program.specs.Bundles.{Bundle}
use Rattle.ia_program.specs.Programs.{relations_at, relation_at, no_relation, IsCountBelow, IsRelationBefore, IsRelationAt, AreRelations}

-- Relations are the same where their bundles and their predicates are.
pub same_relation : (r s : Relation) → r.bundle ≡ s.bundle → r.p ≡ s.p → r.q ≡ s.q → r ≡ s
same_relation r s bundle p q = λ i. record { bundle = bundle i; p = p i; q = q i }

-- A test passes exactly what stands from s on and before e.
record PassesFrom {X : Type 0} (p : X → Bool) (xs : List X) (s e : ℕ) (d : X) : Type 0 where
  before : (k : ℕ) → k < s → k < length xs → p (get_or xs k d) ≡ false
  within : (k : ℕ) → s ≤ k → k < e → k < length xs → p (get_or xs k d) ≡ true
  after : (k : ℕ) → e ≤ k → k < length xs → p (get_or xs k d) ≡ false

-- A filter by such a test gives what stands there.
segment : {X : Type 0} (p : X → Bool) (d : X) (xs : List X) (s e : ℕ) → s ≤ e → PassesFrom p xs s e d
    → take (e - s) (drop s xs) ≡ filter p xs
segment {X = X} p d [] s e le h = rw (drop_all {X = X} s [] (omega arith)) (take-nil (e - s))
segment p d (x ∷ xs) zero zero le h =
    rw (h.after zero (omega arith) (omega arith)) (segment p d xs zero zero le (record {
      before = λ k below inside. absurd (omega arith);
      within = λ k from to inside. absurd (omega arith);
      after = λ k from inside. h.after (suc k) (omega arith) (omega arith);
    }))
segment p d (x ∷ xs) zero (suc e) le h =
    let count : suc e - 0 ≡ suc (e - 0) = omega arith in
    rw (count, h.within zero (omega arith) (omega arith) (omega arith))
    (ap (λ rest. x ∷ rest) (segment p d xs zero e (omega arith) (record {
      before = λ k below inside. absurd (omega arith);
      within = λ k from to inside. h.within (suc k) (omega arith) (omega arith) (omega arith);
      after = λ k from inside. h.after (suc k) (omega arith) (omega arith);
    })))
segment p d (x ∷ xs) (suc s) zero le h = absurd (omega arith)
segment p d (x ∷ xs) (suc s) (suc e) le h =
    let count : suc e - suc s ≡ e - s = omega arith in
    rw (count, h.before zero (omega arith) (omega arith)) (segment p d xs s e (omega arith) (record {
      before = λ k below inside. h.before (suc k) (omega arith) (omega arith);
      within = λ k from to inside. h.within (suc k) (omega arith) (omega arith) (omega arith);
      after = λ k from inside. h.after (suc k) (omega arith) (omega arith);
    }))

pub starts_first : (relations : List Relation) (bundle start end : ℕ) → IsCountBelow relations bundle start
    → IsCountBelow relations (bundle + 1) end → start ≤ end
starts_first relations bundle start end a b = elim (cases_lt end start) [
  | inl more ↦ let low = a.below end more in let high = b.others end (omega arith) (omega (arith, a.bound)) in absurd (omega arith)
  | inr most ↦ most
]

pub found_between : (relations : List Relation) (bundle start end : ℕ) → IsCountBelow relations bundle start
    → IsCountBelow relations (bundle + 1) end → take (end - start) (drop start relations) ≡ relations_at relations bundle
found_between relations bundle start end a b =
    segment (λ r. r.bundle == bundle) no_relation relations start end (starts_first relations bundle start end a b) (record {
      before = λ k below inside. let low = a.below k below in grind arith;
      within = λ k from to inside. let low = a.others k from inside in let high = b.below k to in grind arith;
      after = λ k from inside. let high = b.others k from inside in grind arith;
    })

-- The bundles of these relations don't fall.
abbrev pub IsInOrder : List Relation → Type 0
IsInOrder relations = IsNonDecreasingBy (λ r. r.bundle) relations

pub rises_or_stays : (r s : Relation) → IsRelationBefore r s → r.bundle ≤ s.bundle
rises_or_stays r s (inl below) = omega arith
rises_or_stays r s (inr (same, p)) = omega arith

pub in_order : (bundles : List Bundle) (entries : List ℕ) (relations : List Relation) → AreRelations bundles entries relations
    → IsInOrder relations
in_order bundles entries relations are = IsNonDecreasingBy-from_all_adjacent (λ r. r.bundle) relations
    (λ k d inside.
    let at : IsRelationAt bundles entries relations (suc k) =
    subst (IsRelationAt bundles entries relations) (add-one k) (are (k + 1) inside) in
    rw (get_or_default relations k d no_relation (omega arith), get_or_default relations (k + 1) d no_relation inside, add-one k)
    (rises_or_stays (relation_at relations k) (relation_at relations (suc k)) at.rises))
