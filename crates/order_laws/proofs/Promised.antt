-- What an entry declares of predicates is true where a run starts.
use Rattle.std.proofs.Common.{◌≡◌, ℕ, zero, suc, ◌<◌, ◌≤◌, Bool, true, false, ◌||◌, ◌==◌, cond, List, [], ◌∷◌, length, take, get_or, ◌⊎◌, inl, inr, refl, sym, ◌∙◌, ap, arith}
use Rattle.std.specs.List.{AllByRecursion as Each, list_any}
use Rattle.std.proofs.lemmas.Bool.Decides.{nat_tests}
use Rattle.std.proofs.lemmas.List.{get_or-take}
use Rattle.ia_program.specs.declared.relations.Relation.{Relation}
use Rattle.ia_program.specs.Programs.{Program, IsProgram, relation_at, relations_at}
use Rattle.ia_meaning.specs.State.{Registers}
use Rattle.ia_meaning.specs.Names.{holds}
use Rattle.ia_meaning.specs.Landings.{are_both_one, breaks_relation}
use Rattle.ia_meaning.proofs.PredicateIndexes.{holds_zero, holds_at_place, low_place}
use Rattle.predicate_rel.specs.Pairs.{Pairs, no_pairs, other_of, is_same_pair, with_pair}
use Rattle.predicate_rel.specs.Truth.{AreNeverBothOne}
use Rattle.flow_facts.specs.Graphs.{with_relations, known_at_entry}
use Rattle.flow_facts.specs.Walks.{known_first}

nothing_apart : (r : Registers) → AreNeverBothOne no_pairs r
unfolding no_pairs
nothing_apart r = record { apart = λ x y m h k. absurd (cc) }

-- The second of a pair is 1 where it is so as the pair is written.
other_holds : (r : Registers) (x y : ℕ) → holds r y ≡ true → holds r (other_of x y) ≡ true
other_holds r x y h = of (x == y)
  where
    of : (b : Bool) → holds r (cond b 0 y) ≡ true
    of true = holds_zero r
    of false = h

-- The second of a pair, as it is written, is 1 where the other one of the pair and the first are.
second_holds : (r : Registers) (x y : ℕ) → holds r x ≡ true → holds r (other_of x y) ≡ true → holds r y ≡ true
second_holds r x y h k = of (x == y) refl k
  where
    of : (b : Bool) → (x == y) ≡ b → holds r (cond b 0 y) ≡ true → holds r y ≡ true
    of true e k = let same : x ≡ y = grind (arith, nat_tests) in ap (holds r) (sym same) ∙ h
    of false e k = k

-- One pair is another: so both predicates of the one are 1 where those of the other are.
same_holds : (r : Registers) (a b x y : ℕ) → is_same_pair a b x y ≡ true → holds r x ≡ true → holds r y ≡ true
    → (holds r a ≡ true) × (holds r b ≡ true)
same_holds r a b x y same h k = of (parts a b x y same)
  where
    parts : (a b x y : ℕ) → is_same_pair a b x y ≡ true → ((x ≡ a) × (y ≡ b)) ⊎ ((x ≡ b) × (y ≡ a))
    parts a b x y same = grind (arith, nat_tests)

    of : ((x ≡ a) × (y ≡ b)) ⊎ ((x ≡ b) × (y ≡ a)) → (holds r a ≡ true) × (holds r b ≡ true)
    of (inl (e, f)) = (ap (holds r) (sym e) ∙ h, ap (holds r) (sym f) ∙ k)
    of (inr (e, f)) = (ap (holds r) (sym f) ∙ k, ap (holds r) (sym e) ∙ h)

-- One pair more, of two predicates that aren't both 1.
pair_apart : (f : Pairs) (r : Registers) (a b : ℕ) → (holds r a ≡ true → holds r b ≡ true → ⊥) → AreNeverBothOne f r
    → AreNeverBothOne (with_pair f a b) r
unfolding with_pair
pair_apart f r a b apart known = record { apart = λ x y m h k. of x y (f x y) refl m h k }
  where
    of : (x y : ℕ) (c : Bool) → f x y ≡ c → (c || is_same_pair a (other_of a b) x (other_of x y)) ≡ true → holds r x ≡ true
        → holds r y ≡ true → ⊥
    of x y true e m h k = known.apart x y e h k
    of x y false e m h k =
        let both = same_holds r a (other_of a b) x (other_of x y) m h (other_holds r x y k) in
        apart both.0 (second_holds r a b both.0 both.1)

-- The relation is one of two of p1 to p15.
record IsOfStatic (relation : Relation) : Type 0 where
  some : 1 ≤ relation.p
  apart : relation.p < relation.q
  static : relation.q ≤ 15

-- The relations of a bundle are of such predicates where all are.
each_static : (bundle : ℕ) (rs : List Relation) → ((n : ℕ) → n < length rs → IsOfStatic (relation_at rs n))
    → Each IsOfStatic (relations_at rs bundle)
each_static bundle [] all = tt
each_static bundle (r ∷ rs) all =
    kept (r.bundle == bundle) (all zero (omega arith)) (each_static bundle rs (λ n inside. all (suc n) (omega arith)))
  where
    kept : (b : Bool) → IsOfStatic r → Each IsOfStatic (relations_at rs bundle)
        → Each IsOfStatic (cond b (r ∷ relations_at rs bundle) (relations_at rs bundle))
    kept true first rest = (first, rest)
    kept false first rest = rest

-- Such a predicate is what stands at its place among the first sixteen.
static_holds : (r : Registers) (p : ℕ) → 1 ≤ p → p ≤ 15 → holds r p ≡ get_or (take 16 r.predicates) p false
static_holds r p some static =
    holds_at_place r p (λ e. absurd (omega arith))
    ∙ ap (λ n. get_or r.predicates n false) (low_place r.frame p (omega arith))
    ∙ sym (get_or-take 16 r.predicates p false (omega arith))

-- Where the first sixteen break no relation the pairs of all are apart.
relations_apart : (f : Pairs) (r : Registers) (rs : List Relation) → Each IsOfStatic rs
    → list_any (are_both_one (take 16 r.predicates)) rs ≡ false → AreNeverBothOne f r → AreNeverBothOne (with_relations f rs) r
relations_apart f r [] static none known = known
relations_apart f r (x ∷ rs) (static, later) none known =
    let p = static_holds r x.p static.some (omega (arith, static.apart, static.static)) in
    let q = static_holds r x.q (omega (arith, static.some, static.apart)) static.static in
    relations_apart (with_pair f x.p x.q) r rs later (grind arith) (pair_apart f r x.p x.q (λ h k. absurd (grind (arith, p, q))) known)

-- The predicates of no pair that an entry declares are both 1 where they break none of its relations, as in a start state.
pub promised_apart : (p : Program) (r : Registers) (bundle : ℕ) → IsProgram p → breaks_relation p (take 16 r.predicates) bundle ≡ false
    → AreNeverBothOne (known_first p bundle) r
unfolding known_at_entry
promised_apart p r bundle program none =
    relations_apart no_pairs r (relations_at p.relations bundle)
    (each_static bundle p.relations (λ n inside. let at = program.relations n inside in
    record { some = at.some; apart = at.apart; static = at.static }))
    none (nothing_apart r)
