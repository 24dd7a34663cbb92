-- Relations in their order, with more of them.
use Rattle.std.proofs.Common.{◌≡◌, ◌∙◌, refl, sym, ap, subst, inl, inr, ◌⊎◌, ℕ, zero, suc, ◌+◌, ◌<◌, ◌≤◌, List, [], ◌∷◌, ◌++◌, length, drop, flat_map, Contains, Ordering, Less, Equal, Greater, arith}
use Rattle.std.specs.Prelude.{slice_index, OnOk, Result, Ok, Err}
use Rattle.std.specs.List.{All, AllByRecursion}
use Rattle.std.specs.BTreeSet.{insert_key}
use Rattle.std.specs.Cmp.{nat_cmp_is}
use Rattle.std.specs.Ordering.{nat_cmp, ordering_then}
use Rattle.std.proofs.lemmas.List.{drop_more}
use Rattle.std.proofs.lemmas.Bool.{cases_order, cases_lt, lt-ltb, le-ltb}
use Rattle.std.proofs.lemmas.List.Elements.{Contains-append_left, Contains-append_right, Contains-append_cases, recursion_from_All}
use Rattle.ia_program.specs.declared.relations.Relation.{Relation}
use Rattle.ia_program.specs.Bundles.{Bundle}
use Rattle.ia_program.specs.Programs.{IsEntryOf, IsRelationBefore, AreRelations, no_relation, relation_at, relation_before}
use Rattle.asm_matching.specs.Related.{IsRelated}
use Rattle.ia_program.specs.declared.limits.TheConstants.{RELATION_LIMIT}
use Rattle.ia_program.proofs.DeclaredRelations.{same_relation}
use Rattle.asm_build.specs.declared.reason.TextError.{TextError}
use Rattle.asm_build.specs.declared.text_parts.RelationLine.{RelationLine}
use Rattle.asm_build.specs.Relations.{relation_cmp, relations_above, relations_among, with_relations, related, IsFit, AreRelationsOf}
use Rattle.asm_build.proofs.Membership.{first_there, later_there, first_or_later, none_there, all_both}
use Rattle.asm_build.proofs.SortedSets.{Ways, IsOrderedBy, Chain, put_there, still_there, was_there, chain_grows}

-- Relations are compared by their numbers.
cmp_of : (r s : Relation) (a b c : Ordering) → a ≡ nat_cmp r.bundle s.bundle → b ≡ nat_cmp r.p s.p → c ≡ nat_cmp r.q s.q
    → relation_cmp r s ≡ ordering_then a (ordering_then b c)
cmp_of r s a b c x y z =
    sym (ap (λ o. ordering_then o (ordering_then b c)) x ∙ ap (λ o. ordering_then (nat_cmp r.bundle s.bundle) (ordering_then o c)) y
    ∙ ap (λ o. ordering_then (nat_cmp r.bundle s.bundle) (ordering_then (nat_cmp r.p s.p) o)) z)

by_bundle : (r s : Relation) (o : Ordering) → o ≡ nat_cmp r.bundle s.bundle
    → relation_cmp r s ≡ ordering_then o (ordering_then (nat_cmp r.p s.p) (nat_cmp r.q s.q))
by_bundle r s o h = cmp_of r s o (nat_cmp r.p s.p) (nat_cmp r.q s.q) h refl refl

by_lower : (r s : Relation) (o : Ordering) → r.bundle ≡ s.bundle → o ≡ nat_cmp r.p s.p
    → relation_cmp r s ≡ ordering_then o (nat_cmp r.q s.q)
by_lower r s o same h = cmp_of r s Equal o (nat_cmp r.q s.q) (nat_cmp_is r.bundle s.bundle Equal same) h refl

by_higher : (r s : Relation) (o : Ordering) → r.bundle ≡ s.bundle → r.p ≡ s.p → o ≡ nat_cmp r.q s.q → relation_cmp r s ≡ o
by_higher r s o same also h = cmp_of r s Equal Equal o (nat_cmp_is r.bundle s.bundle Equal same) (nat_cmp_is r.p s.p Equal also) h

three_ways : (r s : Relation) → Ways relation_cmp IsRelationBefore r s
three_ways r s = elim (cases_order r.bundle s.bundle) [
  | inr (inl less) ↦ inl (by_bundle r s Less (nat_cmp_is r.bundle s.bundle Less less), inl less)
  | inr (inr more) ↦ inr (inr (by_bundle r s Greater (nat_cmp_is r.bundle s.bundle Greater more), inl more))
  | inl same ↦ elim (cases_order r.p s.p) [
    | inr (inl less) ↦ inl (by_lower r s Less same (nat_cmp_is r.p s.p Less less), inr (same, inl less))
    | inr (inr more) ↦ inr (inr (by_lower r s Greater same (nat_cmp_is r.p s.p Greater more), inr (sym same, inl more)))
    | inl also ↦ elim (cases_order r.q s.q) [
      | inr (inl less) ↦ inl (by_higher r s Less same also (nat_cmp_is r.q s.q Less less), inr (same, inr (also, less)))
      | inr (inr more) ↦ inr (inr (by_higher r s Greater same also (nat_cmp_is r.q s.q Greater more), inr (sym same, inr (sym also, more))))
      | inl last ↦ inr (inl (by_higher r s Equal same also (nat_cmp_is r.q s.q Equal last), same_relation r s same also last))
    ]
  ]
]

comes_after : (r s : Relation) → IsRelationBefore s r → relation_cmp r s ≡ Greater
comes_after r s (inl more) = by_bundle r s Greater (nat_cmp_is r.bundle s.bundle Greater more)
comes_after r s (inr (same, inl more)) = by_lower r s Greater (sym same) (nat_cmp_is r.p s.p Greater more)
comes_after r s (inr (same, inr (also, more))) = by_higher r s Greater (sym same) (sym also) (nat_cmp_is r.q s.q Greater more)

pub relations_ordered : IsOrderedBy relation_cmp IsRelationBefore
relations_ordered = record { way = three_ways; after = comes_after }

-- One after another.
pub with_both : (before xs ys : List Relation) → with_relations before (xs ++ ys) ≡ with_relations (with_relations before xs) ys
with_both before [] ys = refl
with_both before (x ∷ xs) ys = with_both (insert_key relation_cmp before x) xs ys

-- Those between one more of these and the ones above it.
pub next_related : (bundle : ℕ) (ps qs : List ℕ) (i p : ℕ) (now next : List Relation) → i < length ps → p ≡ slice_index ps i
    → next ≡ with_relations now (relations_above bundle p qs)
    → with_relations next (flat_map (λ p. relations_above bundle p qs) (drop (i + 1) ps))
    ≡ with_relations now (flat_map (λ p. relations_above bundle p qs) (drop i ps))
next_related bundle ps qs i p now next less is are =
    let front : drop i ps ≡ p ∷ drop (i + 1) ps = drop_more ps i 0 less ∙ ap (λ x. x ∷ drop (i + 1) ps) (sym is) in
    rw (front, are) (sym (with_both now (relations_above bundle p qs) (flat_map (λ p. relations_above bundle p qs) (drop (i + 1) ps))))

-- What relations with more of them contain.
pub kept_with : (before rs : List Relation) (r : Relation) → Contains before r → Contains (with_relations before rs) r
kept_with before [] r h = h
kept_with before (s ∷ rs) r h =
    kept_with (insert_key relation_cmp before s) rs r (still_there relation_cmp IsRelationBefore relations_ordered s r before h)

pub put_with : (before rs : List Relation) (r : Relation) → Contains rs r → Contains (with_relations before rs) r
put_with before [] r h = absurd (none_there r h)
put_with before (s ∷ rs) r h = elim (first_or_later s r rs h) [
  | inl same ↦ kept_with (insert_key relation_cmp before s) rs r
      (subst (Contains (insert_key relation_cmp before s)) same (put_there relation_cmp IsRelationBefore relations_ordered s before))
  | inr later ↦ put_with (insert_key relation_cmp before s) rs r later
]

pub from_with : (before rs : List Relation) (r : Relation) → Contains (with_relations before rs) r → Contains before r ⊎ Contains rs r
from_with before [] r h = inl h
from_with before (s ∷ rs) r h = by (from_with (insert_key relation_cmp before s) rs r h)
  where
    first : (s ≡ r) ⊎ Contains before r → Contains before r ⊎ Contains (s ∷ rs) r
    first (inl same) = inr (subst (Contains (s ∷ rs)) same (first_there s rs))
    first (inr before) = inl before

    by : Contains (insert_key relation_cmp before s) r ⊎ Contains rs r → Contains before r ⊎ Contains (s ∷ rs) r
    by (inl one) = first (was_there relation_cmp IsRelationBefore relations_ordered s r before one)
    by (inr later) = inr (later_there s r rs later)

-- A relation of the bundle, between these two.
pub record IsPair (n p : ℕ) (qs : List ℕ) (r : Relation) : Type 0 where
  pub bundle : r.bundle ≡ n
  pub lower : r.p ≡ p
  pub higher : Contains qs r.q
  pub apart : r.p < r.q

pair_further : (bundle p q : ℕ) (qs : List ℕ) (r : Relation) → IsPair bundle p qs r → IsPair bundle p (q ∷ qs) r
pair_further bundle p q qs r h = record { bundle = h.bundle; lower = h.lower; higher = later_there q r.q qs h.higher; apart = h.apart }

pub above_is : (bundle p : ℕ) (qs : List ℕ) (r : Relation) → Contains (relations_above bundle p qs) r → IsPair bundle p qs r
above_is bundle p [] r h = absurd (none_there r h)
above_is bundle p (q ∷ qs) r h = elim (cases_lt p q) [
  | inr most ↦ pair_further bundle p q qs r (above_is bundle p qs r (rw (le-ltb p q most) at h))
  | inl less ↦ elim (first_or_later (record { bundle = bundle; p = p; q = q }) r (relations_above bundle p qs) (rw (lt-ltb p q less) at h)) [
    | inl same ↦ subst (IsPair bundle p (q ∷ qs)) same (record { bundle = refl; lower = refl; higher = first_there q qs; apart = less })
    | inr later ↦ pair_further bundle p q qs r (above_is bundle p qs r later)
  ]
]

pub is_above : (bundle p : ℕ) (qs : List ℕ) (r : Relation) → IsPair bundle p qs r → Contains (relations_above bundle p qs) r
is_above bundle p [] r h = absurd (none_there r.q h.higher)
is_above bundle p (q ∷ qs) r h =
    by (first_or_later q r.q qs h.higher) (λ among. is_above bundle p qs r
    (record { bundle = h.bundle; lower = h.lower; higher = among; apart = h.apart }))
  where
    later : Contains (relations_above bundle p qs) r → Contains (relations_above bundle p (q ∷ qs)) r
    later has = elim (cases_lt p q) [
      | inl less ↦ rw (lt-ltb p q less) (later_there (record { bundle = bundle; p = p; q = q }) r (relations_above bundle p qs) has)
      | inr most ↦ rw (le-ltb p q most) has
    ]

    by : (q ≡ r.q) ⊎ Contains qs r.q → (Contains qs r.q → Contains (relations_above bundle p qs) r)
        → Contains (relations_above bundle p (q ∷ qs)) r
    by (inl same) further =
        let less : p < q = omega (arith, h.apart, h.lower, same) in
        let is : record { bundle = bundle; p = p; q = q } ≡ r = same_relation _ r (sym h.bundle) (sym h.lower) same in
        rw (lt-ltb p q less) (subst (Contains (record { bundle = bundle; p = p; q = q } ∷ relations_above bundle p qs)) is
        (first_there (record { bundle = bundle; p = p; q = q }) (relations_above bundle p qs)))
    by (inr among) further = later (further among)

-- A relation of the bundle, between one of these and a higher one of those.
pub record IsBetween (n : ℕ) (ps qs : List ℕ) (r : Relation) : Type 0 where
  pub bundle : r.bundle ≡ n
  pub lower : Contains ps r.p
  pub higher : Contains qs r.q
  pub apart : r.p < r.q

pub between_is : (bundle : ℕ) (ps qs : List ℕ) (r : Relation) → Contains (flat_map (λ p. relations_above bundle p qs) ps) r
    → IsBetween bundle ps qs r
between_is bundle [] qs r h = absurd (none_there r h)
between_is bundle (p ∷ ps) qs r h =
    elim (Contains-append_cases (relations_above bundle p qs) (flat_map (λ p. relations_above bundle p qs) ps) r h) [
      | inl one ↦
          let is = above_is bundle p qs r one in
          record {
            bundle = is.bundle;
            lower = subst (Contains (p ∷ ps)) (sym is.lower) (first_there p ps);
            higher = is.higher;
            apart = is.apart;
          }
      | inr more ↦
          let is = between_is bundle ps qs r more in
          record { bundle = is.bundle; lower = later_there p r.p ps is.lower; higher = is.higher; apart = is.apart }
    ]

pub is_between : (bundle : ℕ) (ps qs : List ℕ) (r : Relation) → IsBetween bundle ps qs r
    → Contains (flat_map (λ p. relations_above bundle p qs) ps) r
is_between bundle [] qs r h = absurd (none_there r.p h.lower)
is_between bundle (p ∷ ps) qs r h = elim (first_or_later p r.p ps h.lower) [
  | inl same ↦
      Contains-append_left (relations_above bundle p qs) (flat_map (λ p. relations_above bundle p qs) ps) r
      (is_above bundle p qs r (record { bundle = h.bundle; lower = sym same; higher = h.higher; apart = h.apart }))
  | inr among ↦
      Contains-append_right (relations_above bundle p qs) (flat_map (λ p. relations_above bundle p qs) ps) r
      (is_between bundle ps qs r (record { bundle = h.bundle; lower = among; higher = h.higher; apart = h.apart }))
]

-- Of each two predicates.
fit_above : (IsEntry : ℕ → Type 0) (bundle p : ℕ) (qs : List ℕ) → IsEntry bundle → IsRelated p → AllByRecursion IsRelated qs
    → AllByRecursion (IsFit IsEntry) (relations_above bundle p qs)
fit_above IsEntry bundle p [] entry is all = tt
fit_above IsEntry bundle p (q ∷ qs) entry is all = elim (cases_lt p q) [
  | inl less ↦ rw (lt-ltb p q less) (
    record { entry = entry; some = is.0; apart = less; static = all.0.1 },
    fit_above IsEntry bundle p qs entry is all.1,
  )
  | inr most ↦ rw (le-ltb p q most) (fit_above IsEntry bundle p qs entry is all.1)
]

fit_between : (IsEntry : ℕ → Type 0) (bundle : ℕ) (ps qs : List ℕ) → IsEntry bundle → AllByRecursion IsRelated ps
    → AllByRecursion IsRelated qs
    → AllByRecursion (IsFit IsEntry) (flat_map (λ p. relations_above bundle p qs) ps)
fit_between IsEntry bundle [] qs entry one all = tt
fit_between IsEntry bundle (p ∷ ps) qs entry one all =
    all_both (IsFit IsEntry) (relations_above bundle p qs) (flat_map (λ p. relations_above bundle p qs) ps)
    (fit_above IsEntry bundle p qs entry one.0 all) (fit_between IsEntry bundle ps qs entry one.1 all)

-- Relations rise from one on, and each is one that a program may declare.
abbrev pub AreFitFrom : (ℕ → Type 0) → Relation → List Relation → Type 0
AreFitFrom IsEntry low rs = Chain IsRelationBefore (IsFit IsEntry) low rs

above_none : (IsEntry : ℕ → Type 0) (r : Relation) → IsFit IsEntry r → IsRelationBefore no_relation r
above_none IsEntry r h = elim (cases_order 0 r.bundle) [
  | inl same ↦ inr (same, inl (omega (arith, h.some)))
  | inr (inl more) ↦ inl more
  | inr (inr less) ↦ absurd (omega (arith, less))
]

fit_with : (IsEntry : ℕ → Type 0) (before rs : List Relation) → AllByRecursion (IsFit IsEntry) rs → AreFitFrom IsEntry no_relation before
    → AreFitFrom IsEntry no_relation (with_relations before rs)
fit_with IsEntry before [] all h = h
fit_with IsEntry before (r ∷ rs) all h =
    fit_with IsEntry (insert_key relation_cmp before r) rs all.1
    (chain_grows relation_cmp IsRelationBefore (IsFit IsEntry) relations_ordered no_relation r before (above_none IsEntry r all.0) all.0 h)

-- The same by numbers.
before_from : Relation → List Relation → ℕ → Relation
before_from low rs zero = low
before_from low rs (suc n) = relation_at rs n

-- Each relation by its number: it rises, and is one that may be declared.
abbrev IsFitAt : (ℕ → Type 0) → Relation → List Relation → ℕ → Type 0
IsFitAt IsEntry low rs n = IsRelationBefore (before_from low rs n) (relation_at rs n) × IsFit IsEntry (relation_at rs n)

fit_from : (IsEntry : ℕ → Type 0) (low : Relation) (rs : List Relation) → ((n : ℕ) → n < length rs → IsFitAt IsEntry low rs n)
    → AreFitFrom IsEntry low rs
unfolding before_from
fit_from IsEntry low [] h = tt
fit_from IsEntry low (r ∷ rs) h =
    let here : IsFitAt IsEntry low (r ∷ rs) 0 = h 0 (omega arith) in
    (here.0, here.1, fit_from IsEntry r rs (λ n less. after n (h (suc n) (omega (arith, less)))))
  where
    after : (n : ℕ) → IsFitAt IsEntry low (r ∷ rs) (suc n) → IsFitAt IsEntry r rs n
    after zero h = h
    after (suc n) h = h

chain_at : (Good : Relation → Type 0) (low : Relation) (rs : List Relation) → Chain IsRelationBefore Good low rs → (n : ℕ) → n < length rs
    → IsRelationBefore (before_from low rs n) (relation_at rs n) × Good (relation_at rs n)
unfolding before_from
chain_at Good low [] h n less = absurd (omega (arith, less))
chain_at Good low (r ∷ rs) h zero less = (h.0, h.1)
chain_at Good low (r ∷ rs) h (suc zero) less = chain_at Good r rs h.2 0 (omega (arith, less))
chain_at Good low (r ∷ rs) h (suc (suc n)) less = chain_at Good r rs h.2 (suc n) (omega (arith, less))

-- Each comes after the one before it.
pub chain_rises : (Good : Relation → Type 0) (rs : List Relation) → Chain IsRelationBefore Good no_relation rs → (n : ℕ) → n < length rs
    → IsRelationBefore (relation_before rs n) (relation_at rs n)
unfolding before_from
chain_rises Good rs h zero less = (chain_at Good no_relation rs h 0 less).0
chain_rises Good rs h (suc n) less = (chain_at Good no_relation rs h (suc n) less).0

pub fit_of_all : (IsEntry : ℕ → Type 0) (rs : List Relation) → AreRelationsOf IsEntry rs → AreFitFrom IsEntry no_relation rs
unfolding before_from
fit_of_all IsEntry rs h = fit_from IsEntry no_relation rs (λ n less. at n (h n less))
  where
    at : (n : ℕ) → IsRelationBefore (relation_before rs n) (relation_at rs n) × IsFit IsEntry (relation_at rs n)
        → IsFitAt IsEntry no_relation rs n
    at zero is = is
    at (suc n) is = is

pub all_of_fit : (IsEntry : ℕ → Type 0) (rs : List Relation) → AreFitFrom IsEntry no_relation rs → AreRelationsOf IsEntry rs
all_of_fit IsEntry rs h n less = (chain_rises (IsFit IsEntry) rs h n less, (chain_at (IsFit IsEntry) no_relation rs h n less).1)

-- Those of a program.
pub all_of_relations : (bundles : List Bundle) (entries : List ℕ) (rs : List Relation) → AreRelations bundles entries rs
    → AreRelationsOf (IsEntryOf bundles entries) rs
all_of_relations bundles entries rs h n less =
    let is = h n less in
    (is.rises, record { entry = is.entry; some = is.some; apart = is.apart; static = is.static })

pub relations_of_all : (bundles : List Bundle) (entries : List ℕ) (rs : List Relation) → AreRelationsOf (IsEntryOf bundles entries) rs
    → AreRelations bundles entries rs
relations_of_all bundles entries rs h n less =
    let is = h n less in
    record { rises = is.0; entry = is.1.entry; some = is.1.some; apart = is.1.apart; static = is.1.static }

pub fit_of_relations : (bundles : List Bundle) (entries : List ℕ) (rs : List Relation) → AreRelations bundles entries rs
    → AreFitFrom (IsEntryOf bundles entries) no_relation rs
fit_of_relations bundles entries rs h = fit_of_all (IsEntryOf bundles entries) rs (all_of_relations bundles entries rs h)

-- Relations of entries stay so with those of an entry between each two of predicates that a line may have.
pub related_stay : (IsEntry : ℕ → Type 0) (before after : List Relation) (bundle : ℕ) (ps : List ℕ) → IsEntry bundle → All IsRelated ps
    → after ≡ with_relations before (relations_among bundle ps)
    → AreRelationsOf IsEntry before → AreRelationsOf IsEntry after
related_stay IsEntry before after bundle ps entry all is h =
    let each = recursion_from_All IsRelated ps all in
    let fit = fit_between IsEntry bundle ps ps entry each each in
    let good =
    all_of_fit IsEntry (with_relations before (relations_among bundle ps))
    (fit_with IsEntry before (relations_among bundle ps) fit (fit_of_all IsEntry before h)) in
    subst (AreRelationsOf IsEntry) (sym is) good

-- Relations of entries stay so with those that a line of an entry declares.
pub line_stays : (IsEntry : ℕ → Type 0) (before after : List Relation) (l : RelationLine) (r : Result (Unit {0}) TextError)
    → IsEntry l.bundle → All IsRelated l.predicates
    → OnOk r ((length (related before l) ≤ RELATION_LIMIT) × (after ≡ related before l))
    → OnOk r (AreRelationsOf IsEntry before → AreRelationsOf IsEntry after)
line_stays IsEntry before after l (Ok u) entry all h = related_stay IsEntry before after l.bundle l.predicates entry all h.1
line_stays IsEntry before after l (Err e) entry all h = tt
