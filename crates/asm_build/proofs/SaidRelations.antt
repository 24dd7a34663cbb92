-- The relations of a text are those between each two predicates of its lines that declare them.
use Rattle.std.proofs.Common.{◌≡◌, ◌∙◌, refl, sym, ap, subst, inl, inr, ◌⊎◌, ℕ, ◌+◌, ◌<◌, List, [], ◌∷◌, ◌++◌, length, flat_map, Contains, Option, Some, None, arith}
use Rattle.std.specs.List.{AllByRecursion}
use Rattle.std.specs.BTreeSet.{insert_key}
use Rattle.std.proofs.lemmas.Bool.{cases_order, cases_lt, lt-ltb, le-ltb}
use Rattle.std.proofs.lemmas.List.Elements.{Contains-append_left, Contains-append_right, Contains-append_cases}
use Rattle.first_fault.specs.Stages.{ArePassed}
use Rattle.ia_program.specs.declared.relations.Relation.{Relation}
use Rattle.ia_program.specs.Programs.{IsRelationBefore, no_relation}
use Rattle.asm_reading.specs.declared.line.Line.{Line}
use Rattle.asm_reading.specs.declared.line.Line.TheVariants as line
use Rattle.asm_build.specs.declared.draft.BundleLines.{BundleLines}
use Rattle.asm_build.specs.declared.text_parts.RelationLine.{RelationLine}
use Rattle.asm_build.specs.Relations.{relation_cmp, relations_above, relations_among, with_relations, related, all_related}
use Rattle.asm_build.specs.TextParts.{TextParts, start, after, value_stages, closed_of, with_bundle}
use Rattle.asm_build.specs.WholeTexts.{bundles_in, IsRelationSaid, RelationsRise}
use Rattle.asm_build.proofs.Membership.{first_there, later_there, first_or_later, none_there, all_both}
use Rattle.asm_build.proofs.RelationSets.{kept_with, put_with, from_with, between_is, is_between, relations_ordered, chain_rises}
use Rattle.asm_build.proofs.SortedSets.{Chain, chain_grows}
use Rattle.asm_build.proofs.SaidLabels.{begun, one_begun, none_open}
use Rattle.asm_build.proofs.SaidLines.{Follow}

-- One of these lines declares relations of the n-th bundle, between these predicates.
pub record IsAmong (ls : List RelationLine) (n : ℕ) (ps : List ℕ) : Type 0 where
  pub declaring : RelationLine
  pub among : Contains ls declaring
  pub bundle : declaring.bundle ≡ n
  pub predicates : declaring.predicates ≡ ps

-- One of the text's lines after these declares relations of the n-th bundle, between these predicates.
pub record IsOn (s : TextParts) (values : List Line) (n : ℕ) (ps : List ℕ) : Type 0 where
  pub before : List Line
  pub after : List Line
  pub stands : values ≡ before ++ line.Relation ps ∷ after
  pub bundle : n ≡ begun s + length (bundles_in before)

closed_relations : (s : TextParts) (o : Option BundleLines) → (with_bundle s o).relations ≡ s.relations
closed_relations s None = refl
closed_relations s (Some b) = refl

moved : (ls ms : List RelationLine) (n : ℕ) (ps : List ℕ) → ls ≡ ms → IsAmong ls n ps → IsAmong ms n ps
moved ls ms n ps same h = subst (λ ks. IsAmong ks n ps) same h

-- A line stays.
one_kept : (s : TextParts) (k : ℕ) (v : Line) (n : ℕ) (ps : List ℕ) → IsAmong s.relations n ps → IsAmong (after s k v).relations n ps
one_kept s k (line.Relation qs) n ps h =
    record {
      declaring = h.declaring;
      among = Contains-append_left s.relations _ h.declaring h.among;
      bundle = h.bundle;
      predicates = h.predicates;
    }
one_kept s k line.Close n ps h =
    moved s.relations (with_bundle s (closed_of s.current)).relations n ps (sym (closed_relations s (closed_of s.current))) h
one_kept s k v n ps h = h

all_kept : (s : TextParts) (k : ℕ) (values : List Line) (t : TextParts) (n : ℕ) (ps : List ℕ) → Follow s k values t
    → IsAmong s.relations n ps → IsAmong t.relations n ps
all_kept s k [] t n ps h is = moved s.relations t.relations n ps (sym (ap (λ (u : TextParts). u.relations) h)) is
all_kept s k (v ∷ vs) t n ps h is = all_kept (after s k v) (k + 1) vs t n ps h.1 (one_kept s k v n ps is)

here_begun : (s : TextParts) → s.current ≡ None → length s.bundles ≡ begun s
here_begun s none = omega (arith, none_open s.current none)

-- A line of the text is found.
found_after : (s : TextParts) (k : ℕ) (before after_ : List Line) (t : TextParts) (ps : List ℕ)
    → Follow s k (before ++ line.Relation ps ∷ after_) t → IsAmong t.relations (begun s + length (bundles_in before)) ps
found_after s k [] after_ t ps h =
    let l : RelationLine = record { line = k; bundle = length s.bundles; predicates = ps } in
    let bundle : length s.bundles ≡ begun s + 0 = omega (arith, here_begun s h.0.0.closed) in
    all_kept (after s k (line.Relation ps)) (k + 1) after_ t (begun s + 0) ps h.1
    (record {
      declaring = l;
      among = Contains-append_right s.relations (l ∷ []) l (first_there l []);
      bundle = bundle;
      predicates = refl;
    })
found_after s k (v ∷ before) after_ t ps h =
    subst (λ n. IsAmong t.relations n ps) (sym (one_begun s k v before h.0)) (found_after (after s k v) (k + 1) before after_ t ps h.1)

-- What is found is there before or on a line.
one_on : (s : TextParts) (k : ℕ) (v : Line) (vs : List Line) (n : ℕ) (ps : List ℕ) → ArePassed (value_stages s v)
    → IsAmong (after s k v).relations n ps → IsAmong s.relations n ps ⊎ IsOn s (v ∷ vs) n ps
one_on s k (line.Relation qs) vs n ps passed h =
    by (Contains-append_cases s.relations (record { line = k; bundle = length s.bundles; predicates = qs } ∷ []) h.declaring h.among)
  where
    last : (record { line = k; bundle = length s.bundles; predicates = qs } ≡ h.declaring) ⊎ Contains [] h.declaring
        → IsAmong s.relations n ps ⊎ IsOn s (line.Relation qs ∷ vs) n ps
    last (inl same) =
        let bundle : length s.bundles ≡ n = ap (λ (l : RelationLine). l.bundle) same ∙ h.bundle in
        let predicates : qs ≡ ps = ap (λ (l : RelationLine). l.predicates) same ∙ h.predicates in
        inr (record {
          before = [];
          after = vs;
          stands = ap (λ xs. line.Relation xs ∷ vs) predicates;
          bundle = omega (arith, bundle, here_begun s passed.0.closed);
        })
    last (inr never) = absurd (none_there h.declaring never)

    by : Contains s.relations h.declaring ⊎ Contains (record { line = k; bundle = length s.bundles; predicates = qs } ∷ []) h.declaring
        → IsAmong s.relations n ps ⊎ IsOn s (line.Relation qs ∷ vs) n ps
    by (inl old) = inl (record { declaring = h.declaring; among = old; bundle = h.bundle; predicates = h.predicates })
    by (inr new) = last (first_or_later _ h.declaring [] new)
one_on s k line.Close vs n ps passed h =
    inl (moved (with_bundle s (closed_of s.current)).relations s.relations n ps (closed_relations s (closed_of s.current)) h)
one_on s k v vs n ps passed h = inl h

all_on : (s : TextParts) (k : ℕ) (values : List Line) (t : TextParts) (n : ℕ) (ps : List ℕ) → Follow s k values t → IsAmong t.relations n ps
    → IsAmong s.relations n ps ⊎ IsOn s values n ps
all_on s k [] t n ps h is = inl (moved t.relations s.relations n ps (ap (λ (u : TextParts). u.relations) h) is)
all_on s k (v ∷ vs) t n ps h is = by (all_on (after s k v) (k + 1) vs t n ps h.1 is)
  where
    by : IsAmong (after s k v).relations n ps ⊎ IsOn (after s k v) vs n ps → IsAmong s.relations n ps ⊎ IsOn s (v ∷ vs) n ps
    by (inl before) = one_on s k v vs n ps h.0 before
    by (inr on) =
        inr (record {
          before = v ∷ on.before;
          after = on.after;
          stands = ap (λ xs. v ∷ xs) on.stands;
          bundle = on.bundle ∙ sym (one_begun s k v on.before h.0);
        })

-- What lines declare.
kept_on : (before : List Relation) (ls : List RelationLine) (r : Relation) → Contains before r → Contains (all_related before ls) r
kept_on before [] r h = h
kept_on before (l ∷ ls) r h = kept_on (related before l) ls r (kept_with before (relations_among l.bundle l.predicates) r h)

put_on : (before : List Relation) (ls : List RelationLine) (r : Relation) (l : RelationLine) → Contains ls l
    → Contains (relations_among l.bundle l.predicates) r → Contains (all_related before ls) r
put_on before [] r l among h = absurd (none_there l among)
put_on before (m ∷ ls) r l among h = elim (first_or_later m l ls among) [
  | inl same ↦ kept_on (related before m) ls r (put_with before (relations_among m.bundle m.predicates) r
      (subst (λ (x : RelationLine). Contains (relations_among x.bundle x.predicates) r) (sym same) h))
  | inr later ↦ put_on (related before m) ls r l later h
]

-- A relation of one of these lines.
pub record IsOf (ls : List RelationLine) (r : Relation) : Type 0 where
  pub declaring : RelationLine
  pub among : Contains ls declaring
  pub has : Contains (relations_among declaring.bundle declaring.predicates) r

from_on : (before : List Relation) (ls : List RelationLine) (r : Relation) → Contains (all_related before ls) r
    → Contains before r ⊎ IsOf ls r
from_on before [] r h = inl h
from_on before (l ∷ ls) r h = by (from_on (related before l) ls r h)
  where
    first : Contains before r ⊎ Contains (relations_among l.bundle l.predicates) r → Contains before r ⊎ IsOf (l ∷ ls) r
    first (inl old) = inl old
    first (inr new) = inr (record { declaring = l; among = first_there l ls; has = new })

    by : Contains (related before l) r ⊎ IsOf ls r → Contains before r ⊎ IsOf (l ∷ ls) r
    by (inl one) = first (from_with before (relations_among l.bundle l.predicates) r one)
    by (inr of) = inr (record { declaring = of.declaring; among = later_there l of.declaring ls of.among; has = of.has })

-- A relation is one of the text's exactly where its lines say it.
pub relation_said : (values : List Line) (t : TextParts) (r : Relation) → Follow start 1 values t → Contains (all_related [] t.relations) r
    → IsRelationSaid values r
relation_said values t r follow h = by (from_on [] t.relations r h)
  where
    on : (of : IsOf t.relations r) → IsAmong start.relations of.declaring.bundle of.declaring.predicates
        ⊎ IsOn start values of.declaring.bundle of.declaring.predicates → IsRelationSaid values r
    on of (inl none) = absurd (none_there none.declaring none.among)
    on of (inr is) =
        let between = between_is of.declaring.bundle of.declaring.predicates of.declaring.predicates r of.has in
        record {
          predicates = of.declaring.predicates;
          before = is.before;
          after = is.after;
          stands = is.stands;
          bundle = between.bundle ∙ is.bundle ∙ omega arith;
          lower = between.lower;
          higher = between.higher;
          apart = between.apart;
        }

    by : Contains [] r ⊎ IsOf t.relations r → IsRelationSaid values r
    by (inl never) = absurd (none_there r never)
    by (inr of) =
        on of (all_on start 1 values t of.declaring.bundle of.declaring.predicates follow
        (record { declaring = of.declaring; among = of.among; bundle = refl; predicates = refl }))

pub said_relation : (values : List Line) (t : TextParts) (r : Relation) → Follow start 1 values t → IsRelationSaid values r
    → Contains (all_related [] t.relations) r
said_relation values t r follow h =
    let lines : Follow start 1 (h.before ++ line.Relation h.predicates ∷ h.after) t = subst (λ vs. Follow start 1 vs t) h.stands follow in
    let found = found_after start 1 h.before h.after t h.predicates lines in
    let bundle : r.bundle ≡ found.declaring.bundle = omega (arith, h.bundle, found.bundle) in
    put_on [] t.relations r found.declaring found.among
    (is_between found.declaring.bundle found.declaring.predicates found.declaring.predicates r (record {
      bundle = bundle;
      lower = subst (λ ps. Contains ps r.p) (sym found.predicates) h.lower;
      higher = subst (λ ps. Contains ps r.q) (sym found.predicates) h.higher;
      apart = h.apart;
    }))

-- The relations rise.
abbrev Rising : Relation → List Relation → Type 0
Rising low rs = Chain IsRelationBefore (λ (r : Relation). r.p < r.q) low rs

from_none : (r : Relation) → r.p < r.q → IsRelationBefore no_relation r
from_none r apart = elim (cases_order 0 r.bundle) [
  | inr (inl more) ↦ inl more
  | inr (inr less) ↦ absurd (omega (arith, less))
  | inl same ↦ elim (cases_order 0 r.p) [
    | inr (inl more) ↦ inr (same, inl more)
    | inr (inr less) ↦ absurd (omega (arith, less))
    | inl also ↦ inr (same, inr (also, omega (arith, apart)))
  ]
]

rising_with : (before rs : List Relation) → AllByRecursion (λ (r : Relation). r.p < r.q) rs → Rising no_relation before
    → Rising no_relation (with_relations before rs)
rising_with before [] all h = h
rising_with before (r ∷ rs) all h =
    rising_with (insert_key relation_cmp before r) rs all.1 (chain_grows relation_cmp IsRelationBefore (λ (r : Relation). r.p < r.q)
    relations_ordered no_relation r before (from_none r all.0) all.0 h)

above_apart : (bundle p : ℕ) (qs : List ℕ) → AllByRecursion (λ (r : Relation). r.p < r.q) (relations_above bundle p qs)
above_apart bundle p [] = tt
above_apart bundle p (q ∷ qs) = elim (cases_lt p q) [
  | inl less ↦ rw (lt-ltb p q less) (less, above_apart bundle p qs)
  | inr most ↦ rw (le-ltb p q most) (above_apart bundle p qs)
]

among_apart : (bundle : ℕ) (ps qs : List ℕ) → AllByRecursion (λ (r : Relation). r.p < r.q) (flat_map (λ p. relations_above bundle p qs) ps)
among_apart bundle [] qs = tt
among_apart bundle (p ∷ ps) qs =
    all_both (λ (r : Relation). r.p < r.q) (relations_above bundle p qs) (flat_map (λ p. relations_above bundle p qs) ps)
    (above_apart bundle p qs) (among_apart bundle ps qs)

rising_on : (before : List Relation) (ls : List RelationLine) → Rising no_relation before → Rising no_relation (all_related before ls)
rising_on before [] h = h
rising_on before (l ∷ ls) h =
    rising_on (related before l) ls (rising_with before (relations_among l.bundle l.predicates)
    (among_apart l.bundle l.predicates l.predicates) h)

pub rise_with : (before : List Relation) (ls : List RelationLine) → Rising no_relation before → RelationsRise (all_related before ls)
rise_with before ls h = chain_rises (λ (r : Relation). r.p < r.q) (all_related before ls) (rising_on before ls h)
