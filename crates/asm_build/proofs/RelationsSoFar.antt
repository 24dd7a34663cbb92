-- The relations of the bundles before one, and what their printed lines come to.
use Rattle.std.proofs.Common.{◌≡◌, ◌∙◌, refl, sym, ap, subst, inl, inr, ℕ, ◌+◌, ◌<◌, ◌≤◌, List, [], ◌∷◌, ◌++◌, length, codes, arith, append_assoc, append-nil, length-append, lit<}
use Rattle.std.specs.List.{AllByRecursion}
use Rattle.std.specs.Fmt.{decimal}
use Rattle.std.proofs.lemmas.Bool.{cases_order, eq-eqb, ne_eqb, le-ltb, lt-ltb}
use Rattle.std.proofs.lemmas.Fmt.{length-decimal-le}
use Rattle.first_fault.specs.Stages.{ArePassed}
use Rattle.ia_program.specs.declared.limits.TheConstants.{RELATION_LIMIT}
use Rattle.ia_program.specs.declared.relations.Relation.{Relation}
use Rattle.ia_program.specs.Bundles.{Bundle}
use Rattle.ia_program.specs.Programs.{IsEntryOf, IsRelationBefore, AreRelations, no_relation, relations_at}
use Rattle.ia_program.proofs.DeclaredRelations.{rises_or_stays}
use Rattle.asm_reading.specs.declared.line.Line.TheVariants as line
use Rattle.asm_text.proofs.RelationLines.{relation_reads}
use Rattle.asm_build.specs.declared.draft.BundleLines.{BundleLines}
use Rattle.asm_build.specs.declared.text_parts.EntryLine.{EntryLine}
use Rattle.asm_build.specs.declared.text_parts.RelationLine.{RelationLine}
use Rattle.asm_build.specs.CanonicalText.{line as text_line, relation_text, relations_text}
use Rattle.asm_build.specs.Relations.{relation_cmp, relations_among, related, all_related, relation_stages, IsFit}
use Rattle.asm_build.specs.TextParts.{Labels}
use Rattle.asm_build.specs.TextReading.{Says}
use Rattle.asm_build.proofs.KeysBelow.{below, KeysFrom}
use Rattle.asm_build.proofs.Membership.{all_both}
use Rattle.asm_build.proofs.RelationSets.{AreFitFrom, fit_of_relations, relations_ordered}
use Rattle.asm_build.proofs.SortedSets.{at_end}
use Rattle.asm_build.proofs.Taking.{Goes, stays, goes_on, line_goes}
use Rattle.asm_build.proofs.WrittenBundles.{outside}

-- The bundle of a relation.
abbrev pub bundle_of : Relation → ℕ
bundle_of r = r.bundle

-- The relations of the bundles before the n-th.
abbrev pub relations_below : ℕ → List Relation → List Relation
relations_below n rs = below bundle_of n rs

-- The bundles of relations don't fall, from one on.
abbrev pub BundlesFrom : ℕ → List Relation → Type 0
BundlesFrom low rs = KeysFrom bundle_of low rs

-- What is known of the relations of a program.
bundles_rise : (bundles : List Bundle) (entries : List ℕ) (low : Relation) (rs : List Relation)
    → AreFitFrom (IsEntryOf bundles entries) low rs → BundlesFrom low.bundle rs
bundles_rise bundles entries low [] h = tt
bundles_rise bundles entries low (r ∷ rs) h = (rises_or_stays low r h.0, bundles_rise bundles entries r rs h.2)

each_fit : (bundles : List Bundle) (entries : List ℕ) (low : Relation) (rs : List Relation) → AreFitFrom (IsEntryOf bundles entries) low rs
    → AllByRecursion (IsFit (IsEntryOf bundles entries)) rs
each_fit bundles entries low [] h = tt
each_fit bundles entries low (r ∷ rs) h = (h.1, each_fit bundles entries r rs h.2)

each_inside : (bundles : List Bundle) (entries : List ℕ) (rs : List Relation) → AllByRecursion (IsFit (IsEntryOf bundles entries)) rs
    → AllByRecursion (λ (r : Relation). r.bundle < length bundles) rs
each_inside bundles entries [] h = tt
each_inside bundles entries (r ∷ rs) h = (h.0.entry.inside, each_inside bundles entries rs h.1)

pub relations_rise : (bundles : List Bundle) (entries : List ℕ) (rs : List Relation) → AreRelations bundles entries rs → BundlesFrom 0 rs
relations_rise bundles entries rs h = bundles_rise bundles entries no_relation rs (fit_of_relations bundles entries rs h)

pub relations_fit : (bundles : List Bundle) (entries : List ℕ) (rs : List Relation) → AreRelations bundles entries rs
    → AllByRecursion (IsFit (IsEntryOf bundles entries)) rs
relations_fit bundles entries rs h = each_fit bundles entries no_relation rs (fit_of_relations bundles entries rs h)

pub relations_inside : (bundles : List Bundle) (entries : List ℕ) (rs : List Relation) → AreRelations bundles entries rs
    → AllByRecursion (λ (r : Relation). r.bundle < length bundles) rs
relations_inside bundles entries rs h = each_inside bundles entries rs (relations_fit bundles entries rs h)

-- A relation of the n-th bundle, between two of p1 to p15, the lower one first.
pub record IsPrinted (n : ℕ) (r : Relation) : Type 0 where
  pub bundle : r.bundle ≡ n
  pub some : 1 ≤ r.p
  pub apart : r.p < r.q
  pub static : r.q ≤ 15

pub printed_at : (bundles : List Bundle) (entries : List ℕ) (n : ℕ) (rs : List Relation)
    → AllByRecursion (IsFit (IsEntryOf bundles entries)) rs → AllByRecursion (IsPrinted n) (relations_at rs n)
printed_at bundles entries n [] h = tt
printed_at bundles entries n (r ∷ rs) h = elim (cases_order r.bundle n) [
  | inl same ↦ rw (eq-eqb r.bundle n same) (
    record { bundle = same; some = h.0.some; apart = h.0.apart; static = h.0.static },
    printed_at bundles entries n rs h.1,
  )
  | inr (inl less) ↦ rw (ne_eqb r.bundle n (λ e. omega (arith, less, e))) (printed_at bundles entries n rs h.1)
  | inr (inr more) ↦ rw (ne_eqb r.bundle n (λ e. omega (arith, more, e))) (printed_at bundles entries n rs h.1)
]

-- The line of a relation.
two_digits : (n : ℕ) → n ≤ 15 → length (decimal n) ≤ 2
two_digits n h = length-decimal-le 2 n (lit< tt) (omega (arith, h)) (omega (arith, h))

pub relation_is_short : (p q : ℕ) → p ≤ 15 → q ≤ 15 → length (relation_text p q) ≤ 25
relation_is_short p q low high =
    omega (
      arith,
      two_digits p low,
      two_digits q high,
      length-append (codes ".pred.rel \"mutex\",p" ++ decimal p ++ codes ",p") (decimal q),
      length-append (codes ".pred.rel \"mutex\",p" ++ decimal p) (codes ",p"),
      length-append (codes ".pred.rel \"mutex\",p") (decimal p),
    )

relation_says : (p q : ℕ) → 1 ≤ p → p < q → q ≤ 15 → Says (relation_text p q) (line.Relation (p ∷ q ∷ []))
relation_says p q some apart static = record {
  short = omega (arith, relation_is_short p q (omega (arith, apart, static)) static);
  reads = record { reading = relation_reads p q some apart static; listed = tt };
}

-- Lines that declare relations, one each.
abbrev pub AreRelationLines : List Relation → List RelationLine → Type 0
AreRelationLines [] [] = Unit {0}
AreRelationLines (r ∷ rs) (l ∷ ls) = ((l.bundle ≡ r.bundle) × (l.predicates ≡ r.p ∷ r.q ∷ [])) × AreRelationLines rs ls
AreRelationLines rs ls = ⊥

one_line_more : (rs : List Relation) (ls : List RelationLine) (r : Relation) (l : RelationLine) → AreRelationLines rs ls
    → l.bundle ≡ r.bundle → l.predicates ≡ r.p ∷ r.q ∷ [] → AreRelationLines (rs ++ r ∷ []) (ls ++ l ∷ [])
one_line_more [] [] r l h b p = ((b, p), tt)
one_line_more (s ∷ rs) [] r l h b p = absurd h
one_line_more [] (k ∷ ls) r l h b p = absurd h
one_line_more (s ∷ rs) (k ∷ ls) r l h b p = (h.0, one_line_more rs ls r l h.1 b p)

-- What the lines of a bundle's relations come to, after those of the bundles before it.
pub record RelationsGo (bs : List BundleLines) (es : List EntryLine) (rs : List RelationLine) (ls : Labels) (k : ℕ) (text : List ℕ)
    (done : List Relation) : Type 0 where
  pub next : ℕ
  pub lines : List RelationLine
  pub goes : Goes (outside bs es rs ls) k text (outside bs es lines ls) next
  pub are : AreRelationLines done lines

pub relations_go : (bs : List BundleLines) (es : List EntryLine) (rs : List RelationLine) (ls : Labels) (k n : ℕ)
    (done here : List Relation) → length bs ≡ n → AllByRecursion (IsPrinted n) here → AreRelationLines done rs
    → RelationsGo bs es rs ls k (relations_text here) (done ++ here)
relations_go bs es rs ls k n done [] there all are = record {
  next = k;
  lines = rs;
  goes = stays (outside bs es rs ls) k;
  are = subst (λ ds. AreRelationLines ds rs) (sym (append-nil done)) are;
}
relations_go bs es rs ls k n done (r ∷ here) there all are =
    let l : RelationLine = record { line = k; bundle = length bs; predicates = r.p ∷ r.q ∷ [] } in
    let bundle : length bs ≡ r.bundle = there ∙ sym all.0.bundle in
    let more =
    relations_go bs es (rs ++ l ∷ []) ls (k + 1) n (done ++ r ∷ []) here there all.1 (one_line_more done rs r l are bundle refl) in
    let one : Goes (outside bs es rs ls) k (text_line (relation_text r.p r.q)) (outside bs es (rs ++ l ∷ []) ls) (k + 1) =
    line_goes (outside bs es rs ls) k (relation_text r.p r.q) (line.Relation (r.p ∷ r.q ∷ []))
    (relation_says r.p r.q all.0.some all.0.apart all.0.static) (record { closed = refl; same = refl }, (tt, (tt, (tt, (tt, tt))))) in
    record {
      next = more.next;
      lines = more.lines;
      goes =
          goes_on (outside bs es rs ls) (outside bs es (rs ++ l ∷ []) ls)
          (outside bs es more.lines ls) k (k + 1) more.next (text_line (relation_text r.p r.q)) (relations_text here) one more.goes;
      are = subst (λ ds. AreRelationLines ds more.lines) (append_assoc done (r ∷ []) here) more.are;
    }

-- The order of relations is transitive.
later : (a b c : Relation) → IsRelationBefore a b → IsRelationBefore b c → IsRelationBefore a c
later a b c (inl x) (inl y) = inl (omega (arith, x, y))
later a b c (inl x) (inr (e, y)) = inl (omega (arith, x, e))
later a b c (inr (e, x)) (inl y) = inl (omega (arith, e, y))
later a b c (inr (e, inl x)) (inr (f, inl y)) = inr (e ∙ f, inl (omega (arith, x, y)))
later a b c (inr (e, inl x)) (inr (f, inr (g, y))) = inr (e ∙ f, inl (omega (arith, x, g)))
later a b c (inr (e, inr (g, x))) (inr (f, inl y)) = inr (e ∙ f, inl (omega (arith, g, y)))
later a b c (inr (e, inr (g, x))) (inr (f, inr (i, y))) = inr (e ∙ f, inr (g ∙ i, omega (arith, x, y)))

-- Two predicates make one relation.
one_pair : (bundle p q : ℕ) → p < q → relations_among bundle (p ∷ q ∷ []) ≡ record { bundle = bundle; p = p; q = q } ∷ []
one_pair bundle p q h = rw (le-ltb p p (omega arith), lt-ltb p q h, le-ltb q p (omega (arith, h)), le-ltb q q (omega arith)) refl

pair_of : (r : Relation) (l : RelationLine) → l.bundle ≡ r.bundle → l.predicates ≡ r.p ∷ r.q ∷ [] → r.p < r.q
    → relations_among l.bundle l.predicates ≡ r ∷ []
pair_of r l b p h = ap (λ n. relations_among n l.predicates) b ∙ ap (relations_among r.bundle) p ∙ one_pair r.bundle r.p r.q h

one_related : (done : List Relation) (r : Relation) (l : RelationLine) → l.bundle ≡ r.bundle → l.predicates ≡ r.p ∷ r.q ∷ [] → r.p < r.q
    → AllByRecursion (λ (m : Relation). IsRelationBefore m r) done → related done l ≡ done ++ r ∷ []
one_related done r l b p h before =
    let one : relations_among l.bundle l.predicates ≡ r ∷ [] = pair_of r l b p h in
    rw one (at_end relation_cmp IsRelationBefore relations_ordered done r before)

-- Lines that declare relations in turn have no fault, and the relations are those.
pub record InTurn (bundles : List Bundle) (entries : List ℕ) (done rest : List Relation) (lines : List RelationLine) : Type 0 where
  pub passed : ArePassed (relation_stages (IsEntryOf bundles entries) done lines)
  pub all : all_related done lines ≡ done ++ rest

pub related_in_turn : (bundles : List Bundle) (entries : List ℕ) (low : Relation) (done rest : List Relation) (lines : List RelationLine)
    → AreRelationLines rest lines → AreFitFrom (IsEntryOf bundles entries) low rest
    → ((r : Relation) → IsRelationBefore low r → AllByRecursion (λ (m : Relation). IsRelationBefore m r) done)
    → length done + length rest ≤ RELATION_LIMIT → InTurn bundles entries done rest lines
related_in_turn bundles entries low done [] [] are fit before few = record { passed = tt; all = sym (append-nil done) }
related_in_turn bundles entries low done (r ∷ rest) [] are fit before few = absurd are
related_in_turn bundles entries low done [] (l ∷ lines) are fit before few = absurd are
related_in_turn bundles entries low done (r ∷ rest) (l ∷ lines) are fit before few =
    let one : related done l ≡ done ++ r ∷ [] = one_related done r l are.0.0 are.0.1 fit.1.apart (before r fit.0) in
    let long : length (done ++ r ∷ []) ≡ length done + 1 = length-append done (r ∷ []) in
    let next =
    related_in_turn bundles entries r (done ++ r ∷ []) rest lines are.1 fit.2
    (λ s after. all_both (λ (m : Relation). IsRelationBefore m s) done (r ∷ []) (before s (later low r s fit.0 after)) (after, tt))
    (omega (arith, few, long)) in
    record {
      passed = (
        subst (IsEntryOf bundles entries) (sym are.0.0) fit.1.entry,
        (
          omega (arith, few, long, ap length one),
          subst (λ rs. ArePassed (relation_stages (IsEntryOf bundles entries) rs lines))
              (sym one) next.passed,
        ),
      );
      all = ap (λ rs. all_related rs lines) one ∙ next.all ∙ append_assoc done (r ∷ []) rest;
    }
