-- The relations that lines declare: between each two of their predicates, of what comes next, by its number.
use Rattle.std.specs.Prelude.{ℕ, ◌<◌, ◌≤◌, nat_lt, if◌then◌else◌, List, [], ◌∷◌, length, flat_map}
use Rattle.std.specs.BTreeSet.{insert_key}
use Rattle.std.specs.Ordering.{nat_cmp, on, then_cmp}
use Rattle.std.specs.declared.cmp.Ordering.{Ordering}
use Rattle.first_fault.specs.Stages.{Stage, unless}
use Rattle.ia_program.specs.declared.limits.TheConstants.{RELATION_LIMIT}
use Rattle.ia_program.specs.declared.relations.Relation.{Relation}
use Rattle.ia_program.specs.Programs.{IsRelationBefore, relation_at, relation_before}
use Rattle.asm_build.specs.declared.text_parts.RelationLine.{RelationLine}
use Rattle.asm_build.specs.declared.reason.Reason.TheVariants as reason
use Rattle.asm_build.specs.declared.reason.TextError.{TextError}
use Rattle.asm_build.specs.declared.reason.TextError.TheVariants.{Fault}

-- The order of relations: by what they are of, then by the lower predicate, then by the higher one.
abbrev pub relation_cmp : Relation → Relation → Ordering
relation_cmp =
    then_cmp (on (λ (r : Relation). r.bundle) nat_cmp) (then_cmp (on (λ (r : Relation). r.p) nat_cmp) (on (λ (r : Relation). r.q) nat_cmp))

-- The relations of a bundle between a predicate and the higher ones of these.
abbrev pub relations_above : ℕ → ℕ → List ℕ → List Relation
relations_above bundle p [] = []
relations_above bundle p (q ∷ qs) =
    if nat_lt p q then record { bundle = bundle; p = p; q = q } ∷ relations_above bundle p qs else relations_above bundle p qs

-- The relations of a bundle between each two of these predicates, the lower one first.
abbrev pub relations_among : ℕ → List ℕ → List Relation
relations_among bundle ps = flat_map (λ p. relations_above bundle p ps) ps

-- Relations in their order, with more of them.
abbrev pub with_relations : List Relation → List Relation → List Relation
with_relations before [] = before
with_relations before (r ∷ rs) = with_relations (insert_key relation_cmp before r) rs

-- The relations before a line, with those that the line declares.
abbrev pub related : List Relation → RelationLine → List Relation
related before l = with_relations before (relations_among l.bundle l.predicates)

-- The relations before some lines, with those that these lines declare.
abbrev pub all_related : List Relation → List RelationLine → List Relation
all_related before [] = before
all_related before (l ∷ ls) = all_related (related before l) ls

-- What is looked for in lines that declare relations, in their order: that what comes next is an entry, and that there
-- are no more different relations, with those before them, than a program may have.
abbrev pub relation_stages : (ℕ → Type 0) → List Relation → List RelationLine → List (Stage TextError)
relation_stages IsEntry before [] = []
relation_stages IsEntry before (l ∷ ls) =
    unless (IsEntry l.bundle) (Fault l.line reason.Relation)
    ∷ unless (length (related before l) ≤ RELATION_LIMIT) (Fault l.line reason.Limit)
    ∷ relation_stages IsEntry (related before l) ls

-- A relation that may be declared, by itself: of an entry, and of two of p1 to p15, the lower one first.
pub record IsFit (IsEntry : ℕ → Type 0) (r : Relation) : Type 0 where
  pub entry : IsEntry r.bundle
  pub some : 1 ≤ r.p
  pub apart : r.p < r.q
  pub static : r.q ≤ 15

-- Relations rise strictly, and each is one that may be declared.
abbrev pub AreRelationsOf : (ℕ → Type 0) → List Relation → Type 0
AreRelationsOf IsEntry relations =
    (n : ℕ) → n < length relations → IsRelationBefore (relation_before relations n) (relation_at relations n)
    × IsFit IsEntry (relation_at relations n)
