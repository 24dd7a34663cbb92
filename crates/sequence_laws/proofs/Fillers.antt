-- What a `nop` with immediate 0 under p0 does: it accesses nothing, falls through, and keeps each pair of predicates.
use Rattle.std.proofs.Common.{◌≡◌, ℕ, ◌<◌, Bool, true, false, ◌&&◌, ◌||◌, ◌==◌, nat_lt, List, [], ◌∷◌, Option, Some, None, refl, ap, ◌∙◌, arith}
use mathlib.Core.Path.{fun_ext}
use Rattle.std.specs.Prelude.{All}
use Rattle.std.proofs.lemmas.Bool.{and_parts}
use Rattle.std.proofs.lemmas.Bool.Decides.{nat_tests}
use Rattle.std.proofs.lemmas.List.{get_or_default}
use Rattle.std.proofs.lemmas.List.Elements.{All-filter, All-head, All-tail}
use Rattle.ia_insn.specs.declared.insn.Insn.{Insn}
use Rattle.ia_program.specs.declared.place.Place.{Place}
use Rattle.ia_program.specs.declared.relations.Relation.{Relation}
use Rattle.ia_program.specs.Places.{insn_at}
use Rattle.ia_program.specs.Programs.{Program, IsProgram, no_relation, relations_at}
use Rattle.ia_meaning.specs.Actions.{insn_action, is_alloc}
use Rattle.resource_sets.specs.Accesses.{accesses, rows}
use Rattle.predicate_rel.specs.declared.edge.Edge.{Edge}
use Rattle.predicate_rel.specs.Pairs.{Pairs, in_range, no_pairs, other_of, is_same_pair, with_pair}
use Rattle.predicate_rel.specs.Rules.{is_met, rule_of, pairs_after}
use Rattle.predicate_rel.specs.Edges.{may_fall, displacement_of, pairs_past, pairs_past_insn}
use Rattle.flow_facts.specs.Graphs.{over_program, with_relations, known_at_entry}
use Rattle.flow_facts.specs.Walks.{Walk, begins, goes_on, end_of, IsWalkIn, facts_in}
use Rattle.order_laws.specs.Violations.{clears}
use Rattle.sequence_laws.specs.Spreads.{IsFiller}

-- A `nop` accesses nothing.
pub filler_accesses : (i : Insn) → IsFiller i → accesses i ≡ []
unfolding rows
filler_accesses i (unit, is) = rw is refl

-- Control falls through a `nop`.
pub filler_falls : (i : Insn) → IsFiller i → may_fall i ≡ true
filler_falls i (unit, is) = rw is refl

-- Control goes nowhere else from a `nop`.
pub filler_stays : (i : Insn) → IsFiller i → displacement_of (insn_action i) ≡ None
filler_stays i (unit, is) = rw is refl

-- A `nop` is no `alloc`.
pub filler_no_alloc : (i : Insn) → IsFiller i → is_alloc (insn_action i) ≡ false
filler_no_alloc i (unit, is) = rw is refl

-- A `nop` is no `clrrrb`.
pub filler_no_clear : (i : Insn) → IsFiller i → clears (insn_action i) ≡ false
filler_no_clear i (unit, is) = rw is refl

-- The pairs are of predicates.
pub record IsBounded (f : Pairs) : Type 0 where
  pub each : (x y : ℕ) → f x y ≡ true → in_range x y ≡ true

-- A `nop` keeps all pairs of predicates.
pub filler_keeps : (i : Insn) (f : Pairs) (e : Edge) → IsFiller i → IsBounded f → pairs_after f i e ≡ f
unfolding pairs_after rule_of
filler_keeps i f e (unit, is) bounded = rw is (fun_ext (λ x. fun_ext (λ y. both x y (in_range x y) (f x y) (bounded.each x y))))
  where
    both : (x y : ℕ) (r b : Bool) → (b ≡ true → r ≡ true) → (r && b) ≡ b
    both x y true b h = refl
    both x y false true h = h refl
    both x y false false h = refl

-- What is known past an instruction is of predicates.
pub after_bounded : (f : Pairs) (i : Insn) (e : Edge) → IsBounded (pairs_after f i e)
unfolding pairs_after
after_bounded f i e = record { each = λ x y h. (and_parts (in_range x y) (is_met (rule_of i e x y) f) h).0 }

none_bounded : IsBounded no_pairs
unfolding no_pairs
none_bounded = record { each = λ x y h. absurd cc }

-- One pair more of two predicates keeps what is known within the predicates.
pair_bounded : (f : Pairs) (a b : ℕ) → a < b → b < 64 → IsBounded f → IsBounded (with_pair f a b)
unfolding with_pair in_range
pair_bounded f a b apart below bounded = record { each = λ x y h. of x y (f x y) refl h }
  where
    same : (x y : ℕ) → is_same_pair a (other_of a b) x (other_of x y) ≡ true → (nat_lt x 64 && nat_lt y 64) ≡ true
    same x y h = grind (arith, nat_tests)

    of : (x y : ℕ) (c : Bool) → f x y ≡ c → (c || is_same_pair a (other_of a b) x (other_of x y)) ≡ true
        → (nat_lt x 64 && nat_lt y 64) ≡ true
    of x y true e h = bounded.each x y e
    of x y false e h = same x y h

-- A relation of two predicates, the lower one first.
abbrev IsOfTwo : Relation → Type 0
IsOfTwo r = (r.p < r.q) × (r.q < 64)

relations_bounded : (f : Pairs) (rs : List Relation) → All IsOfTwo rs → IsBounded f → IsBounded (with_relations f rs)
relations_bounded f [] each bounded = bounded
relations_bounded f (r ∷ rs) each bounded =
    let first = All-head IsOfTwo r rs each in
    relations_bounded (with_pair f r.p r.q) rs (All-tail IsOfTwo r rs each) (pair_bounded f r.p r.q first.0 first.1 bounded)

-- What an entry of a program declares is of predicates.
entry_bounded : (p : Program) (bundle : ℕ) → IsProgram p → IsBounded (known_at_entry p.relations bundle)
unfolding known_at_entry
entry_bounded p bundle program =
    let all = All-filter (λ r. r.bundle == bundle) IsOfTwo p.relations (λ k d inside.
    let at = program.relations k inside in
    rw (get_or_default p.relations k d no_relation inside) (at.apart, omega (arith, at.static))) in
    relations_bounded no_pairs (relations_at p.relations bundle) all none_bounded

past_bounded : (p : Program) (place : Place) (e : Edge) (f : Pairs) → IsBounded f → IsBounded (pairs_past p place e f)
unfolding pairs_past
past_bounded p place e f bounded = of (insn_at p.bundles place)
  where
    of : (o : Option Insn) → IsBounded (pairs_past_insn o e f)
    of None = bounded
    of (Some i) = after_bounded f i e

-- What is known on a walk of a program is of predicates.
pub walk_bounded : (p : Program) (w : Walk) → IsProgram p → IsWalkIn (over_program p) w → IsBounded (facts_in (over_program p) w)
walk_bounded p (begins bundle) program is = entry_bounded p bundle program
walk_bounded p (goes_on w e place) program is = past_bounded p (end_of w) e (facts_in (over_program p) w) (walk_bounded p w program is.0)

-- Past such a `nop` the same is known.
pub filler_past : (p : Program) (place : Place) (e : Edge) (f : Pairs) (i : Insn) → insn_at p.bundles place ≡ Some i → IsFiller i
    → IsBounded f → pairs_past p place e f ≡ f
unfolding pairs_past
filler_past p place e f i here filler bounded = ap (λ (o : Option Insn). pairs_past_insn o e f) here ∙ filler_keeps i f e filler bounded
