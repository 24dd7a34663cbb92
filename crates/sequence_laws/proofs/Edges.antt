-- The edges of a sequence and of a program from one instruction, and what is known past it.
use Rattle.std.proofs.Common.{◌≡◌, ℕ, List, Option, Some, None, refl, sym, ap, ◌∙◌, subst}
use Rattle.std.specs.Prelude.{ℤ, MatchOption}
use Rattle.ia_insn.specs.declared.insn.Insn.{Insn}
use Rattle.ia_program.specs.declared.place.Place.{Place}
use Rattle.ia_program.specs.Bundles.{Bundle}
use Rattle.ia_program.specs.Places.{insn_at, IsBefore, IsNext, IsPlaceOf}
use Rattle.ia_program.specs.Programs.{Program}
use Rattle.ia_meaning.specs.Actions.{insn_action}
use Rattle.ia_meaning.specs.Landings.{target_of}
use Rattle.ia_meaning.specs.Sequence.{first_of, next_of}
use Rattle.ia_meaning.proofs.Inside.{first_is_place}
use Rattle.ia_meaning.proofs.Sequences.{next_fits}
use Rattle.predicate_rel.specs.declared.edge.Edge.{Edge}
use Rattle.predicate_rel.specs.declared.edge.Edge.TheVariants.{Taken}
use Rattle.predicate_rel.specs.Pairs.{Pairs}
use Rattle.predicate_rel.specs.Edges.{HasEdge, displacement_of, target_at, edge_of, edge_end, pairs_past, pairs_past_insn}
use Rattle.flow_facts.specs.Graphs.{InsnSequence, over_program, over_sequence, sequence_past}
use Rattle.flow_facts.specs.Walks.{Walk, begins, goes_on, end_of, IsWalkIn, facts_in}
use Rattle.sequence_laws.specs.Spreads.{IsFiller}
use Rattle.sequence_laws.proofs.Fillers.{filler_stays}
use Rattle.sequence_laws.proofs.Between.{IsThere}

-- What is known past the n-th instruction is the same in the sequence and in the program.
same_past : (sequence : InsnSequence) (p : Program) (at : ℕ → Place) (n : ℕ) (e : Edge) (f : Pairs) → IsThere sequence p at n
    → sequence_past sequence.insns (first_of n) e f ≡ pairs_past p (at n) e f
unfolding sequence_past pairs_past
same_past sequence p at n e f t =
    ap (λ (o : Option Insn). pairs_past_insn o e f) t.in_sequence
    ∙ t.like.pairs f e
    ∙ sym (ap (λ (o : Option Insn). pairs_past_insn o e f) t.in_program)

-- What is known past an instruction is the same on two walks that come to it with the same facts.
pub same_facts : (sequence : InsnSequence) (p : Program) (at : ℕ → Place) (n : ℕ) (u w : Walk) (e : Edge) (to_sequence to : Place)
    → IsThere sequence p at n → end_of u ≡ first_of n → end_of w ≡ at n → facts_in (over_sequence sequence) u ≡ facts_in (over_program p) w
    → facts_in (over_sequence sequence) (goes_on u e to_sequence) ≡ facts_in (over_program p) (goes_on w e to)
same_facts sequence p at n u w e to_sequence to t ends_sequence ends same =
    ap (λ (q : Place). sequence_past sequence.insns q e (facts_in (over_sequence sequence) u)) ends_sequence
    ∙ ap (λ (f : Pairs). sequence_past sequence.insns (first_of n) e f) same
    ∙ same_past sequence p at n e (facts_in (over_program p) w) t
    ∙ sym (ap (λ (q : Place). pairs_past p q e (facts_in (over_program p) w)) ends)

-- A walk of a program ends at one of its places.
pub walk_place : (p : Program) (w : Walk) → IsWalkIn (over_program p) w → IsPlaceOf p.bundles (end_of w)
walk_place p (begins bundle) is = first_is_place p.bundles bundle is.inside
walk_place p (goes_on w e place) is = is.1.lands

-- A place with one behind it has a next one.
pub has_next : (bundles : List Bundle) (place later : Place) → IsPlaceOf bundles later → IsBefore place later
    → (next : Place) × (next_of bundles place ≡ Some next)
has_next bundles place later is after = of (next_of bundles place) refl (next_fits bundles place)
  where
    of : (o : Option Place) → next_of bundles place ≡ o → MatchOption o ((q : Place) → IsPlaceOf bundles q → IsBefore place q → ⊥)
        (λ next. IsNext bundles place next) → (next : Place) × (next_of bundles place ≡ Some next)
    of None e none = absurd (none later is after)
    of (Some next) e n = (next, e)

-- A taken edge leads to the first place of a bundle.
pub taken_to_first : (p : Program) (from to : Place) → HasEdge p from Taken to → to ≡ first_of to.bundle
unfolding edge_end
taken_to_first p from to edge = of (insn_at p.bundles from) edge.leads
  where
    target : (o : Option ℤ) → target_at from.bundle o ≡ Some to → to ≡ first_of to.bundle
    target None h = absurd cc
    target (Some disp) h =
        let same : first_of (target_of from.bundle disp) ≡ to = cc in
        subst (λ (q : Place). q ≡ first_of q.bundle) same refl

    of : (o : Option Insn) → edge_of p.bundles from o Taken ≡ Some to → to ≡ first_of to.bundle
    of None h = absurd cc
    of (Some i) h = target (displacement_of (insn_action i)) h

-- No taken edge leads from a `nop`.
pub filler_untaken : (p : Program) (from to : Place) (i : Insn) → insn_at p.bundles from ≡ Some i → IsFiller i → HasEdge p from Taken to → ⊥
unfolding edge_end
filler_untaken p from to i here filler edge =
    let leads : edge_of p.bundles from (Some i) Taken ≡ Some to =
    sym (ap (λ (o : Option Insn). edge_of p.bundles from o Taken) here) ∙ edge.leads in
    let none : target_at from.bundle None ≡ Some to = sym (ap (target_at from.bundle) (filler_stays i filler)) ∙ leads in
    cc
