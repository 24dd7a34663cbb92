-- Where the sequence has a violation the program has one.
use Rattle.std.proofs.Common.{◌≡◌, ℕ, Bool, true, false, ◌⊎◌, inl, inr, List, [], ◌∷◌, refl, sym, ap, ◌∙◌, subst}
use Rattle.std.specs.Prelude.{Contains}
use Rattle.ia_program.specs.declared.place.Place.{Place}
use Rattle.ia_program.specs.Places.{IsBefore}
use Rattle.ia_program.specs.Programs.{Program, IsProgram}
use Rattle.ia_meaning.specs.Sequence.{first_of}
use Rattle.resource_sets.specs.declared.access.Resource.{Resource}
use Rattle.resource_sets.specs.declared.access.Resource.TheVariants.{Cfm}
use Rattle.resource_sets.specs.declared.access.Access.{Access}
use Rattle.resource_sets.specs.declared.clashes.Rule.{Rule}
use Rattle.resource_sets.specs.declared.clashes.Rule.TheVariants.{Raw, Waw, War63, AllocFirst, ClearLast}
use Rattle.resource_sets.specs.Clashes.{may_write_guard}
use Rattle.resource_sets.proofs.Members.{in_head}
use Rattle.predicate_rel.specs.declared.edge.Edge.TheVariants.{Falls}
use Rattle.predicate_rel.specs.Pairs.{Pairs}
use Rattle.flow_facts.specs.Graphs.{InsnSequence, over_program, over_sequence, HasSequenceEdge}
use Rattle.flow_facts.specs.Walks.{Walk, goes_on, end_of, IsWalkIn, group_since}
use Rattle.order_laws.specs.declared.violation.Violation.{Violation}
use Rattle.order_laws.specs.Excuses.{accesses_at, IsExcused, IsLatest}
use Rattle.order_laws.specs.Violations.{ClashesUnexcused, Breaks, ViolatesIn, allocates_at, clears_at}
use Rattle.order_laws.proofs.Falling.{ComesFrom, comes_from, falls_group}
use Rattle.sequence_laws.specs.Spreads.{IsSpread, AreStops}
use Rattle.sequence_laws.specs.Laws.{ViolatedInTheProgram}
use Rattle.sequence_laws.proofs.Rows.{IsNumbered, IsSequenceFall, sequence_walk_place, sequence_fall_is}
use Rattle.sequence_laws.proofs.Between.{there, in_order}
use Rattle.sequence_laws.proofs.Alike.{numbered_or_idle, accessing_numbered, accesses_same, allocates_same, clears_same, clashes_along, unexcused_along}
use Rattle.sequence_laws.proofs.Groups.{has_latest}
use Rattle.sequence_laws.proofs.Forth.{IsFollowed, HasFall, forth, falls_forth, unstopped_at}

module _ (sequence : InsnSequence) (p : Program) (at : ℕ → Place) (sequence_stop has_stop : Place → Bool) (program : IsProgram p)
    (spread : IsSpread sequence p at) (stops : AreStops sequence p at sequence_stop has_stop) where
  abbrev Violated : Type 0
  Violated = (v : Violation) × ViolatesIn (over_program p) has_stop v

  module _ (u : Walk) (walks : IsWalkIn (over_sequence sequence) u) (i : Place) (q : Resource)
      (inside : Contains (group_since sequence_stop u) i) where
    -- The number of the last instruction, and the walk of the program that goes there.
    last : IsNumbered sequence.insns (end_of u)
    last = sequence_walk_place sequence u walks

    w : IsFollowed sequence p at sequence_stop has_stop u last.number
    w = forth sequence p at sequence_stop has_stop program spread stops u walks last.number last.is

    same_at : (k : Place) (m : IsNumbered sequence.insns k) → accesses_at (over_sequence sequence) k ≡ accesses_at (over_program p)
        (at m.number)
    same_at k m =
        ap (accesses_at (over_sequence sequence)) m.is ∙ accesses_same sequence p at m.number (there sequence p at spread m.number m.inside)

    same_end : accesses_at (over_sequence sequence) (end_of u) ≡ accesses_at (over_program p) (end_of w.walk)
    same_end = same_at (end_of u) last ∙ sym (ap (accesses_at (over_program p)) w.there.ends)

    kept : (k : Place) (m : IsNumbered sequence.insns k) → Contains (group_since sequence_stop u) k
        → Contains (group_since has_stop w.walk) (at m.number)
    kept k m c = w.group m.number m.inside (subst (Contains (group_since sequence_stop u)) m.is c)

    -- What excuses two accesses in the program excuses them in the sequence.
    excused_back : (m : IsNumbered sequence.insns i) (first second : ℕ)
        → IsExcused (over_program p) has_stop w.walk (at m.number) first second
        → IsExcused (over_sequence sequence) sequence_stop u i first second
    excused_back m first second x = record {
      known = ap (λ (f : Pairs). f first second) w.facts ∙ x.known;
      unwritten = λ k c up. of k c up (numbered_or_idle sequence k);
    }
      where
        up_there : (k : Place) (n : IsNumbered sequence.insns k) → ¬ IsBefore k i → ¬ IsBefore (at n.number) (at m.number)
        up_there k n up less =
            let before : IsBefore (first_of n.number) (first_of m.number) =
            inl (in_order sequence p at spread n.number m.number n.inside m.inside less) in
            up (subst (λ (a : Place). IsBefore a i) (sym n.is) (subst (IsBefore (first_of n.number)) (sym m.is) before))

        of : (k : Place) → Contains (group_since sequence_stop u) k → ¬ IsBefore k i
            → IsNumbered sequence.insns k ⊎ (accesses_at (over_sequence sequence) k ≡ [])
            → may_write_guard first (accesses_at (over_sequence sequence) k) ≡ false
        of k c up (inl n) = ap (may_write_guard first) (same_at k n) ∙ x.unwritten (at n.number) (kept k n c) (up_there k n up)
        of k c up (inr none) = ap (may_write_guard first) none

    -- Two slots that clash.
    clash_in_program : (rule : Rule) (m : IsNumbered sequence.insns i) → Breaks (over_program p) has_stop w.walk (at m.number) rule q
        → Violated
    clash_in_program rule m breaks = (
      record { second = at last.number; first = at m.number; rule = rule; resource = q },
      record { walk = w.walk; there = w.there; inside = kept i m inside; breaks = breaks },
    )

    unexcused_in_program : (rule : Rule) (m : IsNumbered sequence.insns i)
        → ClashesUnexcused (over_sequence sequence) sequence_stop u i rule q
        → ClashesUnexcused (over_program p) has_stop w.walk (at m.number) rule q
    unexcused_in_program rule m c =
        unexcused_along (over_sequence sequence) (over_program p) sequence_stop has_stop u w.walk i (at m.number) rule q (same_at i m)
        same_end (excused_back m) c

    first_by : (a : Access) → Contains (accesses_at (over_sequence sequence) i) a → IsNumbered sequence.insns i
    first_by a c = accessing_numbered sequence i a c

    -- The last step.
    from : ComesFrom (over_sequence sequence) sequence_stop u
    from = comes_from (over_sequence sequence) sequence_stop u i walks inside

    before : IsNumbered sequence.insns (end_of from.before)
    before = sequence_walk_place sequence from.before from.walks

    -- The group of an `alloc` isn't empty in the program either.
    alloc_in_program : allocates_at (over_sequence sequence) (end_of u) ≡ true → q ≡ Cfm → Violated
    alloc_in_program allocates of_frame =
        let c : Contains (group_since sequence_stop u) (end_of from.before) =
        subst (λ (l : List Place). Contains l (end_of from.before)) (sym from.group)
        (in_head (end_of from.before) (end_of from.before) (group_since sequence_stop from.before) refl) in
        let latest = has_latest (group_since has_stop w.walk) (at before.number) (kept (end_of from.before) before c) in (
          record { second = at last.number; first = latest.place; rule = AllocFirst; resource = q },
          record {
            walk = w.walk;
            there = w.there;
            inside = latest.inside;
            breaks = (
              ap (allocates_at (over_program p)) w.there.ends
                  ∙ sym (allocates_same sequence p at last.number (there sequence p at spread last.number last.inside))
                  ∙ sym (ap (allocates_at (over_sequence sequence)) last.is)
                  ∙ allocates,
              latest.latest,
              of_frame,
            );
          },
        )

    -- The place right behind a `clrrrb` is in its group in the program too.
    clear_in_program : clears_at (over_sequence sequence) i ≡ true → IsLatest (group_since sequence_stop u) i → q ≡ Cfm → Violated
    clear_in_program clearing is_latest of_frame = (
      record { second = fall.next; first = at n; rule = ClearLast; resource = q },
      record {
        walk = goes_on walk.walk Falls fall.next;
        there = record { walks = (walk.there.walks, fall.edge); ends = refl };
        inside =
            subst (λ (l : List Place). Contains l (at n)) (sym group)
            (in_head (end_of walk.walk) (at n) (group_since has_stop walk.walk) walk.there.ends);
        breaks = (clears, subst (λ (l : List Place). IsLatest l (at n)) (sym group) walk.there.ends, of_frame);
      },
    )
      where
        n : ℕ
        n = before.number

        edge : HasSequenceEdge sequence (first_of n) Falls (end_of u)
        edge = subst (λ (k : Place). HasSequenceEdge sequence k Falls (end_of u)) before.is from.edge

        on : IsSequenceFall sequence n (end_of u)
        on = sequence_fall_is sequence n (end_of u) edge

        walk : IsFollowed sequence p at sequence_stop has_stop from.before n
        walk = forth sequence p at sequence_stop has_stop program spread stops from.before from.walks n before.is

        fall : HasFall p at walk.walk n
        fall =
            falls_forth sequence p at sequence_stop has_stop program spread stops walk.walk n on.inside walk.there.ends
            (subst (HasSequenceEdge sequence (first_of n) Falls) on.leads edge)

        unstopped : has_stop (end_of walk.walk) ≡ false
        unstopped =
            ap has_stop walk.there.ends
            ∙ unstopped_at sequence p at sequence_stop has_stop program spread stops n on.inside
            (sym (ap sequence_stop before.is) ∙ from.unstopped)

        group : group_since has_stop (goes_on walk.walk Falls fall.next) ≡ end_of walk.walk ∷ group_since has_stop walk.walk
        group = falls_group has_stop walk.walk fall.next unstopped

        first : end_of from.before ≡ i
        first = subst (λ (l : List Place). IsLatest l i) from.group is_latest

        clears : clears_at (over_program p) (at n) ≡ true
        clears =
            sym (clears_same sequence p at n (there sequence p at spread n before.inside))
            ∙ ap (clears_at (over_sequence sequence)) (sym before.is ∙ first)
            ∙ clearing

    -- By the rule.
    violated_by : (rule : Rule) → Breaks (over_sequence sequence) sequence_stop u i rule q → Violated
    violated_by Raw b = let m = first_by b.clashes.first b.clashes.of_first in clash_in_program Raw m (unexcused_in_program Raw m b)
    violated_by Waw b = let m = first_by b.clashes.first b.clashes.of_first in clash_in_program Waw m (unexcused_in_program Waw m b)
    violated_by War63 b =
        let m = first_by b.first b.of_first in
        clash_in_program War63 m (clashes_along (over_sequence sequence) (over_program p) i (end_of u) (at m.number)
        (end_of w.walk) War63 q (same_at i m) same_end b)
    violated_by AllocFirst b = alloc_in_program b.0 b.2
    violated_by ClearLast b = clear_in_program b.0 b.1 b.2

pub violated_in_the_program : ViolatedInTheProgram
violated_in_the_program sequence p at sequence_stop has_stop program spread stops v x =
    violated_by sequence p at sequence_stop has_stop program spread stops x.walk x.there.walks v.first v.resource x.inside v.rule x.breaks
