-- In a group that reaches an `alloc` of the sequence over places without a stop is the instruction before it.
use Rattle.std.proofs.Common.{◌≡◌, ℕ, ◌+◌, ◌<◌, Bool, true, ◌⊎◌, inl, inr, length, refl, sym, ap, ◌∙◌, subst, arith}
use Rattle.std.specs.Prelude.{Contains}
use Rattle.std.proofs.lemmas.Bool.{cases_eq}
use Rattle.ia_program.specs.declared.place.Place.{Place}
use Rattle.ia_program.specs.Places.{IsBefore, IsNext, IsPlaceOf}
use Rattle.ia_program.specs.Programs.{Program, IsProgram}
use Rattle.ia_program.proofs.Reaching.{same_place}
use Rattle.ia_meaning.specs.Sequence.{first_of}
use Rattle.predicate_rel.specs.declared.edge.Edge.TheVariants.{Falls, Taken}
use Rattle.predicate_rel.specs.Edges.{HasEdge}
use Rattle.predicate_rel.proofs.EdgeEnds.{falls_next}
use Rattle.flow_facts.specs.Graphs.{InsnSequence, over_program, over_sequence}
use Rattle.flow_facts.specs.Walks.{Walk, begins, goes_on, end_of, IsWalkIn, group_since}
use Rattle.order_laws.specs.Violations.{allocates_at}
use Rattle.order_laws.proofs.Falling.{before_trans, not_before_itself, place_cases}
use Rattle.sequence_laws.specs.Spreads.{IsSpread, KeepsSlotRules, IsHead}
use Rattle.sequence_laws.proofs.Rows.{sequence_inside}
use Rattle.sequence_laws.proofs.Between.{IsFirstFrom, Stands, own, filler, at_place, stands, first_once, first_landing}
use Rattle.sequence_laws.proofs.Edges.{walk_place, taken_to_first, filler_untaken}
use Rattle.sequence_laws.proofs.Groups.{joins}
use Rattle.sequence_laws.proofs.Back.{IsClear}

module _ (sequence : InsnSequence) (p : Program) (at : ℕ → Place) (has_stop : Place → Bool) (spread : IsSpread sequence p at)
    (rules : KeepsSlotRules sequence p at has_stop) where
  -- The first instruction of the sequence, where it is an `alloc`, has no place before it.
  pub none_before_first : (place : Place) → IsProgram p → allocates_at (over_sequence sequence) (first_of 0) ≡ true → IsBefore place (at 0)
      → ⊥
  none_before_first place program allocates before =
      let slot : (at 0).slot ≡ 0 = rules.alloc_head 0 allocates (λ k less. absurd (omega arith)) in
      let (m, entry, is, head) = spread.entries 0 (record { inside = program.counts.some; kind = inl refl }) in
      of (low m is head (cases_eq m 0)) slot before
    where
      low : (m : ℕ) → (at m).bundle ≡ 0 → IsHead at m → (m ≡ 0) ⊎ (m ≡ 0 → ⊥) → (at 0).bundle ≡ 0
      low m is head (inl same) = ap (λ (k : ℕ). (at k).bundle) (sym same) ∙ is
      low m is head (inr more) = absurd (let above = head 0 (omega arith) in omega (arith, is, above))

      of : (at 0).bundle ≡ 0 → (at 0).slot ≡ 0 → IsBefore place (at 0) → ⊥
      of bundle slot (inl less) = omega (arith, bundle)
      of bundle slot (inr (same, less)) = omega (arith, slot)

  module _ (n : ℕ) (inside : n + 1 < length sequence.insns) (allocates : allocates_at (over_sequence sequence) (first_of (n + 1)) ≡ true)
    where
      -- No walk begins or lands between the two: the first place of the bundle is the `alloc`'s.
      none_lands : (m bundle : ℕ) → m < length sequence.insns → (at m).bundle ≡ bundle → IsHead at m → IsBefore (at n) (first_of bundle)
          → IsBefore (first_of bundle) (at (n + 1)) → ⊥
      none_lands m bundle below is head behind before = not_before_itself (first_of bundle) (subst (IsBefore (first_of bundle)) there before)
        where
          here : IsFirstFrom sequence at (n + 1) (first_of bundle)
          here = record {
            inside = inside;
            from = λ after. not_before_itself (at (n + 1)) (before_trans (at (n + 1)) (first_of bundle) (at (n + 1)) after before);
            first = λ k less. elim (cases_eq k n) [
              | inl same ↦ subst (λ (j : ℕ). IsBefore (at j) (first_of bundle)) (sym same) behind
              | inr apart ↦ before_trans (at k) (at n) (first_of bundle) (spread.rises k n (omega arith) (omega arith)) behind
            ];
          }

          same : m ≡ n + 1
          same = first_once sequence p at spread m (n + 1) (first_of bundle) (first_landing sequence p at spread m bundle below is head) here

          there : at (n + 1) ≡ first_of bundle
          there =
              same_place (at (n + 1)) (first_of bundle) (ap (λ (k : ℕ). (at k).bundle) (sym same) ∙ is)
              (rules.alloc_head (n + 1) allocates (subst (IsHead at) same head))

      none_taken : (w : Walk) (to : Place) → HasEdge p (end_of w) Taken to → Stands sequence p at (end_of w) → IsBefore (at n) to
          → IsBefore to (at (n + 1)) → ⊥
      none_taken w to edge (own k below same) behind before =
          let lands = taken_to_first p (end_of w) to edge in
          let (m, sequence_edge, is, head) =
          spread.targets to.bundle k below (subst (HasEdge p (at k) Taken) lands
          (subst (λ (q : Place). HasEdge p q Taken to) same edge)) in
          none_lands m to.bundle (sequence_inside sequence.insns m sequence_edge.lands) is head (subst (IsBefore (at n)) lands behind)
          (subst (λ (q : Place). IsBefore q (at (n + 1))) lands before)
      none_taken w to edge (filler i here nop none) behind before = filler_untaken p (end_of w) to i here nop edge

      -- A walk to a place between the two has the first one in its group, where no stop follows a place between them.
      pub in_group : (w : Walk) → IsWalkIn (over_program p) w → IsClear p at has_stop (at n) (n + 1) → IsBefore (at n) (end_of w)
          → IsBefore (end_of w) (at (n + 1)) → Contains (group_since has_stop w) (at n)
      in_group (begins bundle) is clear behind before =
          let (m, entry, same, head) = spread.entries bundle is in
          absurd (none_lands m bundle entry.inside same head behind before)
      in_group (goes_on w Taken to) is clear behind before =
          absurd (none_taken w to is.1 (stands sequence p at spread (end_of w) (walk_place p w is.0)) behind before)
      in_group (goes_on w Falls to) is clear behind before =
          fallen w to (falls_next p (end_of w) to is.1) (walk_place p w is.0) clear behind before (in_group w is.0 clear)
          (place_cases (at n) (end_of w))
        where
          fallen : (w : Walk) (to : Place) → IsNext p.bundles (end_of w) to → IsPlaceOf p.bundles (end_of w)
              → IsClear p at has_stop (at n) (n + 1) → IsBefore (at n) to → IsBefore to (at (n + 1))
              → (IsBefore (at n) (end_of w) → IsBefore (end_of w) (at (n + 1)) → Contains (group_since has_stop w) (at n))
              → IsBefore (at n) (end_of w) ⊎ ((at n ≡ end_of w) ⊎ IsBefore (end_of w) (at n))
              → Contains (group_since has_stop (goes_on w Falls to)) (at n)
          fallen w to next is clear behind before again (inl less) =
              let up = before_trans (end_of w) to (at (n + 1)) next.after before in
              joins has_stop w to (at n) record {
                unstopped =
                    clear.unstopped (end_of w) is (λ below. not_before_itself (at n) (before_trans (at n) (end_of w) (at n) less below)) up;
                is = inr (again less up);
              }
          fallen w to next is clear behind before again (inr (inl same)) =
              joins has_stop w to (at n) record {
                unstopped =
                    clear.unstopped (end_of w) is (λ below. not_before_itself (end_of w) (subst (IsBefore (end_of w)) same below))
                    (before_trans (end_of w) to (at (n + 1)) next.after before);
                is = inl (sym same);
              }
          fallen w to next is clear behind before again (inr (inr more)) =
              absurd (next.first (at n) (at_place sequence p at spread n (omega arith)) more behind)
