-- Where the program has a violation the sequence has one.
use Rattle.std.proofs.Common.{◌≡◌, ℕ, zero, suc, ◌+◌, ◌<◌, Bool, true, false, ◌⊎◌, inl, inr, List, ◌∷◌, length, Some, refl, sym, ap, ◌∙◌, subst, arith}
use Rattle.std.specs.Prelude.{Contains}
use Rattle.std.proofs.lemmas.Bool.{cases_eq, true≢false}
use Rattle.std.proofs.lemmas.Option.{none-some}
use Rattle.ia_program.specs.declared.place.Place.{Place}
use Rattle.ia_program.specs.Places.{IsBefore, IsNext, IsPlaceOf}
use Rattle.ia_program.specs.Programs.{Program, IsProgram}
use Rattle.ia_meaning.specs.Sequence.{first_of, next_of}
use Rattle.ia_meaning.proofs.Follows.{next_is}
use Rattle.resource_sets.specs.declared.access.Resource.TheVariants.{Cfm}
use Rattle.resource_sets.specs.declared.access.Resource.{Resource}
use Rattle.resource_sets.specs.declared.access.Access.{Access}
use Rattle.resource_sets.specs.declared.clashes.Rule.{Rule}
use Rattle.resource_sets.specs.declared.clashes.Rule.TheVariants.{Raw, Waw, War63, AllocFirst, ClearLast}
use Rattle.resource_sets.specs.Clashes.{may_write_guard}
use Rattle.resource_sets.proofs.Members.{in_head, in_tail}
use Rattle.predicate_rel.specs.declared.edge.Edge.TheVariants.{Falls}
use Rattle.predicate_rel.specs.Pairs.{Pairs}
use Rattle.flow_facts.specs.Graphs.{InsnSequence, over_program, over_sequence, IsEdgeIn}
use Rattle.flow_facts.specs.Walks.{Walk, end_of, IsWalkIn, group_since}
use Rattle.order_laws.specs.declared.violation.Violation.{Violation}
use Rattle.order_laws.specs.Excuses.{accesses_at, IsExcused, IsLatest}
use Rattle.order_laws.specs.Violations.{Clashes, ClashesUnexcused, Breaks, ViolatesIn, allocates_at, clears_at}
use Rattle.order_laws.proofs.Falling.{ComesFrom, before_trans, comes_from, edge_inside, falls_next, place_cases, same_before}
use Rattle.sequence_laws.specs.Laws.{ViolatedInTheSequence}
use Rattle.sequence_laws.specs.Spreads.{IsSpread, IsBetween, AreStops, KeepsSlotRules}
use Rattle.sequence_laws.proofs.Rows.{sequence_next_is}
use Rattle.sequence_laws.proofs.Allocating.{none_before_first, in_group}
use Rattle.sequence_laws.proofs.Groups.{has_latest}
use Rattle.sequence_laws.proofs.Between.{IsFirstFrom, at_place, first_at, first_next, there}
use Rattle.sequence_laws.proofs.Alike.{IsOwn, IsIdle, own_or_idle, accessing_own, accesses_same, allocates_same, clears_same, clashes_along, unexcused_along}
use Rattle.sequence_laws.proofs.Back.{HasCounterpart, IsClear, clear_at, back}

-- The sequence has a violation.
abbrev IsViolated : InsnSequence → (Place → Bool) → Type 0
IsViolated sequence sequence_stop = (u : Violation) × ViolatesIn (over_sequence sequence) sequence_stop u

-- A slot of a walk's group and the walk's last one are instructions of the sequence, and the walk has a counterpart.
pub record IsOfOwn (sequence : InsnSequence) (p : Program) (at : ℕ → Place) (sequence_stop has_stop : Place → Bool) (w : Walk)
    (i : Place) : Type 0 where
  pub first : IsOwn sequence at i
  pub second : IsOwn sequence at (end_of w)
  pub counterpart : HasCounterpart sequence p at sequence_stop has_stop w second.number

module _ (sequence : InsnSequence) (p : Program) (at : ℕ → Place) (sequence_stop has_stop : Place → Bool) (program : IsProgram p)
    (spread : IsSpread sequence p at) (stops : AreStops sequence p at sequence_stop has_stop) where
  -- Two slots that both access something are instructions of the sequence.
  both_own : (w : Walk) (i : Place) (a b : Access) → IsWalkIn (over_program p) w → Contains (accesses_at (over_program p) i) a
      → Contains (accesses_at (over_program p) (end_of w)) b → IsOfOwn sequence p at sequence_stop has_stop w i
  both_own w i a b is of_first of_second = record {
    first = accessing_own sequence p at i a spread of_first;
    second = second;
    counterpart =
        back sequence p at sequence_stop has_stop program spread stops w is second.number
        (subst (IsFirstFrom sequence at second.number) (sym second.is) (first_at sequence p at spread second.number second.inside));
  }
    where
      second : IsOwn sequence at (end_of w)
      second = accessing_own sequence p at (end_of w) b spread of_second

  -- The instructions of the walk's group are in that of the counterpart.
  group_kept : (w : Walk) (i : Place) (both : IsOfOwn sequence p at sequence_stop has_stop w i) (k : Place) → (own : IsOwn sequence at k)
      → Contains (group_since has_stop w) k → Contains (group_since sequence_stop both.counterpart.walk) (first_of own.number)
  group_kept w i both k own inside =
      both.counterpart.group (clear_at p at has_stop (end_of w) both.second.number both.second.is) own.number own.inside
      (subst (Contains (group_since has_stop w)) own.is inside)

  -- The first slot accesses the same in the sequence.
  first_same : (w : Walk) (i : Place) (both : IsOfOwn sequence p at sequence_stop has_stop w i)
      → accesses_at (over_program p) i ≡ accesses_at (over_sequence sequence) (first_of both.first.number)
  first_same w i both =
      ap (accesses_at (over_program p)) both.first.is ∙ sym (accesses_same sequence p at both.first.number
      (there sequence p at spread both.first.number both.first.inside))

  -- The last slot accesses the same in the sequence.
  second_same : (w : Walk) (i : Place) (both : IsOfOwn sequence p at sequence_stop has_stop w i)
      → accesses_at (over_program p) (end_of w) ≡ accesses_at (over_sequence sequence) (end_of both.counterpart.walk)
  second_same w i both =
      ap (accesses_at (over_program p)) both.second.is
      ∙ sym (accesses_same sequence p at both.second.number (there sequence p at spread both.second.number both.second.inside))
      ∙ sym (ap (accesses_at (over_sequence sequence)) both.counterpart.there.ends)

  -- What excuses two accesses in the sequence excuses them in the program.
  excused_forth : (w : Walk) (i : Place) (both : IsOfOwn sequence p at sequence_stop has_stop w i) (first second : ℕ)
      → IsExcused (over_sequence sequence) sequence_stop both.counterpart.walk (first_of both.first.number) first second
      → IsExcused (over_program p) has_stop w i first second
  excused_forth w i both first second x = record {
    known = sym (ap (λ (f : Pairs). f first second) both.counterpart.facts) ∙ x.known;
    unwritten = λ k inside up. of k inside up (own_or_idle sequence p at k spread);
  }
    where
      own_up : (k : Place) (own : IsOwn sequence at k) → ¬ IsBefore k i → ¬ IsBefore (first_of own.number) (first_of both.first.number)
      own_up k own up (inl less) =
          up (subst (λ (q : Place). IsBefore q i) (sym own.is) (subst (IsBefore (at own.number)) (sym both.first.is)
          (spread.rises own.number both.first.number less both.first.inside)))
      own_up k own up (inr (same, less)) = omega arith

      of : (k : Place) → Contains (group_since has_stop w) k → ¬ IsBefore k i → IsOwn sequence at k ⊎ IsIdle p k
          → may_write_guard first (accesses_at (over_program p) k) ≡ false
      of k inside up (inl own) =
          ap (may_write_guard first) (ap (accesses_at (over_program p)) own.is
          ∙ sym (accesses_same sequence p at own.number (there sequence p at spread own.number own.inside)))
          ∙ x.unwritten (first_of own.number) (group_kept w i both k own inside) (own_up k own up)
      of k inside up (inr idle) = ap (may_write_guard first) idle.accesses

  -- The pair in the sequence.
  of_pair : (w : Walk) (i : Place) (both : IsOfOwn sequence p at sequence_stop has_stop w i) (rule : Rule) (q : Resource)
      → Contains (group_since has_stop w) i → Breaks (over_sequence sequence) sequence_stop both.counterpart.walk
      (first_of both.first.number) rule q → IsViolated sequence sequence_stop
  of_pair w i both rule q inside breaks = (
    record { second = first_of both.second.number; first = first_of both.first.number; rule = rule; resource = q },
    record {
      walk = both.counterpart.walk;
      there = both.counterpart.there;
      inside = group_kept w i both i both.first inside;
      breaks = breaks;
    },
  )

  -- Accesses that clash in the program clash in the sequence.
  clashed_in_sequence : (w : Walk) (i : Place) (rule : Rule) (q : Resource) (both : IsOfOwn sequence p at sequence_stop has_stop w i)
      → Clashes (over_program p) i (end_of w) rule q → Clashes (over_sequence sequence) (first_of both.first.number)
      (end_of both.counterpart.walk) rule q
  clashed_in_sequence w i rule q both c =
      clashes_along (over_program p) (over_sequence sequence) i (end_of w) (first_of both.first.number)
      (end_of both.counterpart.walk) rule q (first_same w i both) (second_same w i both) c

  -- Accesses that clash unexcused in the program clash unexcused in the sequence.
  unexcused_in_sequence : (w : Walk) (i : Place) (rule : Rule) (q : Resource) (both : IsOfOwn sequence p at sequence_stop has_stop w i)
      → ClashesUnexcused (over_program p) has_stop w i rule q → ClashesUnexcused (over_sequence sequence) sequence_stop
      both.counterpart.walk (first_of both.first.number) rule q
  unexcused_in_sequence w i rule q both c =
      unexcused_along (over_program p) (over_sequence sequence) has_stop sequence_stop w both.counterpart.walk i
      (first_of both.first.number) rule q
      (first_same w i both) (second_same w i both) (excused_forth w i both) c

module _ (sequence : InsnSequence) (p : Program) (at : ℕ → Place) (sequence_stop has_stop : Place → Bool) (program : IsProgram p)
    (spread : IsSpread sequence p at) (stops : AreStops sequence p at sequence_stop has_stop)
    (rules : KeepsSlotRules sequence p at has_stop) (w : Walk) (walks : IsWalkIn (over_program p) w) (i : Place) (q : Resource)
    (inside : Contains (group_since has_stop w) i) where
  -- Two slots clash.
  clash_in_sequence : (rule : Rule) → (c : Clashes (over_program p) i (end_of w) rule q)
      → ((both : IsOfOwn sequence p at sequence_stop has_stop w i)
      → Breaks (over_sequence sequence) sequence_stop both.counterpart.walk (first_of both.first.number) rule q)
      → IsViolated sequence sequence_stop
  clash_in_sequence rule c breaks =
      let both = both_own sequence p at sequence_stop has_stop program spread stops w i c.first c.second walks c.of_first c.of_second in
      of_pair sequence p at sequence_stop has_stop program spread stops w i both rule q inside (breaks both)

  -- The last step.
  from : ComesFrom (over_program p) has_stop w
  from = comes_from (over_program p) has_stop w i walks inside

  next : IsNext p.bundles (end_of from.before) (end_of w)
  next = next_is p.bundles (end_of from.before) (end_of w) (falls_next (over_program p) (end_of from.before) (end_of w) from.edge)

  -- An `alloc` that isn't the first of the sequence, and in whose group a slot comes before it.
  module _ (n : ℕ) (below : n + 1 < length sequence.insns) (same : end_of w ≡ at (n + 1))
      (allocates : allocates_at (over_sequence sequence) (first_of (n + 1)) ≡ true) where
    -- No stop comes between it and the instruction before it: one would follow the place right before it.
    alloc_clear : IsClear p at has_stop (at n) (n + 1)
    alloc_clear = record { unstopped = λ place is up under. of place is up under (has_stop place) refl }
      where
        of : (place : Place) → IsPlaceOf p.bundles place → ¬ IsBefore place (at n) → IsBefore place (at (n + 1)) → (b : Bool)
            → has_stop place ≡ b → has_stop place ≡ false
        of place is up under false e = e
        of place is up under true e =
            let leads = rules.alloc_stop n below allocates place (record { is = is; from = up; below = under }) e in
            let last =
            subst (λ (k : Place). next_of p.bundles (end_of from.before) ≡ Some k) same
            (falls_next (over_program p) (end_of from.before) (end_of w) from.edge) in
            ap has_stop (same_before (over_program p) place (end_of from.before)
            (at (n + 1)) is (edge_inside (over_program p) (end_of from.before) Falls (end_of w) from.edge) leads last)
            ∙ from.unstopped

    -- The instruction before it is in its group.
    alloc_group : Contains (group_since has_stop w) (at n)
    alloc_group = subst (λ (l : List Place). Contains l (at n)) (sym from.group) (of (place_cases (at n) (end_of from.before)))
      where
        of : IsBefore (at n) (end_of from.before) ⊎ ((at n ≡ end_of from.before) ⊎ IsBefore (end_of from.before) (at n))
            → Contains (end_of from.before ∷ group_since has_stop from.before) (at n)
        of (inl less) =
            in_tail (end_of from.before) (at n) (group_since has_stop from.before)
            (in_group sequence p at has_stop spread rules n below allocates from.before from.walks alloc_clear less
            (subst (IsBefore (end_of from.before)) same next.after))
        of (inr (inl is)) = in_head (end_of from.before) (at n) (group_since has_stop from.before) (sym is)
        of (inr (inr more)) =
            absurd (next.first (at n) (at_place sequence p at spread n (omega arith)) more
            (subst (IsBefore (at n)) (sym same) (spread.rises n (n + 1) (omega arith) below)))

    alloc_behind : q ≡ Cfm → IsViolated sequence sequence_stop
    alloc_behind of_frame =
        let u =
        back sequence p at sequence_stop has_stop program spread stops w walks (n + 1)
        (subst (IsFirstFrom sequence at (n + 1)) (sym same) (first_at sequence p at spread (n + 1) below)) in
        let latest =
        has_latest (group_since sequence_stop u.walk) (first_of n)
        (u.group (clear_at p at has_stop (end_of w) (n + 1) same) n (omega arith) alloc_group) in (
          record { second = first_of (n + 1); first = latest.place; rule = AllocFirst; resource = q },
          record {
            walk = u.walk;
            there = u.there;
            inside = latest.inside;
            breaks = (ap (allocates_at (over_sequence sequence)) u.there.ends ∙ allocates, latest.latest, of_frame);
          },
        )

  -- An `alloc` of the sequence is in the program where a slot comes before it.
  alloc_in_sequence : allocates_at (over_program p) (end_of w) ≡ true → q ≡ Cfm → IsViolated sequence sequence_stop
  alloc_in_sequence allocates of_frame = of (own_or_idle sequence p at (end_of w) spread)
    where
      numbers : (b : ℕ) → (b ≡ 0) ⊎ ((n : ℕ) × (b ≡ n + 1))
      numbers zero = inl refl
      numbers (suc n) = inr (n, omega arith)

      by_number : (b : ℕ) → b < length sequence.insns → end_of w ≡ at b → allocates_at (over_sequence sequence) (first_of b) ≡ true
          → (b ≡ 0) ⊎ ((n : ℕ) × (b ≡ n + 1)) → IsViolated sequence sequence_stop
      by_number b below same first (inl none) =
          absurd (none_before_first sequence p at has_stop spread rules (end_of from.before) program
          (ap (λ (k : ℕ). allocates_at (over_sequence sequence) (first_of k)) (sym none) ∙ first)
          (subst (IsBefore (end_of from.before)) (same ∙ ap at none) next.after))
      by_number b below same first (inr (n, number)) =
          alloc_behind n (omega (arith, number)) (same ∙ ap at number)
          (ap (λ (k : ℕ). allocates_at (over_sequence sequence) (first_of k)) (sym number) ∙ first) of_frame

      of : IsOwn sequence at (end_of w) ⊎ IsIdle p (end_of w) → IsViolated sequence sequence_stop
      of (inr idle) = absurd (true≢false (sym allocates ∙ idle.allocates))
      of (inl own) =
          by_number own.number own.inside own.is
          (allocates_same sequence p at own.number (there sequence p at spread own.number own.inside)
          ∙ ap (allocates_at (over_program p)) (sym own.is) ∙ allocates)
          (numbers own.number)

  -- A `clrrrb` of the sequence that isn't the last, and behind which a slot comes in its group.
  module _ (n : ℕ) (below : n < length sequence.insns) (same : end_of from.before ≡ at n)
      (clearing : clears_at (over_sequence sequence) (first_of n) ≡ true) where
    behind : IsNext p.bundles (at n) (end_of w)
    behind = subst (λ (k : Place). IsNext p.bundles k (end_of w)) same next

    not_last : n + 1 < length sequence.insns
    not_last = of (cases_eq (n + 1) (length sequence.insns))
      where
        of : (n + 1 ≡ length sequence.insns) ⊎ (n + 1 ≡ length sequence.insns → ⊥) → n + 1 < length sequence.insns
        of (inl last) =
            let none = rules.clear_last n last clearing in
            let some = ap (next_of p.bundles) (sym same) ∙ falls_next (over_program p) (end_of from.before) (end_of w) from.edge in
            absurd (none-some (end_of w) (sym none ∙ some))
        of (inr more) = omega arith

    -- No stop comes between: one would follow it right away.
    cleared : IsClear p at has_stop (end_of w) (n + 1)
    cleared = record { unstopped = λ place is up under. of place is up under (has_stop place) refl }
      where
        of : (place : Place) → IsPlaceOf p.bundles place → ¬ IsBefore place (end_of w) → IsBefore place (at (n + 1)) → (b : Bool)
            → has_stop place ≡ b → has_stop place ≡ false
        of place is up under false e = e
        of place is up under true e =
            let between : IsBetween p at n place =
            record { is = is; from = λ less. up (before_trans place (at n) (end_of w) less behind.after); below = under } in
            let right_away = rules.clear_stop n not_last clearing place between e in
            absurd (up (subst (λ (k : Place). IsBefore k (end_of w)) (sym right_away) behind.after))

    clear_behind : q ≡ Cfm → IsViolated sequence sequence_stop
    clear_behind of_frame = (
      record { second = first_of (n + 1); first = first_of n; rule = ClearLast; resource = q },
      record { walk = u.walk; there = u.there; inside = kept; breaks = (clearing, latest, of_frame) },
    )
      where
        u : HasCounterpart sequence p at sequence_stop has_stop w (n + 1)
        u =
            back sequence p at sequence_stop has_stop program spread stops w walks (n + 1)
            (first_next sequence p at spread n (end_of w) not_last behind)

        own_inside : Contains (group_since has_stop w) (at n)
        own_inside =
            subst (λ (l : List Place). Contains l (at n)) (sym from.group)
            (in_head (end_of from.before) (at n) (group_since has_stop from.before) same)

        kept : Contains (group_since sequence_stop u.walk) (first_of n)
        kept = u.group cleared n below own_inside

        last : ComesFrom (over_sequence sequence) sequence_stop u.walk
        last = comes_from (over_sequence sequence) sequence_stop u.walk (first_of n) u.there.walks kept

        fell : IsEdgeIn (over_sequence sequence) (end_of last.before) Falls (first_of (n + 1))
        fell = subst (IsEdgeIn (over_sequence sequence) (end_of last.before) Falls) u.there.ends last.edge

        from_clear : end_of last.before ≡ first_of n
        from_clear =
            let here = there sequence p at spread n below in
            same_before (over_sequence sequence) (end_of last.before) (first_of n) (first_of (n + 1))
            (edge_inside (over_sequence sequence) (end_of last.before) Falls (first_of (n + 1)) fell) (rw here.in_sequence refl)
            (falls_next (over_sequence sequence) (end_of last.before) (first_of (n + 1)) fell) (sequence_next_is sequence.insns n not_last)

        latest : IsLatest (group_since sequence_stop u.walk) (first_of n)
        latest = subst (λ (l : List Place). IsLatest l (first_of n)) (sym last.group) from_clear

  -- A `clrrrb` of the sequence is in the program where a slot comes behind it.
  clear_in_sequence : clears_at (over_program p) i ≡ true → IsLatest (group_since has_stop w) i → q ≡ Cfm
      → IsViolated sequence sequence_stop
  clear_in_sequence clearing is_latest of_frame = of (own_or_idle sequence p at i spread)
    where
      ends : end_of from.before ≡ i
      ends = subst (λ (l : List Place). IsLatest l i) from.group is_latest

      of : IsOwn sequence at i ⊎ IsIdle p i → IsViolated sequence sequence_stop
      of (inr idle) = absurd (true≢false (sym clearing ∙ idle.clears))
      of (inl own) =
          clear_behind own.number own.inside (ends ∙ own.is)
          (clears_same sequence p at own.number (there sequence p at spread own.number own.inside)
          ∙ ap (clears_at (over_program p)) (sym own.is) ∙ clearing)
          of_frame

  -- By the rule.
  violated_by : (rule : Rule) → Breaks (over_program p) has_stop w i rule q → IsViolated sequence sequence_stop
  violated_by Raw b =
      clash_in_sequence Raw b.clashes (λ both. unexcused_in_sequence sequence p at sequence_stop has_stop program spread stops w i Raw q
      both b)
  violated_by Waw b =
      clash_in_sequence Waw b.clashes (λ both. unexcused_in_sequence sequence p at sequence_stop has_stop program spread stops w i Waw q
      both b)
  violated_by War63 b =
      clash_in_sequence War63 b (λ both. clashed_in_sequence sequence p at sequence_stop has_stop program spread stops w i War63 q both b)
  violated_by AllocFirst b = alloc_in_sequence b.0 b.2
  violated_by ClearLast b = clear_in_sequence b.0 b.1 b.2

pub violated_in_the_sequence : ViolatedInTheSequence
violated_in_the_sequence sequence p at sequence_stop has_stop program spread stops rules v x =
    violated_by sequence p at sequence_stop has_stop program spread stops rules x.walk x.there.walks v.first v.resource x.inside v.rule
    x.breaks
