-- From a walk of the program back to one of the sequence, with the same facts.
use Rattle.std.proofs.Common.{◌≡◌, ℕ, ◌+◌, ◌<◌, Bool, true, false, ◌⊎◌, inl, inr, length, refl, sym, ap, ◌∙◌, subst, arith}
use Rattle.std.specs.Prelude.{Contains}
use Rattle.std.proofs.lemmas.Bool.{true≢false}
use Rattle.std.proofs.lemmas.Option.{same_Some}
use Rattle.ia_program.specs.declared.place.Place.{Place}
use Rattle.ia_program.specs.Places.{IsBefore, IsNext, IsPlaceOf}
use Rattle.ia_program.specs.Programs.{Program, IsProgram, IsEntry}
use Rattle.ia_meaning.specs.Sequence.{first_of}
use Rattle.resource_sets.proofs.Members.{not_in_none}
use Rattle.predicate_rel.specs.declared.edge.Edge.TheVariants.{Falls, Taken}
use Rattle.predicate_rel.specs.Edges.{HasEdge, may_fall}
use Rattle.predicate_rel.proofs.EdgeEnds.{falls_next}
use Rattle.flow_facts.specs.Graphs.{InsnSequence, over_program, over_sequence, known_at_entry, HasSequenceEdge}
use Rattle.flow_facts.specs.Walks.{Walk, begins, goes_on, end_of, IsWalkIn, EndsIn, facts_in, group_since}
use Rattle.order_laws.proofs.Falling.{fall_edge, fall_is, place_cases}
use Rattle.sequence_laws.specs.Spreads.{IsSpread, AreStops}
use Rattle.sequence_laws.proofs.Rows.{sequence_inside, sequence_next_is}
use Rattle.sequence_laws.proofs.Fillers.{walk_bounded, filler_past}
use Rattle.sequence_laws.proofs.Between.{IsThere, IsFirstFrom, Stands, own, filler, there, stands, at_once, first_at, first_once, first_landing, first_behind_own, first_before_filler}
use Rattle.sequence_laws.proofs.Edges.{same_facts, walk_place, taken_to_first, filler_untaken}
use Rattle.sequence_laws.proofs.Groups.{joined, joins}

-- No stop follows a place from this one on and before the n-th instruction.
pub record IsClear (p : Program) (at : ℕ → Place) (has_stop : Place → Bool) (from : Place) (n : ℕ) : Type 0 where
  pub unstopped : (place : Place) → IsPlaceOf p.bundles place → ¬ IsBefore place from → IsBefore place (at n) → has_stop place ≡ false

-- No stop stands between the place of the n-th instruction and that instruction.
pub clear_at : (p : Program) (at : ℕ → Place) (has_stop : Place → Bool) (from : Place) (n : ℕ) → from ≡ at n → IsClear p at has_stop from n
clear_at p at has_stop from n same = record { unstopped = λ place is up below. absurd (up (subst (IsBefore place) (sym same) below)) }

-- No stop stands from a place up to the n-th instruction where none follows the place, and none stands from the next one on.
pub clear_before : (p : Program) (at : ℕ → Place) (has_stop : Place → Bool) (from next : Place) (n : ℕ) → IsNext p.bundles from next
    → has_stop from ≡ false → IsClear p at has_stop next n → IsClear p at has_stop from n
clear_before p at has_stop from next n is unstopped clear =
    record { unstopped = λ place there up below. of place there up below (place_cases place from) }
  where
    of : (place : Place) → IsPlaceOf p.bundles place → ¬ IsBefore place from → IsBefore place (at n)
        → IsBefore place from ⊎ ((place ≡ from) ⊎ IsBefore from place) → has_stop place ≡ false
    of place there up below (inl less) = absurd (up less)
    of place there up below (inr (inl same)) = ap has_stop same ∙ unstopped
    of place there up below (inr (inr more)) = clear.unstopped place there (is.first place there more) below

-- A walk of the sequence goes to its n-th instruction with what is known on a walk of the program, and with the
-- instructions of that walk's group where no stop comes up to the n-th.
pub record HasCounterpart (sequence : InsnSequence) (p : Program) (at : ℕ → Place) (sequence_stop has_stop : Place → Bool) (w : Walk)
    (n : ℕ) : Type 0 where
  pub walk : Walk
  pub there : EndsIn (over_sequence sequence) (first_of n) walk
  pub facts : facts_in (over_sequence sequence) walk ≡ facts_in (over_program p) w
  pub group : IsClear p at has_stop (end_of w) n → (k : ℕ) → k < length sequence.insns → Contains (group_since has_stop w) (at k)
      → Contains (group_since sequence_stop walk) (first_of k)

module _ (sequence : InsnSequence) (p : Program) (at : ℕ → Place) (sequence_stop has_stop : Place → Bool) (program : IsProgram p)
    (spread : IsSpread sequence p at) (stops : AreStops sequence p at sequence_stop has_stop) where
  abbrev Counterpart : Walk → ℕ → Type 0
  Counterpart w n = HasCounterpart sequence p at sequence_stop has_stop w n

  -- Where no stop of the program comes between two neighbours none of the sequence does.
  unstopped_sequence : (n : ℕ) → n + 1 < length sequence.insns → IsClear p at has_stop (at n) (n + 1) → sequence_stop (first_of n) ≡ false
  unstopped_sequence n inside clear = of (sequence_stop (first_of n)) refl
    where
      of : (b : Bool) → sequence_stop (first_of n) ≡ b → sequence_stop (first_of n) ≡ false
      of true e =
          let (place, between, stop) = stops.stopped n inside e in
          absurd (true≢false (sym stop ∙ clear.unstopped place between.is between.from between.below))
      of false e = e

  -- A walk that begins at an entry.
  back_entry : (bundle n : ℕ) → IsEntry p bundle → IsFirstFrom sequence at n (first_of bundle) → Counterpart (begins bundle) n
  back_entry bundle n entry first =
      let (m, sequence_entry, is, head) = spread.entries bundle entry in
      let same : n ≡ m =
      first_once sequence p at spread n m (first_of bundle) first
      (first_landing sequence p at spread m bundle sequence_entry.inside is head) in
      subst (λ (k : ℕ). Counterpart (begins bundle) k) (sym same) record {
        walk = begins m;
        there = record { walks = sequence_entry; ends = refl };
        facts = spread.known m sequence_entry ∙ ap (known_at_entry p.relations) is;
        group = λ clear k inside c. absurd (not_in_none (at k) c);
      }

  -- One that goes on along a taken edge of an instruction.
  back_taken : (w : Walk) (to : Place) (m n : ℕ) → m < length sequence.insns → end_of w ≡ at m → HasEdge p (end_of w) Taken to
      → IsFirstFrom sequence at n to → Counterpart w m → Counterpart (goes_on w Taken to) n
  back_taken w to m n inside same edge first before =
      let lands = taken_to_first p (end_of w) to edge in
      let (k, sequence_edge, is, head) =
      spread.targets to.bundle m inside (subst (HasEdge p (at m) Taken) lands
      (subst (λ (q : Place). HasEdge p q Taken to) same edge)) in
      let from : IsFirstFrom sequence at k to =
      subst (IsFirstFrom sequence at k) (sym lands) (first_landing sequence p at spread k to.bundle
      (sequence_inside sequence.insns k sequence_edge.lands) is head) in
      subst (λ (j : ℕ). Counterpart (goes_on w Taken to) j) (sym (first_once sequence p at spread n k to first from)) record {
        walk = goes_on before.walk Taken (first_of k);
        there = record {
          walks = (
            before.there.walks,
            subst (λ (q : Place). HasSequenceEdge sequence q Taken (first_of k))
                (sym before.there.ends) sequence_edge,
          );
          ends = refl;
        };
        facts =
            same_facts sequence p at m before.walk w Taken (first_of k) to (there sequence p at spread m inside) before.there.ends same
            before.facts;
        group = λ clear j below c. absurd (not_in_none (at j) c);
      }

  -- One that falls from an instruction.
  back_fall : (w : Walk) (to : Place) (m : ℕ) → m + 1 < length sequence.insns → end_of w ≡ at m → HasEdge p (end_of w) Falls to
      → Counterpart w m → Counterpart (goes_on w Falls to) (m + 1)
  back_fall w to m inside same edge before = record {
    walk = goes_on before.walk Falls (first_of (m + 1));
    there = record {
      walks = (
        before.there.walks,
        subst (λ (q : Place). HasSequenceEdge sequence q Falls (first_of (m + 1)))
            (sym before.there.ends) sequence_edge,
      );
      ends = refl;
    };
    facts = same_facts sequence p at m before.walk w Falls (first_of (m + 1)) to here before.there.ends same before.facts;
    group = group;
  }
    where
      here : IsThere sequence p at m
      here = there sequence p at spread m (omega arith)

      sequence_edge : HasSequenceEdge sequence (first_of m) Falls (first_of (m + 1))
      sequence_edge =
          let fall = fall_is (over_program p) (at m) to (subst (λ (q : Place). HasEdge p q Falls to) same edge) in
          let known : here.other ≡ fall.insn = same_Some here.other fall.insn (sym here.in_program ∙ fall.here) in
          fall_edge (over_sequence sequence) (first_of m) (first_of (m + 1)) here.insn here.in_sequence
          (here.like.falls ∙ ap may_fall known ∙ fall.may) (sequence_next_is sequence.insns m inside)

      group : IsClear p at has_stop to (m + 1) → (k : ℕ) → k < length sequence.insns
          → Contains (group_since has_stop (goes_on w Falls to)) (at k)
          → Contains (group_since sequence_stop (goes_on before.walk Falls (first_of (m + 1)))) (first_of k)
      group clear k below c =
          let j = joined has_stop w to (at k) c in
          let up = clear_before p at has_stop (end_of w) to (m + 1) (falls_next p (end_of w) to edge) j.unstopped clear in
          joins sequence_stop before.walk (first_of (m + 1)) (first_of k) record {
            unstopped =
                ap sequence_stop before.there.ends ∙ unstopped_sequence m inside
                (subst (λ (q : Place). IsClear p at has_stop q (m + 1)) same up);
            is = elim j.is [
              | inl e ↦ inl (before.there.ends ∙ ap first_of (at_once sequence p at spread m k (omega arith) below (sym same ∙ e)))
              | inr d ↦ inr (before.group (clear_at p at has_stop (end_of w) m same) k below d)
            ];
          }

  -- One that falls past a `nop`.
  back_filler : (w : Walk) (to : Place) (n : ℕ) → ((k : ℕ) → k < length sequence.insns → end_of w ≡ at k → ⊥)
      → HasEdge p (end_of w) Falls to → facts_in (over_program p) (goes_on w Falls to) ≡ facts_in (over_program p) w → Counterpart w n
      → Counterpart (goes_on w Falls to) n
  back_filler w to n none edge same before = record {
    walk = before.walk;
    there = before.there;
    facts = before.facts ∙ sym same;
    group = group;
  }
    where
      group : IsClear p at has_stop to n → (k : ℕ) → k < length sequence.insns → Contains (group_since has_stop (goes_on w Falls to)) (at k)
          → Contains (group_since sequence_stop before.walk) (first_of k)
      group clear k below c =
          let j = joined has_stop w to (at k) c in
          let up = clear_before p at has_stop (end_of w) to n (falls_next p (end_of w) to edge) j.unstopped clear in
          elim j.is [ inl e ↦ absurd (none k below e) | inr d ↦ before.group up k below d ]

  -- One step more, by what stands before it.
  back_step_taken : (w : Walk) (to : Place) (n : ℕ) → HasEdge p (end_of w) Taken to → IsFirstFrom sequence at n to
      → Stands sequence p at (end_of w) → ((m : ℕ) → IsFirstFrom sequence at m (end_of w) → Counterpart w m)
      → Counterpart (goes_on w Taken to) n
  back_step_taken w to n edge first (own m inside same) before =
      back_taken w to m n inside same edge first (before m (subst (IsFirstFrom sequence at m) (sym same)
      (first_at sequence p at spread m inside)))
  back_step_taken w to n edge first (filler i here nop none) before = absurd (filler_untaken p (end_of w) to i here nop edge)

  back_step_falls : (w : Walk) (to : Place) (n : ℕ) → IsWalkIn (over_program p) w → HasEdge p (end_of w) Falls to
      → IsFirstFrom sequence at n to → Stands sequence p at (end_of w) → ((m : ℕ) → IsFirstFrom sequence at m (end_of w) → Counterpart w m)
      → Counterpart (goes_on w Falls to) n
  back_step_falls w to n walks edge first (own m inside same) before =
      let next = subst (λ (q : Place). IsNext p.bundles q to) same (falls_next p (end_of w) to edge) in
      let on = first_behind_own sequence p at spread m n to inside next first in
      subst (λ (k : ℕ). Counterpart (goes_on w Falls to) k) (sym on)
      (back_fall w to m (omega (arith, first.inside)) same edge (before m
      (subst (IsFirstFrom sequence at m) (sym same) (first_at sequence p at spread m inside))))
  back_step_falls w to n walks edge first (filler i here nop none) before =
      back_filler w to n none edge (filler_past p (end_of w) Falls (facts_in (over_program p) w) i here nop
      (walk_bounded p w program walks))
      (before n (first_before_filler sequence p at spread n (end_of w) to none (falls_next p (end_of w) to edge) first))

  -- Each walk of the program has a counterpart at the first instruction at or after its end.
  pub back : (w : Walk) → IsWalkIn (over_program p) w → (n : ℕ) → IsFirstFrom sequence at n (end_of w)
      → HasCounterpart sequence p at sequence_stop has_stop w n
  back (begins bundle) is n first = back_entry bundle n is first
  back (goes_on w Taken to) is n first =
      back_step_taken w to n is.1 first (stands sequence p at spread (end_of w) (walk_place p w is.0)) (back w is.0)
  back (goes_on w Falls to) is n first =
      back_step_falls w to n is.0 is.1 first (stands sequence p at spread (end_of w) (walk_place p w is.0)) (back w is.0)
