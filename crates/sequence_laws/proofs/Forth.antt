-- From a walk of the sequence forth to one of the program, with the same facts.
use Rattle.std.proofs.Common.{◌≡◌, ℕ, zero, suc, ◌+◌, ◌<◌, ◌≤◌, Bool, false, ◌⊎◌, inl, inr, length, refl, sym, ap, ◌∙◌, subst, arith}
use Rattle.std.specs.Prelude.{Contains}
use Rattle.std.proofs.lemmas.Option.{same_Some}
use Rattle.ia_program.specs.declared.place.Place.{Place}
use Rattle.ia_program.specs.Places.{IsBefore, IsNext, IsPlaceOf, place_number}
use Rattle.ia_program.specs.Programs.{Program, IsProgram}
use Rattle.ia_program.proofs.InOrder.{slot_small}
use Rattle.ia_meaning.specs.Sequence.{first_of}
use Rattle.ia_meaning.proofs.Follows.{next_is}
use Rattle.resource_sets.proofs.Members.{not_in_none}
use Rattle.predicate_rel.specs.declared.edge.Edge.TheVariants.{Falls, Taken}
use Rattle.predicate_rel.specs.Edges.{HasEdge, may_fall}
use Rattle.flow_facts.specs.Graphs.{InsnSequence, over_program, over_sequence, HasSequenceEdge, IsSequenceEntry}
use Rattle.flow_facts.specs.Walks.{Walk, begins, goes_on, end_of, IsWalkIn, EndsIn, facts_in, group_since}
use Rattle.order_laws.proofs.Falling.{before_trans, fall_edge, fall_is, place_cases, number_rises, not_before_itself}
use Rattle.sequence_laws.specs.Spreads.{IsSpread, AreStops}
use Rattle.sequence_laws.proofs.Rows.{IsNumbered, sequence_inside, sequence_walk_place, sequence_fall_is}
use Rattle.sequence_laws.proofs.Fillers.{walk_bounded, filler_past, filler_falls}
use Rattle.sequence_laws.proofs.Between.{IsFirstFrom, Stands, own, filler, there, at_place, stands, in_order, first_landing, first_next, first_past_filler}
use Rattle.sequence_laws.proofs.Edges.{same_facts, walk_place, has_next}
use Rattle.sequence_laws.proofs.Groups.{joined, joins}
use Rattle.sequence_laws.proofs.Back.{IsClear}

-- A walk goes to the place with what is known on another one, and with that one's group where no stop comes between.
pub record GoesOnTo (p : Program) (at : ℕ → Place) (has_stop : Place → Bool) (w : Walk) (n : ℕ) : Type 0 where
  pub walk : Walk
  pub there : EndsIn (over_program p) (at n) walk
  pub facts : facts_in (over_program p) walk ≡ facts_in (over_program p) w
  pub group : IsClear p at has_stop (end_of w) n → (i : Place) → Contains (group_since has_stop w) i
      → Contains (group_since has_stop walk) i

-- A walk of the program goes to the n-th instruction with what is known on a walk of the sequence, and with the
-- instructions of that walk's group.
pub record IsFollowed (sequence : InsnSequence) (p : Program) (at : ℕ → Place) (sequence_stop has_stop : Place → Bool) (u : Walk)
    (n : ℕ) : Type 0 where
  pub walk : Walk
  pub there : EndsIn (over_program p) (at n) walk
  pub facts : facts_in (over_sequence sequence) u ≡ facts_in (over_program p) walk
  pub group : (k : ℕ) → k < length sequence.insns → Contains (group_since sequence_stop u) (first_of k)
      → Contains (group_since has_stop walk) (at k)

-- A place from which the n-th instruction is the first is its place, or comes before it.
at_or_before : (sequence : InsnSequence) (at : ℕ → Place) (n : ℕ) (place : Place) → IsFirstFrom sequence at n place
    → (place ≡ at n) ⊎ IsBefore place (at n)
at_or_before sequence at n place first = of (place_cases place (at n))
  where
    of : IsBefore place (at n) ⊎ ((place ≡ at n) ⊎ IsBefore (at n) place) → (place ≡ at n) ⊎ IsBefore place (at n)
    of (inl before) = inr before
    of (inr (inl same)) = inl same
    of (inr (inr after)) = absurd (first.from after)

module _ (sequence : InsnSequence) (p : Program) (at : ℕ → Place) (has_stop : Place → Bool) (program : IsProgram p)
    (spread : IsSpread sequence p at) where
  -- The walk is there.
  is_there : (w : Walk) (n : ℕ) → IsWalkIn (over_program p) w → end_of w ≡ at n → GoesOnTo p at has_stop w n
  is_there w n is same = record { walk = w; there = record { walks = is; ends = same }; facts = refl; group = λ clear i c. c }

  -- What a fall past a `nop` leaves to go.
  past_filler : (w : Walk) (next : Place) (n : ℕ) → IsPlaceOf p.bundles (end_of w) → IsNext p.bundles (end_of w) next
      → facts_in (over_program p) (goes_on w Falls next) ≡ facts_in (over_program p) w → IsBefore (end_of w) (at n)
      → GoesOnTo p at has_stop (goes_on w Falls next) n → GoesOnTo p at has_stop w n
  past_filler w next n there is same before on = record {
    walk = on.walk;
    there = on.there;
    facts = on.facts ∙ same;
    group = λ clear i c.
        let unstopped = clear.unstopped (end_of w) there (not_before_itself (end_of w)) before in
        on.group (rest clear) i (joins has_stop w next i (record { unstopped = unstopped; is = inr c }));
  }
    where
      rest : IsClear p at has_stop (end_of w) n → IsClear p at has_stop next n
      rest clear =
          record {
            unstopped = λ place is_place up below. clear.unstopped place is_place
                (λ less. up (before_trans place (end_of w) next less is.after)) below;
          }

  -- The fall past it.
  filler_fall : (w : Walk) (n : ℕ) → IsWalkIn (over_program p) w → IsFirstFrom sequence at n (end_of w) → IsBefore (end_of w) (at n)
      → ((next : Place) → IsWalkIn (over_program p) (goes_on w Falls next) → IsFirstFrom sequence at n next → IsBefore (end_of w) next
      → GoesOnTo p at has_stop (goes_on w Falls next) n) → Stands sequence p at (end_of w) → GoesOnTo p at has_stop w n
  filler_fall w n is first before goes (own m inside same) =
      let below = in_order sequence p at spread m n inside first.inside (subst (λ (q : Place). IsBefore q (at n)) same before) in
      absurd (not_before_itself (end_of w) (subst (λ (q : Place). IsBefore q (end_of w)) (sym same) (first.first m below)))
  filler_fall w n is first before goes (filler i here nop none) =
      let (next, leads) = has_next p.bundles (end_of w) (at n) (at_place sequence p at spread n first.inside) before in
      let behind = next_is p.bundles (end_of w) next leads in
      past_filler w next n (walk_place p w is) behind
      (filler_past p (end_of w) Falls (facts_in (over_program p) w) i here nop (walk_bounded p w program is)) before
      (goes next (is, fall_edge (over_program p) (end_of w) next i here (filler_falls i nop) leads)
      (first_past_filler sequence p at spread n (end_of w) next none behind first) behind.after)

  -- A walk from whose end on only `nop`s come up to the n-th instruction goes on to it.
  over_fillers : (left : ℕ) (w : Walk) (n : ℕ) → IsWalkIn (over_program p) w → IsFirstFrom sequence at n (end_of w)
      → place_number (at n) ≤ place_number (end_of w) + left → GoesOnTo p at has_stop w n
  over_fillers zero w n is first near = elim (at_or_before sequence at n (end_of w) first) [
    | inl same ↦ is_there w n is same
    | inr before ↦ absurd (omega (arith, number_rises (end_of w) (at n) (slot_small p.bundles (end_of w) (walk_place p w is)) before))
  ]
  over_fillers (suc left) w n is first near = elim (at_or_before sequence at n (end_of w) first) [
    | inl same ↦ is_there w n is same
    | inr before ↦ filler_fall w n is first before
        (λ next walks from after. over_fillers left (goes_on w Falls next) n walks from
        (omega (arith, number_rises (end_of w) next (slot_small p.bundles (end_of w) (walk_place p w is)) after)))
        (stands sequence p at spread (end_of w) (walk_place p w is))
  ]

  -- However many those are.
  pub goes_to : (w : Walk) (n : ℕ) → IsWalkIn (over_program p) w → IsFirstFrom sequence at n (end_of w) → GoesOnTo p at has_stop w n
  goes_to w n is first = over_fillers (place_number (at n)) w n is first (omega arith)

-- A walk of the program falls from the n-th instruction.
pub record HasFall (p : Program) (at : ℕ → Place) (w : Walk) (n : ℕ) : Type 0 where
  pub next : Place
  pub is : IsNext p.bundles (at n) next
  pub edge : HasEdge p (end_of w) Falls next

module _ (sequence : InsnSequence) (p : Program) (at : ℕ → Place) (sequence_stop has_stop : Place → Bool) (program : IsProgram p)
    (spread : IsSpread sequence p at) (stops : AreStops sequence p at sequence_stop has_stop) where
  abbrev Followed : Walk → ℕ → Type 0
  Followed u n = IsFollowed sequence p at sequence_stop has_stop u n

  -- A walk that begins at an entry.
  forth_entry : (n : ℕ) → IsSequenceEntry sequence n → Followed (begins n) n
  forth_entry n entry =
      let (bundle_entry, head) = spread.sequence_entries n entry in
      let on =
      goes_to sequence p at has_stop program spread (begins (at n).bundle) n bundle_entry
      (first_landing sequence p at spread n (at n).bundle entry.inside refl head) in
      record {
        walk = on.walk;
        there = on.there;
        facts = spread.known n entry ∙ sym on.facts;
        group = λ k below c. absurd (not_in_none (first_of k) c);
      }

  -- One that goes on along a taken edge.
  forth_taken : (u : Walk) (m n : ℕ) → m < length sequence.insns → end_of u ≡ first_of m
      → HasSequenceEdge sequence (first_of m) Taken (first_of n) → Followed u m → Followed (goes_on u Taken (first_of n)) n
  forth_taken u m n inside same sequence_edge before =
      let (edge, head) = spread.sequence_targets m n sequence_edge in
      let to : Place = first_of (at n).bundle in
      let along : HasEdge p (end_of before.walk) Taken to = subst (λ (q : Place). HasEdge p q Taken to) (sym before.there.ends) edge in
      let landing = first_landing sequence p at spread n (at n).bundle (sequence_inside sequence.insns n sequence_edge.lands) refl head in
      let on = goes_to sequence p at has_stop program spread (goes_on before.walk Taken to) n (before.there.walks, along) landing in
      record {
        walk = on.walk;
        there = on.there;
        facts =
            same_facts sequence p at m u before.walk Taken (first_of n) to (there sequence p at spread m inside) same before.there.ends
            before.facts ∙ sym on.facts;
        group = λ k below c. absurd (not_in_none (first_of k) c);
      }

  -- Where the sequence falls the program does.
  pub falls_forth : (w : Walk) (m : ℕ) → m + 1 < length sequence.insns → end_of w ≡ at m
      → HasSequenceEdge sequence (first_of m) Falls (first_of (m + 1)) → HasFall p at w m
  falls_forth w m inside same sequence_edge =
      let here = there sequence p at spread m (omega arith) in
      let fall = fall_is (over_sequence sequence) (first_of m) (first_of (m + 1)) sequence_edge in
      let known : here.insn ≡ fall.insn = same_Some here.insn fall.insn (sym here.in_sequence ∙ fall.here) in
      let falls = sym here.like.falls ∙ ap may_fall known ∙ fall.may in
      let (next, leads) =
      has_next p.bundles (at m) (at (m + 1)) (at_place sequence p at spread (m + 1) inside)
      (spread.rises m (m + 1) (omega arith) inside) in
      record {
        next = next;
        is = next_is p.bundles (at m) next leads;
        edge =
            subst (λ (q : Place). HasEdge p q Falls next) (sym same) (fall_edge (over_program p)
            (at m) next here.other here.in_program falls leads);
      }

  -- Where no stop of the sequence follows an instruction, none of the program does.
  pub unstopped_at : (m : ℕ) → m + 1 < length sequence.insns → sequence_stop (first_of m) ≡ false → has_stop (at m) ≡ false
  unstopped_at m inside unstopped = stops.unstopped m inside unstopped (at m) record {
    is = at_place sequence p at spread m (omega arith);
    from = not_before_itself (at m);
    below = spread.rises m (m + 1) (omega arith) inside;
  }

  -- Where no stop of the sequence follows an instruction, none of the program comes between it and the next one.
  clear_behind : (m : ℕ) (next : Place) → m + 1 < length sequence.insns → IsNext p.bundles (at m) next → sequence_stop (first_of m) ≡ false
      → IsClear p at has_stop next (m + 1)
  clear_behind m next inside is unstopped = record {
    unstopped = λ place there up below. stops.unstopped m inside unstopped place record {
      is = there;
      from = λ less. up (before_trans place (at m) next less is.after);
      below = below;
    };
  }

  -- One that falls.
  forth_fall : (u : Walk) (m : ℕ) → m + 1 < length sequence.insns → end_of u ≡ first_of m
      → HasSequenceEdge sequence (first_of m) Falls (first_of (m + 1)) → Followed u m
      → Followed (goes_on u Falls (first_of (m + 1))) (m + 1)
  forth_fall u m inside same sequence_edge before = record {
    walk = on.walk;
    there = on.there;
    facts =
        same_facts sequence p at m u before.walk Falls (first_of (m + 1)) fall.next (there sequence p at spread m (omega arith)) same
        before.there.ends before.facts ∙ sym on.facts;
    group = group;
  }
    where
      fall : HasFall p at before.walk m
      fall = falls_forth before.walk m inside before.there.ends sequence_edge

      on : GoesOnTo p at has_stop (goes_on before.walk Falls fall.next) (m + 1)
      on =
          goes_to sequence p at has_stop program spread (goes_on before.walk Falls fall.next) (m + 1) (before.there.walks, fall.edge)
          (first_next sequence p at spread m fall.next inside fall.is)

      group : (k : ℕ) → k < length sequence.insns → Contains (group_since sequence_stop (goes_on u Falls (first_of (m + 1)))) (first_of k)
          → Contains (group_since has_stop on.walk) (at k)
      group k below c =
          let j = joined sequence_stop u (first_of (m + 1)) (first_of k) c in
          let unstopped : sequence_stop (first_of m) ≡ false = sym (ap sequence_stop same) ∙ j.unstopped in
          on.group (clear_behind m fall.next inside fall.is unstopped) (at k) (joins has_stop before.walk fall.next (at k) record {
            unstopped = ap has_stop before.there.ends ∙ unstopped_at m inside unstopped;
            is = elim j.is [
              | inl e ↦ inl (before.there.ends ∙ ap (λ (q : Place). at q.bundle) (sym same ∙ e))
              | inr d ↦ inr (before.group k below d)
            ];
          })

  -- One step more.
  forth_step_taken : (u : Walk) (to : Place) (n : ℕ) → HasSequenceEdge sequence (end_of u) Taken to → to ≡ first_of n
      → IsNumbered sequence.insns (end_of u) → ((m : ℕ) → end_of u ≡ first_of m → Followed u m) → Followed (goes_on u Taken to) n
  forth_step_taken u to n edge ends from before =
      let along : HasSequenceEdge sequence (first_of from.number) Taken (first_of n) =
      subst (HasSequenceEdge sequence (first_of from.number) Taken) ends
      (subst (λ (q : Place). HasSequenceEdge sequence q Taken to) from.is edge) in
      subst (λ (q : Place). Followed (goes_on u Taken q) n) (sym ends)
      (forth_taken u from.number n from.inside from.is along (before from.number from.is))

  forth_step_falls : (u : Walk) (to : Place) (n : ℕ) → HasSequenceEdge sequence (end_of u) Falls to → to ≡ first_of n
      → IsNumbered sequence.insns (end_of u) → ((m : ℕ) → end_of u ≡ first_of m → Followed u m) → Followed (goes_on u Falls to) n
  forth_step_falls u to n edge ends from before =
      let m : ℕ = from.number in
      let along : HasSequenceEdge sequence (first_of m) Falls to =
      subst (λ (q : Place). HasSequenceEdge sequence q Falls to) from.is edge in
      let fall = sequence_fall_is sequence m to along in
      let number : m + 1 ≡ n = ap (λ (q : Place). q.bundle) (sym fall.leads ∙ ends) in
      let there =
      forth_fall u m fall.inside from.is (subst (HasSequenceEdge sequence (first_of m) Falls) fall.leads along) (before m from.is) in
      subst (λ (k : ℕ). Followed (goes_on u Falls to) k) number (subst (λ (q : Place). Followed (goes_on u Falls q) (m + 1))
      (sym fall.leads) there)

  -- Each walk of the sequence is followed in the program.
  pub forth : (u : Walk) → IsWalkIn (over_sequence sequence) u → (n : ℕ) → end_of u ≡ first_of n
      → IsFollowed sequence p at sequence_stop has_stop u n
  forth (begins m) is n ends = subst (λ (k : ℕ). Followed (begins m) k) (ap (λ (q : Place). q.bundle) ends) (forth_entry m is)
  forth (goes_on u Taken to) is n ends = forth_step_taken u to n is.1 ends (sequence_walk_place sequence u is.0) (forth u is.0)
  forth (goes_on u Falls to) is n ends = forth_step_falls u to n is.1 ends (sequence_walk_place sequence u is.0) (forth u is.0)
