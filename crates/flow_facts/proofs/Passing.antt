-- What comes along an edge.
use Rattle.std.proofs.Common.{◌≡◌, ℕ, ◌+◌, ◌<◌, ◌≤◌, ◌⊎◌, false, ◌≢◌, Option, None, Some, List, length, get_or, set, length-set, refl, sym, ap, ◌∙◌, subst, arith, inl, inr}
use mathlib.Core.Path.{fun_ext}
use Rattle.std.specs.Prelude.{bit_or}
use Rattle.std.proofs.lemmas.Option.{same_Some}
use Rattle.ia_insn.specs.declared.insn.Insn.{Insn}
use Rattle.ia_program.specs.declared.place.Place.{Place}
use Rattle.ia_program.specs.Places.{place_number, place_at, insn_at}
use Rattle.ia_program.specs.Programs.{Program, IsEntry}
use Rattle.ia_program.proofs.InOrder.{slot_small}
use Rattle.ia_program.proofs.Reaching.{place_at-number}
use Rattle.ia_meaning.specs.Sequence.{first_of}
use Rattle.predicate_rel.specs.declared.edge.Edge.{Edge}
use Rattle.predicate_rel.specs.declared.edge.Edge.TheVariants.{Falls, Taken}
use Rattle.predicate_rel.specs.Pairs.{FactRows, Pairs, pairs_of, IsSubset}
use Rattle.predicate_rel.specs.Rules.{action_rule, pairs_by}
use Rattle.predicate_rel.proofs.RuleLaws.{WhyMissing, whatever, since, why_missing, pairs_after-within}
use Rattle.predicate_rel.proofs.EdgeEnds.{falls_next}
use Rattle.predicate_rel.specs.Edges.{HasEdge, pairs_past, pairs_past_insn}
use Rattle.slot_table.specs.declared.slot.Slot.{Slot}
use Rattle.slot_table.specs.Slots.{slot_at}
use Rattle.slot_table.proofs.SlotLaws.{pairs_by-slot}
use Rattle.flow_facts.specs.Walks.{Known, known_at, Walk, begins, goes_on, EndsAt, known_first, facts_on}
use Rattle.flow_facts.specs.Tables.{weight, place_count, AtMost, Joined, IsWitnessedAt, IsWitnessed, IsSameBut, HasCome, MarksChanges, MayPass, Passed, IsBetweenSteps, marked, dirty_count}
use Rattle.flow_facts.proofs.Numbering.{number_below, cases_place, value_at-place_at, value_at-set_other}
use Rattle.flow_facts.proofs.Marks.{no_progress, progress_marked, progress_same, progress_twice, same_trans, come_shrinks, dirty_count-set, dirty_count-less}

-- More before a place is more past it.
pub past_within : (p : Program) (from : Place) (e : Edge) (f g : Pairs) → IsSubset f g
    → IsSubset (pairs_past p from e f) (pairs_past p from e g)
unfolding pairs_past
past_within p from e f g w = of (insn_at p.bundles from)
  where
    of : (o : Option Insn) → IsSubset (pairs_past_insn o e f) (pairs_past_insn o e g)
    of None = w
    of (Some insn) = pairs_after-within f g insn e w

-- A pair is missing past a place whatever was known before it, or since one pair was missing there.
pub data WhyMissingPast (p : Program) (from : Place) (e : Edge) (f : Pairs) (x y : ℕ) : Type 0 where
  whatever_before : ((g : Pairs) → pairs_past p from e g x y ≡ false) → WhyMissingPast p from e f x y
  since_before : (a b : ℕ) → f a b ≡ false → ((g : Pairs) → g a b ≡ false → pairs_past p from e g x y ≡ false)
      → WhyMissingPast p from e f x y

-- Why a pair is missing past a place.
pub why_missing_past : (p : Program) (from : Place) (e : Edge) (f : Pairs) (x y : ℕ) → pairs_past p from e f x y ≡ false
    → WhyMissingPast p from e f x y
unfolding pairs_past
why_missing_past p from e f x y h = of (insn_at p.bundles from) refl h
  where
    of : (o : Option Insn) → insn_at p.bundles from ≡ o → pairs_past_insn o e f x y ≡ false → WhyMissingPast p from e f x y
    of None is h = since_before x y h (λ g q. rw is q)
    of (Some insn) is h = by_rule (why_missing f insn e x y h)
      where
        by_rule : WhyMissing f insn e x y → WhyMissingPast p from e f x y
        by_rule (whatever all) = whatever_before (λ g. rw is (all g))
        by_rule (since a b n r) = since_before a b n (λ g q. rw is (r g q))

-- An edge of one sort leads to one place.
pub leads_to_one : (p : Program) (from : Place) (e : Edge) (a b : Place) → HasEdge p from e a → HasEdge p from e b → a ≡ b
leads_to_one p from e a b f g = same_Some _ _ (sym f.leads ∙ g.leads)

-- A walk goes on along an edge from its end.
pub longer : (p : Program) (from to : Place) (e : Edge) (w : Walk) → EndsAt p from w → HasEdge p from e to → EndsAt p to (goes_on w e to)
longer p from to e w is edge =
    record { walks = (is.walks, (let P : Place → Type 0 = λ k. HasEdge p k e to in subst P (sym is.ends) edge)); ends = refl }

-- What is known on a walk that goes on is what is known past its place.
pub facts_longer : (p : Program) (from to : Place) (e : Edge) (w : Walk) → EndsAt p from w
    → facts_on p (goes_on w e to) ≡ pairs_past p from e (facts_on p w)
facts_longer p from to e w is = ap (λ (k : Place). pairs_past p k e (facts_on p w)) is.ends

-- A pair that is missing after an edge is missing on some walk.
lacking_along : (p : Program) (from : Place) (e : Edge) (to : Place) (f : Pairs) → IsWitnessedAt p from f → HasEdge p from e to → (x y : ℕ)
    → WhyMissingPast p from e f x y → (w : Walk) × EndsAt p to w × (facts_on p w x y ≡ false)
lacking_along p from e to f wit edge x y (whatever_before h) =
    let (w, is) = wit.reached in
    (goes_on w e to, longer p from to e w is edge, ap (λ (f : Pairs). f x y) (facts_longer p from to e w is) ∙ h (facts_on p w))
lacking_along p from e to f wit edge x y (since_before a b n h) =
    let (w, is, m) = wit.lacking a b n in
    (goes_on w e to, longer p from to e w is edge, ap (λ (f : Pairs). f x y) (facts_longer p from to e w is) ∙ h (facts_on p w) m)

-- What is known past a place is witnessed at the end of an edge.
pub witnessed_along : (p : Program) (from : Place) (e : Edge) (to : Place) (f : Pairs) → IsWitnessedAt p from f → HasEdge p from e to
    → IsWitnessedAt p to (pairs_past p from e f)
witnessed_along p from e to f wit edge = record {
  reached = (let (w, is) = wit.reached in (goes_on w e to, longer p from to e w is edge));
  lacking = λ x y n. lacking_along p from e to f wit edge x y (why_missing_past p from e f x y n);
}

-- What an entry declares is witnessed at it.
pub witnessed_entry : (p : Program) (bundle : ℕ) → IsEntry p bundle → IsWitnessedAt p (first_of bundle) (known_first p bundle)
witnessed_entry p bundle entry = record {
  reached = (begins bundle, record { walks = entry; ends = refl });
  lacking = λ x y n. (begins bundle, record { walks = entry; ends = refl }, n);
}

-- What is witnessed at a place and is joined into it leaves witnesses of each place.
pub witnessed_by : (p : Program) (t t' : List Known) (to : Place) (out : Pairs) → IsWitnessed p t → IsWitnessedAt p to out
    → Joined t t' to out → IsWitnessed p t'
witnessed_by p t t' to out wit came joined = record { at = λ k rows is. at k rows is (cases_place k to) }
  where
    here : (rows : FactRows) → known_at t' to ≡ Some rows → IsWitnessedAt p to (pairs_of rows)
    here rows is = record {
      reached = came.reached;
      lacking = λ x y n. elim (joined.lacking rows is x y n) [ inl m ↦ came.lacking x y m | inr m ↦ (wit.at to m.0 m.1).lacking x y m.2 ];
    }

    at : (k : Place) (rows : FactRows) → known_at t' k ≡ Some rows → (k ≡ to) ⊎ (k ≡ to → ⊥) → IsWitnessedAt p k (pairs_of rows)
    at k rows is (inl e) = subst (λ (q : Place). IsWitnessedAt p q (pairs_of rows)) (sym e) (here rows (ap (known_at t') (sym e) ∙ is))
    at k rows is (inr e) = wit.at k rows (sym (joined.others k e) ∙ is)

-- What was known at a place has come along an edge from there to the place of a number.
pub record ComesAlong (p : Program) (from : Place) (e : Edge) (to : ℕ) (t t' : List Known) (before : Pairs) : Type 0 where
  pub edge : HasEdge p from e (place_at to)
  pub below : to < place_count p
  pub joined : Joined t t' (place_at to) (pairs_past p from e before)

-- The number of the end of an edge.
pub edge_number : (p : Program) (from : Place) (e : Edge) (to : Place) (n : ℕ) → HasEdge p from e to → n ≡ place_number to
    → (place_at n ≡ to) × (n < place_count p)
edge_number p from e to n edge number = (
  ap place_at number ∙ place_at-number to (slot_small p.bundles to edge.lands),
  omega (arith, number, number_below p (place_count p) to refl edge.lands),
)

-- By the slot.
pub comes_along : (p : Program) (from : Place) (e : Edge) (to : Place) (n : ℕ) (slot : Slot) (t t' : List Known) (before : Pairs)
    → slot_at p.bundles from ≡ Some slot → HasEdge p from e to → n ≡ place_number to
    → Joined t t' (place_at n) (pairs_by before (action_rule slot.action e slot.qp)) → ComesAlong p from e n t t' before
comes_along p from e to n slot t t' before here edge number joined =
    let there = edge_number p from e to n edge number in
    record {
      edge = subst (HasEdge p from e) (sym there.0) edge;
      below = there.1;
      joined = subst (Joined t t' (place_at n)) (pairs_by-slot p from slot e before here) joined;
    }

-- What has come along an edge earlier has come past the slot.
pub come_by_slot : (p : Program) (from : Place) (e : Edge) (to : Place) (n : ℕ) (slot : Slot) (t : List Known) (w : ℕ) (now : Known)
    → slot_at p.bundles from ≡ Some slot → place_at n ≡ to → HasCome t to (pairs_past p from e) w now
    → HasCome t (place_at n) (λ f. pairs_by f (action_rule slot.action e slot.qp)) w now
come_by_slot p from e to n slot t w now here there come =
    let same : pairs_past p from e ≡ (λ f. pairs_by f (action_rule slot.action e slot.qp)) =
    fun_ext (λ f. sym (pairs_by-slot p from slot e f here)) in
    subst (λ (past : Pairs → Pairs). HasCome t (place_at n) past w now) same
    (subst (λ (q : Place). HasCome t q (pairs_past p from e) w now) (sym there) come)

-- Nothing comes where there is no edge of this sort.
pub passed_none : (p : Program) (from : Place) (e : Edge) (before : Pairs) (t : List Known) (d : List ℕ) → IsWitnessed p t
    → ((to : Place) → HasEdge p from e to → ⊥) → Passed p from e before t d t d
passed_none p from e before t d wit none =
    record {
      witnessed = wit;
      others = λ k apart. refl;
      come = λ to edge. absurd (none to edge);
      progress = no_progress t d;
      lost = omega arith;
    }

-- What has come along an edge has come along each of its sort.
pub passed_by : (p : Program) (from : Place) (e : Edge) (to : ℕ) (before : Pairs) (t t' : List Known) (d d' : List ℕ) → IsWitnessed p t
    → IsWitnessedAt p from before → ComesAlong p from e to t t' before → MarksChanges t d t' d'
    → weight t' + dirty_count d' ≤ weight t + dirty_count d → Passed p from e before t d t' d'
passed_by p from e to before t t' d d' wit here came progress lost = record {
  witnessed = witnessed_by p t t' (place_at to) _ wit (witnessed_along p from e (place_at to) before here came.edge) came.joined;
  others = λ k apart. came.joined.others k (λ same. apart (subst (HasEdge p from e) (sym same) came.edge));
  come =
      λ to' edge. subst (λ (q : Place). AtMost t' q (pairs_past p from e before))
      (leads_to_one p from e (place_at to) to' came.edge edge) came.joined.below;
  progress = progress;
  lost = lost;
}

-- Where rows of the edge's end changed, they are marked.
pub passed_changed : (p : Program) (from : Place) (e : Edge) (to rows : ℕ) (before : Pairs) (t t' : List Known) (d : List ℕ)
    → length d ≡ place_count p → IsWitnessed p t → IsWitnessedAt p from before → ComesAlong p from e to t t' before
    → IsSameBut rows (known_at t (place_at to)) (known_at t' (place_at to)) → weight t' + 1 ≤ weight t
    → Passed p from e before t d t' (set d to (bit_or (get_or d to 0) rows))
passed_changed p from e to rows before t t' d sized wit here came same less =
    let short : to < length d = omega (arith, came.below, sized) in
    passed_by p from e to before t t' d _ wit here came (progress_marked t t' d to rows _ short came.joined same)
    (omega (arith, dirty_count-set d to (bit_or (get_or d to 0) rows) short, less))

-- Where no row of the edge's end changed, nothing is marked.
pub passed_same : (p : Program) (from : Place) (e : Edge) (to : ℕ) (before : Pairs) (t t' : List Known) (d : List ℕ) → IsWitnessed p t
    → IsWitnessedAt p from before → ComesAlong p from e to t t' before → IsSameBut 0 (known_at t (place_at to)) (known_at t' (place_at to))
    → weight t' ≤ weight t → Passed p from e before t d t' d
passed_same p from e to before t t' d wit here came same less =
    passed_by p from e to before t t' d d wit here came (progress_same t t' d to _ came.joined same) (omega (arith, less))

-- What is known at a place that is gone on from may pass along its edges.
pub may_pass : (p : Program) (t : List Known) (d : List ℕ) (n rows : ℕ) (e : Edge) (before : FactRows) → IsBetweenSteps p t d
    → known_at t (place_at n) ≡ Some before → rows ≡ get_or d n 0 → MayPass p (place_at n) e rows t before
may_pass p t d n rows e before u known taken = record {
  witnessed = u.witnessed;
  known = known;
  come =
      λ to edge. subst (λ (w : ℕ). HasCome t to (pairs_past p (place_at n) e) w (Some before)) (value_at-place_at 0 d n ∙ sym taken)
      (subst (HasCome t to (pairs_past p (place_at n) e) (marked d (place_at n))) known (u.come (place_at n) e to edge));
}

-- And does so after it has passed along a fall, which leads to another place.
pub may_pass_on : (p : Program) (from : Place) (e : Edge) (rows : ℕ) (t t' : List Known) (d d' : List ℕ) (before : FactRows)
    → MayPass p from e rows t before → Passed p from Falls (pairs_of before) t d t' d' → MayPass p from e rows t' before
may_pass_on p from e rows t t' d d' before may passed = record {
  witnessed = passed.witnessed;
  known =
      passed.others from (λ edge. let next = falls_next p from from edge in
      elim next.after [ inl h ↦ omega arith | inr h ↦ omega (arith, h.1) ]) ∙ may.known;
  come = λ to edge. come_shrinks t t' to (pairs_past p from e) rows (Some before) passed.progress.shrinks (may.come to edge);
}

-- The place is no longer dirty, and what was known there has come along both sorts of edges.
pub two_passes : (p : Program) (t t1 t2 : List Known) (d d1 d2 : List ℕ) (n : ℕ) (before : FactRows) → IsBetweenSteps p t d
    → known_at t (place_at n) ≡ Some before → Passed p (place_at n) Falls (pairs_of before) t (set d n 0) t1 d1
    → Passed p (place_at n) Taken (pairs_of before) t1 d1 t2 d2 → IsBetweenSteps p t2 d2
two_passes p t t1 t2 d d1 d2 n before u is f g = record {
  table_length = all.shrinks.same_length ∙ u.table_length;
  dirty_length = all.same_length ∙ length-set d n 0 ∙ u.dirty_length;
  witnessed = g.witnessed;
  entries = λ bundle en. all.shrinks.keeps (first_of bundle) (known_first p bundle) (u.entries bundle en);
  come = λ k e to edge. come k e to edge (cases_place k from);
}
  where
    from : Place
    from = place_at n

    all : MarksChanges t (set d n 0) t2 d2
    all = progress_twice t t1 t2 (set d n 0) d1 d2 f.progress g.progress

    sorts : (e : Edge) (to : Place) → HasEdge p from e to → AtMost t2 to (pairs_past p from e (pairs_of before))
    sorts Falls to edge = g.progress.shrinks.keeps to _ (f.come to edge)
    sorts Taken to edge = g.come to edge

    here : (e : Edge) (to : Place) → HasEdge p from e to → HasCome t2 to (pairs_past p from e) (marked d2 from) (known_at t2 from)
    here e to edge = record {
      older = Some before;
      same = subst (λ (o : Known). IsSameBut (marked d2 from) o (known_at t2 from)) is (all.changed from);
      came = λ rows q. subst (λ (r : FactRows). AtMost t2 to (pairs_past p from e (pairs_of r))) (same_Some before rows q) (sorts e to edge);
    }

    come : (k : Place) (e : Edge) (to : Place) → HasEdge p k e to → (k ≡ from) ⊎ (k ≡ from → ⊥)
        → HasCome t2 to (pairs_past p k e) (marked d2 k) (known_at t2 k)
    come k e to edge (inl q) =
        let P : Place → Type 0 = λ m. HasCome t2 to (pairs_past p m e) (marked d2 m) (known_at t2 m) in
        subst P (sym q) (here e to (subst (λ (m : Place). HasEdge p m e to) q edge))
    come k e to edge (inr apart) =
        let was = u.come k e to edge in
        record {
          older = was.older;
          same =
              same_trans (marked (set d n 0) k) (marked d2 k) was.older (known_at t k) (known_at t2 k) (all.keeps k)
              (subst (λ (w : ℕ). IsSameBut w was.older (known_at t k)) (sym (value_at-set_other 0 0 d n k apart)) was.same) (all.changed k);
          came = λ rows q. all.shrinks.keeps to _ (was.came rows q);
        }

-- After both passes less is left to lose, or fewer places are to be gone on from.
pub spread_on : (p : Program) (t t1 t2 : List Known) (d d1 d2 : List ℕ) (n rows : ℕ) → IsBetweenSteps p t d → n < place_count p
    → get_or d n 0 ≢ 0 → (known_at t (place_at n) ≡ None → ⊥) → rows ≡ get_or d n 0
    → ((before : FactRows) → MayPass p (place_at n) Falls rows t before → Passed p (place_at n) Falls (pairs_of before) t (set d n 0) t1 d1)
    → ((before : FactRows) → MayPass p (place_at n) Taken rows t1 before → Passed p (place_at n) Taken (pairs_of before) t1 d1 t2 d2)
    → IsBetweenSteps p t2 d2 × (weight t2 + dirty_count d2 < weight t + dirty_count d)
spread_on p t t1 t2 d d1 d2 n rows u inside dirty some taken falls takes = of (known_at t (place_at n)) refl
  where
    of : (o : Known) → known_at t (place_at n) ≡ o → IsBetweenSteps p t2 d2 × (weight t2 + dirty_count d2 < weight t + dirty_count d)
    of None is = absurd (some is)
    of (Some before) is =
        let f = falls before (may_pass p t d n rows Falls before u is taken) in
        let g =
        takes before (may_pass_on p (place_at n) Taken rows t t1 (set d n 0) d1 before (may_pass p t d n rows Taken before u is taken)
        f) in (
          two_passes p t t1 t2 d d1 d2 n before u is f g,
          omega (
            arith,
            f.lost,
            g.lost,
            dirty_count-less d n (omega (arith, inside, u.dirty_length)) dirty,
          ),
        )
