-- The window moves on.
use Rattle.std.proofs.Common.{◌≡◌, ℕ, ◌+◌, ◌<◌, ◌≤◌, ◌⊎◌, Bool, true, false, Some, List, [], ◌∷◌, ◌++◌, suc, length, length-append, length-set, length-take-le, take, take_all, take-suc, get_or, get_or-take, get_or-set_same, get_or-set_other, set, refl, sym, ap, ◌∙◌, subst, arith, inl, inr}
use Rattle.std.specs.Prelude.{Contains, bit_or}
use Rattle.std.proofs.lemmas.Bool.{cases_eq, or_cases, or_left, or_right, true≢false}
use Rattle.ia_program.specs.declared.place.Place.{Place}
use Rattle.ia_program.specs.Places.{place_number, IsBefore}
use Rattle.ia_meaning.specs.Sequence.{first_of}
use Rattle.ia_meaning.specs.Arithmetic.{bit}
use Rattle.resource_sets.specs.Clashes.{may_write_guard}
use Rattle.resource_sets.specs.declared.access.Access.{Access}
use Rattle.resource_sets.proofs.Members.{cases_in, in_head, in_tail}
use Rattle.predicate_rel.specs.declared.edge.Edge.TheVariants.{Falls}
use Rattle.predicate_rel.specs.Pairs.{Pairs, has_bit, pairs_of}
use Rattle.predicate_rel.proofs.BitLemmas.{has_bit_or}
use Rattle.flow_facts.specs.Graphs.{Graph, next_in, IsPlaceIn, IsEdgeIn, pairs_past_in}
use Rattle.flow_facts.specs.Walks.{Walk, goes_on, EndsIn, end_of, facts_in, group_since, IsMeetIn, NoWalkIn}
use Rattle.group_checker.specs.declared.window.EarlierSlot.{EarlierSlot}
use Rattle.order_laws.specs.Excuses.{accesses_at}
use Rattle.order_laws.specs.Violations.{clears_at}
use Rattle.group_checker.specs.Windows.{IsThrough, IsMeetOf, IsAt, IsCarried, HasWriter, IsWritten, HasPlace, IsWindow, IsGuardMask, GoesOn, HasAdvanced}
use Rattle.order_laws.proofs.Falling.{before_trans, not_before_itself, number_rises, edge_inside, slot_below, falls_next, same_before, falls_up, comes_from, falls_group, none_before_first}
use Rattle.group_checker.proofs.Meets.{GoOn, meet_past, meet_at}
use Rattle.group_checker.proofs.EarlierSlots.{at_once, earlier_at, at_push, pushed_left, pushed_last}

-- Where no walk has an earlier slot in its group the window is empty.
pub empty_window : (g : Graph) (has_stop : Place → Bool) (j : Place)
    → ((w : Walk) → EndsIn g j w → (i : Place) → Contains (group_since has_stop w) i → ⊥) → IsWindow g has_stop [] j
empty_window g has_stop j none = record {
  size = omega arith;
  carried = λ m a h. absurd (omega (arith, h.short));
  rises = λ m n a b h k l. absurd (omega (arith, h.short));
  passes = λ m n a b h k l. absurd (omega (arith, h.short));
  written = λ m a h. absurd (omega (arith, h.short));
  last = λ m a h. absurd (omega (arith, h.short));
  all = λ w there i c. absurd (none w there i c);
}

-- Nothing comes before the first place.
pub first_window : (g : Graph) (has_stop : Place → Bool) → IsWindow g has_stop [] (first_of 0)
first_window g has_stop = empty_window g has_stop (first_of 0) (λ w there i c.
    let from = comes_from g has_stop w i there.walks c in
    none_before_first (end_of from.before) (subst (IsBefore (end_of from.before)) there.ends
    (falls_up g (end_of from.before) (end_of w) from.edge)))

-- A walk to the next place that has an earlier slot in its group came from the place before.
pub record Came (g : Graph) (has_stop : Place → Bool) (j next : Place) (w : Walk) : Type 0 where
  pub before : Walk
  pub there : EndsIn g j before
  pub edge : IsEdgeIn g j Falls next
  pub unstopped : has_stop j ≡ false
  pub facts : facts_in g w ≡ pairs_past_in g j Falls (facts_in g before)
  pub group : group_since has_stop w ≡ j ∷ group_since has_stop before

-- The place before is the one from which control falls there.
pub came : (g : Graph) (has_stop : Place → Bool) (j next : Place) (w : Walk) (i : Place) → IsPlaceIn g j → next_in g j ≡ Some next
    → EndsIn g next w → Contains (group_since has_stop w) i → Came g has_stop j next w
came g has_stop j next w i is follows there c =
    let from = comes_from g has_stop w i there.walks c in
    let edge : IsEdgeIn g (end_of from.before) Falls next = subst (IsEdgeIn g (end_of from.before) Falls) there.ends from.edge in
    let at : end_of from.before ≡ j =
    same_before g (end_of from.before) j next (edge_inside g (end_of from.before) Falls next edge) is
    (falls_next g (end_of from.before) next edge) follows in
    record {
      before = from.before;
      there = record { walks = from.walks; ends = at };
      edge = subst (λ (k : Place). IsEdgeIn g k Falls next) at edge;
      unstopped = subst (λ (k : Place). has_stop k ≡ false) at from.unstopped;
      facts = from.facts ∙ ap (λ (k : Place). pairs_past_in g k Falls (facts_in g from.before)) at;
      group = from.group ∙ ap (λ (k : Place). k ∷ group_since has_stop from.before) at;
    }

-- Where no walk ends at a place the next place has an empty window.
pub unreached_window : (g : Graph) (has_stop : Place → Bool) (j next : Place) → IsPlaceIn g j → next_in g j ≡ Some next → NoWalkIn g j
    → IsWindow g has_stop [] next
unreached_window g has_stop j next is follows none =
    empty_window g has_stop next (λ w there i c. let b = came g has_stop j next w i is follows there c in none b.before b.there)

-- Where control doesn't fall from a place within a group, the next place has an empty window.
pub parted_window : (g : Graph) (has_stop : Place → Bool) (j next : Place) → IsPlaceIn g j → next_in g j ≡ Some next
    → (IsEdgeIn g j Falls next → has_stop j ≡ true) → IsWindow g has_stop [] next
parted_window g has_stop j next is follows stops = empty_window g has_stop next (λ w there i c.
    let b = came g has_stop j next w i is follows there c in true≢false (sym (stops b.edge) ∙ b.unstopped))

-- What leads from a place to the next one within a group.
pub record Joins (g : Graph) (has_stop : Place → Bool) (j next : Place) : Type 0 where
  pub is : IsPlaceIn g j
  pub edge : IsEdgeIn g j Falls next
  pub unstopped : has_stop j ≡ false

-- A walk goes on to the next place.
goes_there : (g : Graph) (has_stop : Place → Bool) (j next : Place) (w : Walk) → Joins g has_stop j next → EndsIn g j w
    → EndsIn g next (goes_on w Falls next)
goes_there g has_stop j next w join there =
    record { walks = (there.walks, subst (λ (k : Place). IsEdgeIn g k Falls next) (sym there.ends) join.edge); ends = refl }

-- The group of a walk that goes on within it has the place that it comes from.
goes_group : (g : Graph) (has_stop : Place → Bool) (j next : Place) (w : Walk) → Joins g has_stop j next → EndsIn g j w
    → group_since has_stop (goes_on w Falls next) ≡ j ∷ group_since has_stop w
goes_group g has_stop j next w join there =
    falls_group has_stop w next (ap (λ (k : Place). has_stop k) there.ends ∙ join.unstopped)
    ∙ ap (λ (k : Place). k ∷ group_since has_stop w) there.ends

-- A walk that goes on along a fall knows what is known past the instruction.
goes_facts : (g : Graph) (j next : Place) (w : Walk) → EndsIn g j w
    → facts_in g (goes_on w Falls next) ≡ pairs_past_in g j Falls (facts_in g w)
goes_facts g j next w there = ap (λ (k : Place). pairs_past_in g k Falls (facts_in g w)) there.ends

-- The walk before passes the same slots but the last.
passed_before : (g : Graph) (has_stop : Place → Bool) (j next i : Place) (w : Walk) (b : Came g has_stop j next w)
    → Contains (group_since has_stop w) i → (j ≡ i) ⊎ Contains (group_since has_stop b.before) i
passed_before g has_stop j next i w b c = cases_in j i (group_since has_stop b.before) (subst (λ (l : List Place). Contains l i) b.group c)

-- A walk through an earlier slot that goes on passed that slot before.
through_before : (g : Graph) (has_stop : Place → Bool) (j next i : Place) (w : Walk) → Joins g has_stop j next → IsBefore i j
    → IsThrough g has_stop i next w → (b : Came g has_stop j next w) × IsThrough g has_stop i j b.before
through_before g has_stop j next i w join low h =
    let b = came g has_stop j next w i join.is (falls_next g j next join.edge) h.there h.inside in (
      b,
      record {
        there = b.there;
        inside = elim (passed_before g has_stop j next i w b h.inside) [
          | inl e ↦ absurd (not_before_itself i (subst (IsBefore i) e low))
          | inr c ↦ c
        ];
      },
    )

-- The walks through an earlier slot go on.
old_walks : (g : Graph) (has_stop : Place → Bool) (j next i : Place) → Joins g has_stop j next → IsBefore i j
    → GoOn g j (IsThrough g has_stop i j) (IsThrough g has_stop i next)
old_walks g has_stop j next i join low = record {
  on = λ w h. (
    goes_on w Falls next,
    record {
      there = goes_there g has_stop j next w join h.there;
      inside =
          subst (λ (l : List Place). Contains l i) (sym (goes_group g has_stop j next w join h.there))
          (in_tail j i (group_since has_stop w) h.inside);
    },
    goes_facts g j next w h.there,
  );
  back = λ w h. let (b, t) = through_before g has_stop j next i w join low h in (b.before, t, b.facts);
}

-- The walks that end at the slot itself go on.
new_walks : (g : Graph) (has_stop : Place → Bool) (j next : Place) → Joins g has_stop j next
    → GoOn g j (EndsIn g j) (IsThrough g has_stop j next)
new_walks g has_stop j next join = record {
  on = λ w h. (
    goes_on w Falls next,
    record {
      there = goes_there g has_stop j next w join h;
      inside =
          subst (λ (l : List Place). Contains l j) (sym (goes_group g has_stop j next w join h))
          (in_head j j (group_since has_stop w) refl);
    },
    goes_facts g j next w h,
  );
  back = λ w h. let b = came g has_stop j next w j join.is (falls_next g j next join.edge) h.there h.inside in (b.before, b.there, b.facts);
}

-- The slot that is left, as an earlier one.
pub record IsSlotOf (g : Graph) (j : Place) (f : Pairs) (mask : ℕ) (e : EarlierSlot) : Type 0 where
  pub place : e.place ≡ j
  pub clears : e.clears ≡ clears_at g j
  pub accesses : e.masks ≡ accesses_at g j
  pub known : pairs_of e.known ≡ pairs_past_in g j Falls f
  pub written : e.written ≡ mask

-- A slot of the new window is one that has gone on, or the one that is left.
record GoneOn (g : Graph) (j : Place) (mask : ℕ) (old : List EarlierSlot) (m : ℕ) (b : EarlierSlot) : Type 0 where
  slot : EarlierSlot
  at : IsAt old m slot
  on : GoesOn g j mask slot b

which : (g : Graph) (j : Place) (mask : ℕ) (old new : List EarlierSlot) (e : EarlierSlot) (m : ℕ) (b : EarlierSlot)
    → HasAdvanced g j mask old new (length old) → IsAt (new ++ e ∷ []) m b → GoneOn g j mask old m b ⊎ ((m ≡ length old) × (b ≡ e))
which g j mask old new e m b adv h = elim (at_push new e m b h) [
  | inl k ↦ inl (let (a, at, on) = adv.done m b (omega (arith, k.short, adv.same_length)) k in record { slot = a; at = at; on = on })
  | inr k ↦ inr (k.0 ∙ adv.same_length, k.1)
]

carried_old : (g : Graph) (has_stop : Place → Bool) (j next : Place) (mask : ℕ) (a b : EarlierSlot) → Joins g has_stop j next
    → IsCarried g has_stop j a → GoesOn g j mask a b → IsCarried g has_stop next b
carried_old g has_stop j next mask a b join old on = record {
  clears = on.clears ∙ old.clears ∙ ap (clears_at g) (sym on.place);
  accesses = on.accesses ∙ old.accesses ∙ ap (accesses_at g) (sym on.place);
  known = (let P : Place → Pairs → Type 0 = λ k f. IsMeetOf g (IsThrough g has_stop k next) f in
      subst (λ (k : Place). P k (pairs_of b.known)) (sym on.place) (subst (λ (f : Pairs). P a.place f) (sym on.known)
      (meet_past g j (IsThrough g has_stop a.place j) (IsThrough g has_stop a.place next) (pairs_of a.known)
      (old_walks g has_stop j next a.place join old.below) old.known)));
  below = subst (λ (k : Place). IsBefore k next) (sym on.place) (before_trans a.place j next old.below (falls_up g j next join.edge));
}

carried_new : (g : Graph) (has_stop : Place → Bool) (j next : Place) (f : Pairs) (mask : ℕ) (e : EarlierSlot) → Joins g has_stop j next
    → IsMeetIn g j f → IsSlotOf g j f mask e → IsCarried g has_stop next e
carried_new g has_stop j next f mask e join meet is = record {
  clears = is.clears ∙ ap (clears_at g) (sym is.place);
  accesses = is.accesses ∙ ap (accesses_at g) (sym is.place);
  known = (let P : Place → Pairs → Type 0 = λ k q. IsMeetOf g (IsThrough g has_stop k next) q in
      subst (λ (k : Place). P k (pairs_of e.known)) (sym is.place) (subst (λ (q : Pairs). P j q) (sym is.known)
      (meet_past g j (EndsIn g j) (IsThrough g has_stop j next) f (new_walks g has_stop j next join) (meet_at g j f meet))));
  below = subst (λ (k : Place). IsBefore k next) (sym is.place) (falls_up g j next join.edge);
}

-- A later slot comes later, and each walk through an earlier one passes it.
rises_on : (g : Graph) (has_stop : Place → Bool) (j : Place) (mask : ℕ) (old new : List EarlierSlot) (e : EarlierSlot)
    → IsWindow g has_stop old j → e.place ≡ j → HasAdvanced g j mask old new (length old) → (m n : ℕ) (a b : EarlierSlot)
    → IsAt (new ++ e ∷ []) m a → IsAt (new ++ e ∷ []) n b → m < n → IsBefore a.place b.place
rises_on g has_stop j mask old new e win is adv m n a b h k less =
    of (which g j mask old new e m a adv h) (which g j mask old new e n b adv k)
  where
    of : GoneOn g j mask old m a ⊎ ((m ≡ length old) × (a ≡ e)) → GoneOn g j mask old n b ⊎ ((n ≡ length old) × (b ≡ e))
        → IsBefore a.place b.place
    of (inl x) (inl y) =
        subst (λ (q : Place). IsBefore q b.place) (sym x.on.place) (subst (IsBefore x.slot.place) (sym y.on.place)
        (win.rises m n x.slot y.slot x.at y.at less))
    of (inl x) (inr y) =
        let low = win.carried m x.slot x.at in
        subst (λ (q : Place). IsBefore q b.place) (sym x.on.place) (subst (IsBefore x.slot.place)
        (sym (ap (λ (q : EarlierSlot). q.place) y.1 ∙ is)) low.below)
    of (inr x) (inl y) = absurd (omega (arith, x.0, y.at.short))
    of (inr x) (inr y) = absurd (omega (arith, x.0, y.0))

passes_on : (g : Graph) (has_stop : Place → Bool) (j next : Place) (mask : ℕ) (old new : List EarlierSlot) (e : EarlierSlot)
    → Joins g has_stop j next → IsWindow g has_stop old j → e.place ≡ j → HasAdvanced g j mask old new (length old)
    → (m n : ℕ) (a b : EarlierSlot) → IsAt (new ++ e ∷ []) m a → IsAt (new ++ e ∷ []) n b → m < n → (w : Walk)
    → IsThrough g has_stop a.place next w → Contains (group_since has_stop w) b.place
passes_on g has_stop j next mask old new e join win is adv m n a b h k less w t =
    of (which g j mask old new e m a adv h) (which g j mask old new e n b adv k)
  where
    from : (x : GoneOn g j mask old m a) → (c : Came g has_stop j next w) × IsThrough g has_stop x.slot.place j c.before
    from x = let low = win.carried m x.slot x.at in
        through_before g has_stop j next x.slot.place w join low.below (subst (λ (q : Place). IsThrough g has_stop q next w) x.on.place t)

    of : GoneOn g j mask old m a ⊎ ((m ≡ length old) × (a ≡ e)) → GoneOn g j mask old n b ⊎ ((n ≡ length old) × (b ≡ e))
        → Contains (group_since has_stop w) b.place
    of (inl x) (inl y) =
        let (c, through) = from x in
        let inside = win.passes m n x.slot y.slot x.at y.at less c.before through in
        subst (λ (l : List Place). Contains l b.place) (sym c.group)
        (in_tail j b.place (group_since has_stop c.before) (subst (Contains (group_since has_stop c.before)) (sym y.on.place) inside))
    of (inl x) (inr y) =
        let (c, through) = from x in
        subst (λ (l : List Place). Contains l b.place) (sym c.group)
        (in_head j b.place (group_since has_stop c.before) (sym (ap (λ (q : EarlierSlot). q.place) y.1 ∙ is)))
    of (inr x) (inl y) = absurd (omega (arith, x.0, y.at.short))
    of (inr x) (inr y) = absurd (omega (arith, x.0, y.0))

-- A slot stays where it is.
still_there : (g : Graph) (j : Place) (mask : ℕ) (old new : List EarlierSlot) (e : EarlierSlot) (m : ℕ) (a : EarlierSlot)
    → HasAdvanced g j mask old new (length old) → IsAt old m a → (b : EarlierSlot) × IsAt (new ++ e ∷ []) m b × GoesOn g j mask a b
still_there g j mask old new e m a adv at =
    let short : m < length new = omega (arith, at.short, adv.same_length) in
    let b : EarlierSlot = get_or new m e in
    let there : IsAt new m b = earlier_at new m e short in
    let (c, was, on) = adv.done m b at.short there in
    (b, pushed_left new e m b there, subst (λ (q : EarlierSlot). GoesOn g j mask q b) (at_once old m c a was at) on)

-- Each slot that is now earlier is there.
all_on : (g : Graph) (has_stop : Place → Bool) (j next : Place) (mask : ℕ) (old new : List EarlierSlot) (e : EarlierSlot)
    → Joins g has_stop j next → IsWindow g has_stop old j → e.place ≡ j → HasAdvanced g j mask old new (length old) → (w : Walk)
    → EndsIn g next w → (i : Place) → Contains (group_since has_stop w) i → HasPlace (new ++ e ∷ []) i
all_on g has_stop j next mask old new e join win is adv w there i c =
    let b = came g has_stop j next w i join.is (falls_next g j next join.edge) there c in
    elim (passed_before g has_stop j next i w b c) [
      | inl q ↦ record { index = length new; slot = e; at = pushed_last new e; is = is ∙ q }
      | inr d ↦ kept (win.all b.before b.there i d)
    ]
  where
    kept : HasPlace old i → HasPlace (new ++ e ∷ []) i
    kept h =
        let (b, there, on) = still_there g j mask old new e h.index h.slot adv h.at in
        record { index = h.index; slot = b; at = there; is = on.place ∙ h.is }

-- Each slot from an earlier one on that may write a predicate is one of the old ones or the slot that is left.
writer_on : (g : Graph) (j : Place) (mask : ℕ) (old new : List EarlierSlot) (e : EarlierSlot) (m guard : ℕ) → e.place ≡ j
    → HasAdvanced g j mask old new (length old) → HasWriter g (new ++ e ∷ []) m guard
    → HasWriter g old m guard ⊎ (may_write_guard guard (accesses_at g j) ≡ true)
writer_on g j mask old new e m guard is adv h = elim (which g j mask old new e h.index h.slot adv h.at) [
  | inl x ↦ inl (record {
    index = h.index;
    slot = x.slot;
    late = h.late;
    at = x.at;
    writes = subst (λ (k : Place). may_write_guard guard (accesses_at g k) ≡ true) x.on.place h.writes;
  })
  | inr y ↦ inr (subst (λ (k : Place). may_write_guard guard (accesses_at g k) ≡ true)
      (ap (λ (q : EarlierSlot). q.place) y.1 ∙ is) h.writes)
]

old_writer : (g : Graph) (j : Place) (mask : ℕ) (old new : List EarlierSlot) (e : EarlierSlot) (m guard : ℕ)
    → HasAdvanced g j mask old new (length old) → HasWriter g old m guard → HasWriter g (new ++ e ∷ []) m guard
old_writer g j mask old new e m guard adv h =
    let (b, there, on) = still_there g j mask old new e h.index h.slot adv h.at in
    record {
      index = h.index;
      slot = b;
      late = h.late;
      at = there;
      writes = subst (λ (k : Place). may_write_guard guard (accesses_at g k) ≡ true) (sym on.place) h.writes;
    }

new_writer : (g : Graph) (j : Place) (new : List EarlierSlot) (e : EarlierSlot) (m guard : ℕ) → e.place ≡ j → m ≤ length new
    → may_write_guard guard (accesses_at g j) ≡ true → HasWriter g (new ++ e ∷ []) m guard
new_writer g j new e m guard is low writes =
    record {
      index = length new;
      slot = e;
      late = low;
      at = pushed_last new e;
      writes = subst (λ (k : Place). may_write_guard guard (accesses_at g k) ≡ true) (sym is) writes;
    }

-- What may be written from an earlier slot on, with the slot that is left.
written_old : (g : Graph) (j : Place) (mask : ℕ) (old new : List EarlierSlot) (e : EarlierSlot) (m : ℕ) (a b : EarlierSlot) → e.place ≡ j
    → IsGuardMask mask (accesses_at g j) → HasAdvanced g j mask old new (length old) → m ≤ length new → IsWritten g old m a.written
    → GoesOn g j mask a b → IsWritten g (new ++ e ∷ []) m b.written
written_old g j mask old new e m a b is masks adv low win on = subst (IsWritten g (new ++ e ∷ []) m) (sym on.written) (record {
  has = λ guard l h. has_bit_or a.written mask guard ∙ (elim (writer_on g j mask old new e m guard is adv h) [
    | inl x ↦ or_left (has_bit a.written guard) (has_bit mask guard) (win.has guard l x)
    | inr y ↦ or_right (has_bit a.written guard) (has_bit mask guard) (masks guard l ∙ y)
  ]);
  only = λ guard l t. elim (or_cases (has_bit a.written guard) (has_bit mask guard) (sym (has_bit_or a.written mask guard) ∙ t)) [
    | inl x ↦ old_writer g j mask old new e m guard adv (win.only guard l x)
    | inr y ↦ new_writer g j new e m guard is low (sym (masks guard l) ∙ y)
  ];
})

-- What may be written from the slot that is left on.
written_new : (g : Graph) (j : Place) (mask : ℕ) (old new : List EarlierSlot) (e : EarlierSlot) → e.place ≡ j
    → IsGuardMask mask (accesses_at g j) → HasAdvanced g j mask old new (length old) → IsWritten g (new ++ e ∷ []) (length new) mask
written_new g j mask old new e is masks adv = record {
  has = λ guard l h. elim (writer_on g j mask old new e (length new) guard is adv h) [
    | inl x ↦ absurd (omega (arith, x.late, x.at.short, adv.same_length))
    | inr y ↦ masks guard l ∙ y
  ];
  only = λ guard l t. new_writer g j new e (length new) guard is (omega arith) (sym (masks guard l) ∙ t);
}

pub next_window : (g : Graph) (has_stop : Place → Bool) (j next : Place) (f : Pairs) (mask : ℕ) (old new : List EarlierSlot)
    (e : EarlierSlot) → Joins g has_stop j next → IsMeetIn g j f → IsWindow g has_stop old j → HasAdvanced g j mask old new (length old)
    → IsSlotOf g j f mask e → IsGuardMask mask (accesses_at g j) → IsWindow g has_stop (new ++ e ∷ []) next
next_window g has_stop j next f mask old new e join meet win adv is masks = record {
  size = (let up : place_number j < place_number next = number_rises j next (slot_below g j join.is) (falls_up g j next join.edge) in
      omega (arith, win.size, adv.same_length, length-append new (e ∷ [])));
  carried = λ m b h. elim (which g j mask old new e m b adv h) [
    | inl x ↦ carried_old g has_stop j next mask x.slot b join (win.carried m x.slot x.at) x.on
    | inr y ↦ subst (IsCarried g has_stop next) (sym y.1) (carried_new g has_stop j next f mask e join meet is)
  ];
  rises = rises_on g has_stop j mask old new e win is.place adv;
  passes = passes_on g has_stop j next mask old new e join win is.place adv;
  written = λ m b h. elim (which g j mask old new e m b adv h) [
    | inl x ↦ written_old g j mask old new e m x.slot b is.place masks adv (omega (arith, x.at.short, adv.same_length))
        (win.written m x.slot x.at) x.on
    | inr y ↦ (let P : ℕ → ℕ → Type 0 = λ k w. IsWritten g (new ++ e ∷ []) k w in
        subst (λ (k : ℕ). P k b.written) (adv.same_length ∙ sym y.0)
        (subst (P (length new)) (sym (ap (λ (q : EarlierSlot). q.written) y.1 ∙ is.written))
        (written_new g j mask old new e is.place masks adv)))
  ];
  last = λ m b h end. elim (which g j mask old new e m b adv h) [
    | inl x ↦ absurd (omega (arith, x.at.short, adv.same_length, length-append new (e ∷ [])))
    | inr y ↦ subst (λ (k : Place). IsEdgeIn g k Falls next) (sym (ap (λ (q : EarlierSlot). q.place) y.1 ∙ is.place)) join.edge
  ];
  all = all_on g has_stop j next mask old new e join win is.place adv;
}

-- The slots go on one after another.
pub none_advanced : (g : Graph) (j : Place) (mask : ℕ) (old : List EarlierSlot) → HasAdvanced g j mask old old 0
none_advanced g j mask old = record { same_length = refl; done = λ m b l h. absurd (omega arith); left = λ m b l h. h }

pub one_advanced : (g : Graph) (j : Place) (mask : ℕ) (old now : List EarlierSlot) (n : ℕ) (a b : EarlierSlot)
    → HasAdvanced g j mask old now n → IsAt now n a → GoesOn g j mask a b → HasAdvanced g j mask old (set now n b) (n + 1)
one_advanced g j mask old now n a b adv at on = record {
  same_length = length-set now n b ∙ adv.same_length;
  done = λ m c l h. elim (cases_eq m n) [
    | inl e ↦ (let is : c ≡ b = sym h.is ∙ ap (λ (k : ℕ). get_or (set now n b) k c) e ∙ get_or-set_same now n b c at.short in
        (a, subst (λ (k : ℕ). IsAt old k a) (sym e) (adv.left n a (omega arith) at), subst (GoesOn g j mask a) (sym is) on))
    | inr ne ↦ adv.done m c (omega arith) (kept m c ne h)
  ];
  left = λ m c l h. let ne : m ≡ n → ⊥ = λ e. omega arith in adv.left m c (omega arith) (kept m c ne h);
}
  where
    kept : (m : ℕ) (c : EarlierSlot) → (m ≡ n → ⊥) → IsAt (set now n b) m c → IsAt now m c
    kept m c ne h = record { short = omega (arith, h.short, length-set now n b); is = sym (get_or-set_other now n m b c ne) ∙ h.is }

-- Where all slots have gone on, and one behind them too, these are the others and what that one has become.
pub record AreWith (g : Graph) (j : Place) (mask : ℕ) (old : List EarlierSlot) (e : EarlierSlot) (new : List EarlierSlot) : Type 0 where
  pub others : List EarlierSlot
  pub last : EarlierSlot
  pub advanced : HasAdvanced g j mask old others (length old)
  pub on : GoesOn g j mask e last
  pub is : new ≡ others ++ last ∷ []

pub advanced_with : (g : Graph) (j : Place) (mask : ℕ) (old new : List EarlierSlot) (e : EarlierSlot)
    → HasAdvanced g j mask (old ++ e ∷ []) new (length (old ++ e ∷ [])) → AreWith g j mask old e new
advanced_with g j mask old new e adv = record {
  others = take (length old) new;
  last = get_or new (length old) e;
  advanced = record {
    same_length = length-take-le (length old) new (omega (arith, sized));
    done = λ m b l h.
        let (a, at, on) = adv.done m b (omega (arith, sized, adv.same_length)) (within m b l h) in
        elim (at_push old e m a at) [
          | inl k ↦ (a, k, on)
          | inr k ↦ absurd (omega (arith, k.0))
        ];
    left = λ m b l h. absurd (omega (arith, h.short, length-take-le (length old) new (omega (arith, sized))));
  };
  on =
      (let (a, at, on) = adv.done (length old) (get_or new (length old) e) (omega (arith, sized, adv.same_length))
      (earlier_at new (length old) e (omega (arith, sized))) in
      subst (λ (q : EarlierSlot). GoesOn g j mask q (get_or new (length old) e))
      (at_once (old ++ e ∷ []) (length old) a e at (pushed_last old e)) on);
  is =
      sym (take_all (length old + 1) new (omega (arith, sized))) ∙ ap (λ (k : ℕ). take k new) one_more
      ∙ take-suc new (length old) e (omega (arith, sized));
}
  where
    sized : length new ≡ length old + 1
    sized = omega (arith, adv.same_length, length-append old (e ∷ []))

    one_more : length old + 1 ≡ suc (length old)
    one_more = omega arith

    within : (m : ℕ) (b : EarlierSlot) → m < length old → IsAt (take (length old) new) m b → IsAt new m b
    within m b l h = record { short = omega (arith, sized); is = sym (get_or-take (length old) new m b l) ∙ h.is }

-- What that one has become is the slot at j, where it was that before.
pub is_slot_of : (g : Graph) (j : Place) (mask : ℕ) (e last : EarlierSlot) → GoesOn g j mask e last → e.place ≡ j → e.clears ≡ clears_at g j
    → e.masks ≡ accesses_at g j → e.written ≡ 0 → IsSlotOf g j (pairs_of e.known) mask last
is_slot_of g j mask e last on place clears accesses none = record {
  place = on.place ∙ place;
  clears = on.clears ∙ clears;
  accesses = on.accesses ∙ accesses;
  known = on.known;
  written = on.written ∙ ap (λ (n : ℕ). bit_or n mask) none;
}

-- The predicates that are written.
pub guard_mask : (mask : ℕ) (accesses : List Access) → ((g : ℕ) → g < 64 → bit mask g ≡ may_write_guard g accesses)
    → IsGuardMask mask accesses
unfolding has_bit
guard_mask mask accesses each = each
