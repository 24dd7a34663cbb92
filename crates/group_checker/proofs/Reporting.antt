-- The report counts and begins to show the one rising list of all violations.
use Rattle.std.proofs.Common.{◌≡◌, ℕ, zero, suc, ◌+◌, ◌-◌, ◌*◌, ◌<◌, ◌≤◌, ◌⊎◌, Bool, true, false, cond, eqb, eq-eqb, None, Some, List, [], ◌∷◌, ◌++◌, length, length-append, length-take, take, get_or, append_assoc, refl, sym, ap, ◌∙◌, subst, arith, inl, inr}
use Rattle.std.specs.Prelude.{Contains, map}
use Rattle.std.proofs.lemmas.List.{take_all, take_more, append-nil, map-append}
use Rattle.std.proofs.lemmas.Bool.{cases_eq, ne_eqb}
use Rattle.std.proofs.Math.Seq.{take-append-add}
use Rattle.std.proofs.lemmas.List.Elements.{Contains-append_left, Contains-append_right, Contains-append_cases}
use Rattle.ia_program.specs.declared.place.Place.{Place}
use Rattle.ia_program.specs.Places.{place_number, IsBefore, IsNext, IsPlaceOf}
use Rattle.ia_program.specs.Programs.{Program, IsProgram}
use Rattle.ia_program.proofs.InOrder.{bundle_small, slot_small}
use Rattle.ia_meaning.specs.Sequence.{first_of, next_of, is_stopped}
use Rattle.ia_meaning.proofs.Follows.{next_is}
use Rattle.ia_meaning.proofs.Sequences.{next_fits}
use Rattle.resource_sets.specs.declared.access.Resource.{Resource}
use Rattle.resource_sets.specs.declared.sets.ResourceSet.{ResourceSet}
use Rattle.resource_sets.specs.declared.sets.TheConstants.{RESOURCE_COUNT}
use Rattle.resource_sets.specs.declared.clashes.Rule.{Rule}
use Rattle.resource_sets.specs.declared.clashes.Rule.TheVariants.{Raw, Waw, War63, AllocFirst, ClearLast}
use Rattle.resource_sets.specs.ResourceSets.{resources_in}
use Rattle.resource_sets.proofs.Members.{not_in_none}
use Rattle.flow_facts.specs.Graphs.{Graph, over_program}
use Rattle.order_laws.specs.declared.violation.Violation.{Violation}
use Rattle.group_checker.specs.declared.window.EarlierSlot.{EarlierSlot}
use Rattle.group_checker.specs.declared.report.TheConstants.{SHOWN_LIMIT}
use Rattle.group_checker.specs.declared.report.Verdict.TheVariants.{Accepted, Violations}
use Rattle.group_checker.specs.Order.{Precedes, IsListOf}
use Rattle.group_checker.specs.Shown.{Report}
use Rattle.order_laws.specs.Violations.{ViolatesIn, Violates, HasNoViolation}
use Rattle.group_checker.specs.Reports.{Shows, IsVerdict}
use Rattle.group_checker.specs.Windows.{IsWindow, IsAt}
use Rattle.group_checker.specs.Findings.{IsPair, IsNthPair, AreBroken}
use Rattle.group_checker.specs.declared.broken.Broken.{Broken}
use Rattle.group_checker.specs.Broken.{is_broken, violations_by, violations_of}
use Rattle.group_checker.specs.Progress.{HasReported, IsEarlier, IsEarlierPair, IsUpTo, pair_bound, place_bound, ReportsAll}
use Rattle.group_checker.proofs.EarlierSlots.{at_once}
use Rattle.group_checker.proofs.ListedViolations.{listed}
use Rattle.order_laws.proofs.Falling.{before_trans, number_rises, place_cases, next_after, comes_from}
use Rattle.group_checker.proofs.Rising.{precedes_by_second, precedes_by_first, rises_append, rises_none}

-- What is cut is cut again.
pub take_again : {A : Type 0} (n : ℕ) (xs ys : List A) → take n (take n xs ++ ys) ≡ take n (xs ++ ys)
take_again zero xs ys = refl
take_again (suc n) [] ys = refl
take_again (suc n) (x ∷ xs) ys = ap (λ l. x ∷ l) (take_again n xs ys)

-- A list that is filled up.
pub take_room : {A : Type 0} (n : ℕ) (xs ys zs : List A) → length xs ≤ n → zs ≡ xs ++ take (n - length xs) ys → zs ≡ take n (xs ++ ys)
take_room n xs ys zs l e =
    let all : length xs + (n - length xs) ≡ n = omega arith in
    e ∙ sym (take-append-add xs ys (n - length xs)) ∙ ap (λ m. take m (xs ++ ys)) all

-- One more is shown where there is room.
pub shown_more : {A : Type 0} (n : ℕ) (xs zs : List A) (x : A) → length xs < n → zs ≡ xs ++ x ∷ [] → zs ≡ take n (xs ++ x ∷ [])
shown_more n xs zs x l e = e ∙ sym (take_all n (xs ++ x ∷ []) (omega (arith, length-append xs (x ∷ []))))

-- No violation more is shown where there is no room.
pub shown_full : {A : Type 0} (n : ℕ) (xs : List A) (x : A) → length xs ≤ n → n ≤ length xs → xs ≡ take n (xs ++ x ∷ [])
shown_full n xs x l m = take_room n xs (x ∷ []) xs l (let none : n - length xs ≡ 0 = omega arith in rw none (sym (append-nil xs)))

-- No more.
pub none_more : {A : Type 0} (n : ℕ) (xs : List A) → length xs ≤ n → xs ≡ take n (xs ++ [])
none_more n xs l = take_room n xs [] xs l (none (n - length xs))
  where
    none : (k : ℕ) → xs ≡ xs ++ take k []
    none zero = sym (append-nil xs)
    none (suc k) = sym (append-nil xs)

-- What is shown, and more of it.
pub shown_again : {A : Type 0} (n : ℕ) (old xs ys mid new : List A) → mid ≡ take n (old ++ xs) → new ≡ take n (mid ++ ys)
    → new ≡ take n (old ++ (xs ++ ys))
shown_again n old xs ys mid new a b =
    b ∙ ap (λ l. take n (l ++ ys)) a ∙ take_again n (old ++ xs) ys ∙ ap (λ l. take n l) (append_assoc old xs ys)

-- One more image of a list.
pub map_more : {A B : Type 0} (g : A → B) (xs : List A) (k : ℕ) (d : A) → k < length xs
    → map g (take (k + 1) xs) ≡ map g (take k xs) ++ g (get_or xs k d) ∷ []
map_more g xs k d short = ap (λ l. map g l) (take_more xs k d short) ∙ map-append g (take k xs) (get_or xs k d ∷ [])

-- What is shown of a rule.
pub shown_by : (was old : List Violation) (found : List Resource) (resources : ResourceSet) (first second : Place) (rule : Rule)
    (new : List Violation) → was ≡ old → found ≡ resources_in resources
    → new ≡ take SHOWN_LIMIT (was ++ map (λ q. record { second = second; first = first; rule = rule; resource = q }) found)
    → new ≡ take SHOWN_LIMIT (old ++ violations_by first second rule resources)
unfolding violations_by
shown_by was old found resources first second rule new a b e =
    e ∙ ap (λ (l : List Violation). take SHOWN_LIMIT (l ++ map (λ q. record { second = second; first = first; rule = rule; resource = q })
    found)) a
    ∙ ap (λ (l : List Resource). take SHOWN_LIMIT (old ++ map (λ q. record { second = second; first = first; rule = rule; resource = q })
    l)) b

-- Once a hundred are shown, no more are.
pub shown_over : {A : Type 0} (n : ℕ) (xs ys : List A) → length xs ≤ n → n ≤ length xs → xs ≡ take n (xs ++ ys)
shown_over n xs ys l m = take_room n xs ys xs l (let none : n - length xs ≡ 0 = omega arith in rw none (sym (append-nil xs)))

-- What is reported by one rule after the other.
pub record IsAdded (old new : Report) (found : List Violation) : Type 0 where
  pub few : length found ≤ RESOURCE_COUNT
  pub total : new.total ≡ old.total + length found
  pub shown : new.shown ≡ take SHOWN_LIMIT (old.shown ++ found)

-- Of a list that is empty nothing is.
pub none_added : (r : Report) (found : List Violation) → length r.shown ≤ SHOWN_LIMIT → length found ≡ 0 → IsAdded r r found
none_added r [] l e = record { few = omega arith; total = omega arith; shown = none_more SHOWN_LIMIT r.shown l }
none_added r (v ∷ vs) l e = cc

pub record AreAdded (old new : Report) (found : List Violation) (bound : ℕ) : Type 0 where
  pub few : length found ≤ bound
  pub total : new.total ≡ old.total + length found
  pub shown : new.shown ≡ take SHOWN_LIMIT (old.shown ++ found)

pub added_after : (old mid new : Report) (xs ys : List Violation) (bound : ℕ) → AreAdded old mid xs bound → IsAdded mid new ys
    → AreAdded old new (xs ++ ys) (bound + RESOURCE_COUNT)
added_after old mid new xs ys bound a b = record {
  few = omega (arith, length-append xs ys, a.few, b.few);
  total = omega (arith, length-append xs ys, a.total, b.total);
  shown = shown_again SHOWN_LIMIT old.shown xs ys mid.shown new.shown a.shown b.shown;
}

-- No more are shown than the limit.
pub shown_short : (n : ℕ) (r : List Violation) (all : List Violation) → r ≡ take n all → length r ≤ n
shown_short n r all e = rw e (simp length-take (omega arith))

-- What is reported of all rules.
pub all_added : (first second : Place) (b : Broken) (r r1 r2 r3 r4 r5 : Report)
    → IsAdded r r1 (violations_by first second Raw b.raw) → IsAdded r1 r2 (violations_by first second Waw b.waw)
    → IsAdded r2 r3 (violations_by first second War63 b.war63)
    → IsAdded r3 r4 (violations_by first second AllocFirst b.alloc_first)
    → IsAdded r4 r5 (violations_by first second ClearLast b.clear_last)
    → AreAdded r r5 (violations_of first second b) pair_bound
unfolding violations_of
all_added first second b r r1 r2 r3 r4 r5 x1 x2 x3 x4 x5 =
    let one : AreAdded r r1 (violations_by first second Raw b.raw) RESOURCE_COUNT =
    record { few = x1.few; total = x1.total; shown = x1.shown } in
    let two = added_after r r1 r2 (violations_by first second Raw b.raw) (violations_by first second Waw b.waw) RESOURCE_COUNT one x2 in
    let three =
    added_after r r2 r3 (violations_by first second Raw b.raw ++ violations_by first second Waw b.waw)
    (violations_by first second War63 b.war63) (2 * RESOURCE_COUNT) two x3 in
    let four =
    added_after r r3 r4 ((violations_by first second Raw b.raw ++ violations_by first second Waw b.waw) ++ violations_by first second
    War63 b.war63) (violations_by first second AllocFirst b.alloc_first) (3 * RESOURCE_COUNT) three x4 in
    added_after r r4 r5 (((violations_by first second Raw b.raw ++ violations_by first second Waw b.waw) ++ violations_by first second War63
    b.war63) ++ violations_by first second AllocFirst b.alloc_first) (violations_by first second ClearLast b.clear_last)
    (4 * RESOURCE_COUNT) four x5

-- A list of some violations is followed by one of later ones.
list_append : (P Q R : Violation → Type 0) (xs ys : List Violation) → ((v : Violation) → P v → R v) → ((v : Violation) → Q v → R v)
    → ((v : Violation) → R v → P v ⊎ Q v) → ((v w : Violation) → P v → Q w → Precedes v w) → IsListOf P xs → IsListOf Q ys
    → IsListOf R (xs ++ ys)
list_append P Q R xs ys p q r before a b = record {
  rises = rises_append xs ys a.rises b.rises (λ v w c d. before v w (a.only v c) (b.only w d));
  has = λ v h. elim (r v h) [ inl x ↦ Contains-append_left xs ys v (a.has v x) | inr y ↦ Contains-append_right xs ys v (b.has v y) ];
  only = λ v c. elim (Contains-append_cases xs ys v c) [ inl d ↦ p v (a.only v d) | inr d ↦ q v (b.only v d) ];
}

-- A list of violations is one by a property that says the same.
list_like : (P Q : Violation → Type 0) (xs : List Violation) → ((v : Violation) → P v → Q v) → ((v : Violation) → Q v → P v) → IsListOf P xs
    → IsListOf Q xs
list_like P Q xs to from a = record { rises = a.rises; has = λ v q. a.has v (from v q); only = λ v c. to v (a.only v c) }

-- A report is one of other violations that are the same.
retold : (p : Program) (r : Report) (P Q : Violation → Type 0) (bound more : ℕ) → bound ≤ more
    → ((v : Violation) → Violates p v → P v → Q v) → ((v : Violation) → Violates p v → Q v → P v) → HasReported p r P bound
    → HasReported p r Q more
retold p r P Q bound more l to from u = record {
  all = u.all;
  list =
      list_like (λ v. Violates p v × P v) (λ v. Violates p v × Q v) u.all (λ v h. (h.0, to v h.0 h.1))
      (λ v h. (h.0, from v h.0 h.1)) u.list;
  shows = u.shows;
  small = omega (arith, u.small);
}

-- A report with a wider bound.
pub bounded : (p : Program) (r : Report) (P : Violation → Type 0) (bound more : ℕ) → bound ≤ more → HasReported p r P bound
    → HasReported p r P more
bounded p r P bound more l u = retold p r P P bound more l (λ v x h. h) (λ v x h. h) u

-- Pairs with an earlier first slot come before.
pair_precedes : (p : Program) (es : List EarlierSlot) (j : Place) (n : ℕ) (v w : Violation)
    → IsWindow (over_program p) (is_stopped p.bundles) es j → IsEarlierPair es j n v → IsNthPair es n j w → Precedes v w
pair_precedes p es j n v w win (inl h) k = precedes_by_second v w (subst (IsBefore v.second) (sym k.pair.1) h)
pair_precedes p es j n v w win (inr h) k =
    let has = h.1.has in
    let up = win.rises has.index n has.slot k.slot has.at k.at h.1.below in
    precedes_by_first v w (h.0 ∙ sym k.pair.1)
    (subst (λ (q : Place). IsBefore q w.first) has.is (subst (IsBefore has.slot.place) (sym k.pair.0) up))

-- The violations of one more pair of slots.
pub pair_reported : (p : Program) (old new : Report) (es : List EarlierSlot) (j : Place) (n bound : ℕ) (found : List Violation)
    → IsWindow (over_program p) (is_stopped p.bundles) es j → HasReported p old (IsEarlierPair es j n) bound
    → IsListOf (λ v. IsNthPair es n j v × Violates p v) found → length found ≤ pair_bound → new.total ≡ old.total + length found
    → new.shown ≡ take SHOWN_LIMIT (old.shown ++ found) → HasReported p new (IsEarlierPair es j (n + 1)) (bound + pair_bound)
pair_reported p old new es j n bound found win r list few total shown = record {
  all = r.all ++ found;
  list =
      list_append (λ v. Violates p v × IsEarlierPair es j n v) (λ v. IsNthPair es n j v × Violates p v)
      (λ v. Violates p v × IsEarlierPair es j (n + 1) v) r.all found
      (λ v h. (h.0, wider v h.1)) (λ v h. (h.1, added v h.0)) (λ v h. split v h.0 h.1)
      (λ v w h k. pair_precedes p es j n v w win h.1 k.0) r.list list;
  shows = record {
    total = total ∙ ap (λ (n : ℕ). n + length found) r.shows.total ∙ sym (length-append r.all found);
    shown = shown ∙ ap (λ (l : List Violation). take SHOWN_LIMIT (l ++ found)) r.shows.shown ∙ take_again SHOWN_LIMIT r.all found;
  };
  small = omega (arith, length-append r.all found, r.small);
}
  where
    wider : (v : Violation) → IsEarlierPair es j n v → IsEarlierPair es j (n + 1) v
    wider v (inl l) = inl l
    wider v (inr e) = inr (e.0, record { has = e.1.has; below = omega (arith, e.1.below) })

    added : (v : Violation) → IsNthPair es n j v → IsEarlierPair es j (n + 1) v
    added v k = inr (k.pair.1, record { has = record { index = n; slot = k.slot; at = k.at; is = sym k.pair.0 }; below = omega arith })

    split : (v : Violation) → Violates p v → IsEarlierPair es j (n + 1) v
        → (Violates p v × IsEarlierPair es j n v) ⊎ (IsNthPair es n j v × Violates p v)
    split v x (inl l) = inl (x, inl l)
    split v x (inr e) = elim (cases_eq e.1.has.index n) [
      | inl q ↦ inr (
        record {
          slot = e.1.has.slot;
          at = subst (λ (m : ℕ). IsAt es m e.1.has.slot) q e.1.has.at;
          pair = (sym e.1.has.is, e.0);
        },
        x,
      )
      | inr q ↦ inl (x, inr (e.0, record { has = e.1.has; below = omega (arith, e.1.below) }))
    ]

-- Those of one pair of slots, told by what is broken.
pub pair_listed : (g : Graph) (has_stop : Place → Bool) (es : List EarlierSlot) (j : Place) (n : ℕ) (e : EarlierSlot) (b : Broken)
    → IsAt es n e → AreBroken g has_stop es n j b → IsListOf (λ v. IsNthPair es n j v × ViolatesIn g has_stop v) (violations_of e.place j b)
pair_listed g has_stop es j n e b at all =
    list_like (λ v. IsPair e.place j v × (is_broken b v ≡ true)) (λ v. IsNthPair es n j v × ViolatesIn g has_stop v)
    (violations_of e.place j b)
    (λ v h. (nth v h.0, all.only v (nth v h.0) h.1))
    (λ v h. (subst (λ (q : EarlierSlot). IsPair q.place j v) (at_once es n h.0.slot e h.0.at at) h.0.pair, all.has v h.0 h.1))
    (listed e.place j b)
  where
    nth : (v : Violation) → IsPair e.place j v → IsNthPair es n j v
    nth v pair = record { slot = e; at = at; pair = pair }

-- What is reported stays with a pair of slots that breaks no rule.
pub pair_apart : (p : Program) (r : Report) (es : List EarlierSlot) (j : Place) (n bound : ℕ)
    → ((v : Violation) → IsNthPair es n j v → ¬ Violates p v) → HasReported p r (IsEarlierPair es j n) bound
    → HasReported p r (IsEarlierPair es j (n + 1)) (bound + pair_bound)
pair_apart p r es j n bound none u =
    retold p r (IsEarlierPair es j n) (IsEarlierPair es j (n + 1)) bound (bound + pair_bound) (omega arith) wider less u
  where
    wider : (v : Violation) → Violates p v → IsEarlierPair es j n v → IsEarlierPair es j (n + 1) v
    wider v x (inl l) = inl l
    wider v x (inr e) = inr (e.0, record { has = e.1.has; below = omega (arith, e.1.below) })

    less : (v : Violation) → Violates p v → IsEarlierPair es j (n + 1) v → IsEarlierPair es j n v
    less v x (inl l) = inl l
    less v x (inr e) = elim (cases_eq e.1.has.index n) [
      | inl q ↦ absurd (none v (record {
        slot = e.1.has.slot;
        at = subst (λ (m : ℕ). IsAt es m e.1.has.slot) q e.1.has.at;
        pair = (sym e.1.has.is, e.0);
      }) x)
      | inr q ↦ inr (e.0, record { has = e.1.has; below = omega (arith, e.1.below) })
    ]

-- At the first slot of the window.
pub none_of_second : (p : Program) (r : Report) (es : List EarlierSlot) (j : Place) (bound : ℕ) → HasReported p r (IsEarlier j) bound
    → HasReported p r (IsEarlierPair es j 0) bound
none_of_second p r es j bound u =
    retold p r (IsEarlier j) (IsEarlierPair es j 0) bound bound (omega arith) (λ v x h. inl h) (λ v x h. of v h) u
  where
    of : (v : Violation) → IsEarlierPair es j 0 v → IsEarlier j v
    of v (inl h) = h
    of v (inr h) = absurd (omega (arith, h.1.below))

-- Past the last slot of the window all violations with one second slot are reported.
pub second_reported : (p : Program) (r : Report) (es : List EarlierSlot) (j : Place) (bound : ℕ)
    → IsWindow (over_program p) (is_stopped p.bundles) es j → HasReported p r (IsEarlierPair es j (length es)) bound
    → HasReported p r (IsUpTo j) bound
second_reported p r es j bound win u =
    retold p r (IsEarlierPair es j (length es)) (IsUpTo j) bound bound (omega arith) (λ v x h. less v h) more u
  where
    less : (v : Violation) → IsEarlierPair es j (length es) v → IsUpTo j v
    less v (inl h) = inl h
    less v (inr h) = inr h.0

    more : (v : Violation) → Violates p v → IsUpTo j v → IsEarlierPair es j (length es) v
    more v x (inl h) = inl h
    more v x (inr h) =
        let has = win.all x.walk (record { walks = x.there.walks; ends = x.there.ends ∙ h }) v.first x.inside in
        inr (h, record { has = has; below = has.at.short })

-- The second slot of a violation is a place.
second_is_place : (p : Program) (v : Violation) → Violates p v → IsPlaceOf p.bundles v.second
second_is_place p v x =
    let from = comes_from (over_program p) (is_stopped p.bundles) x.walk v.first x.there.walks x.inside in
    subst (IsPlaceOf p.bundles) x.there.ends from.edge.lands

-- The places of a program have small numbers.
pub number_small : (p : Program) (j : Place) → IsProgram p → IsPlaceOf p.bundles j → place_number j < place_bound
number_small p j program is =
    let slot = slot_small p.bundles j is in
    let bundle = bundle_small p.bundles j is in
    omega (arith, program.counts.bundles)

-- The next place has a higher number.
pub number_next : (p : Program) (j next : Place) → IsPlaceOf p.bundles j → next_of p.bundles j ≡ Some next
    → place_number j < place_number next
number_next p j next is follows = number_rises j next (slot_small p.bundles j is) (next_after (over_program p) j next follows)

-- What comes before the next place is what came up to this one.
pub next_reported : (p : Program) (r : Report) (j next : Place) (bound more : ℕ) → next_of p.bundles j ≡ Some next → bound ≤ more
    → HasReported p r (IsUpTo j) bound → HasReported p r (IsEarlier next) more
next_reported p r j next bound more follows l u = retold p r (IsUpTo j) (IsEarlier next) bound more l to from u
  where
    is : IsNext p.bundles j next
    is = next_is p.bundles j next follows

    to : (v : Violation) → Violates p v → IsUpTo j v → IsEarlier next v
    to v x (inl h) = before_trans v.second j next h is.after
    to v x (inr h) = subst (λ (q : Place). IsBefore q next) (sym h) is.after

    from : (v : Violation) → Violates p v → IsEarlier next v → IsUpTo j v
    from v x h = elim (place_cases v.second j) [
      | inl low ↦ inl low
      | inr e ↦ elim e [ inl same ↦ inr same | inr high ↦ absurd (is.first v.second (second_is_place p v x) high h) ]
    ]

-- Where no place follows, what came up to it is all.
pub all_reported : (p : Program) (r : Report) (j : Place) (bound : ℕ) → next_of p.bundles j ≡ None → HasReported p r (IsUpTo j) bound
    → ReportsAll p r
all_reported p r j bound end u = record {
  all = u.all;
  list = list_like (λ v. Violates p v × IsUpTo j v) (Violates p) u.all (λ v h. h.0) (λ v x. (x, up_to v x)) u.list;
  shows = u.shows;
}
  where
    none : (q : Place) → IsPlaceOf p.bundles q → IsBefore j q → ⊥
    none = rw end at (next_fits p.bundles j)

    up_to : (v : Violation) → Violates p v → IsUpTo j v
    up_to v x = elim (place_cases v.second j) [
      | inl low ↦ inl low
      | inr e ↦ elim e [ inl same ↦ inr same | inr high ↦ absurd (none v.second (second_is_place p v x) high) ]
    ]

-- A report of none is one on a program without violations.
pub free_of_none : (p : Program) (r : Report) → ReportsAll p r → r.total ≡ 0 → HasNoViolation p
free_of_none p r a none = of a.all refl
  where
    of : (all : List Violation) → a.all ≡ all → HasNoViolation p
    of [] e = λ v x. not_in_none v (subst (λ (l : List Violation). Contains l v) e (a.list.has v x))
    of (v ∷ vs) e = absurd (omega (arith, a.shows.total, ap length e))

-- The verdict of a report.
pub verdict_of : (p : Program) (r : Report) → ReportsAll p r → IsVerdict p (cond (eqb r.total 0) (Accepted p) (Violations r))
verdict_of p r a = of a.all refl
  where
    of : (all : List Violation) → a.all ≡ all → IsVerdict p (cond (eqb r.total 0) (Accepted p) (Violations r))
    of [] e =
        let none : r.total ≡ 0 = a.shows.total ∙ ap length e in
        let is : eqb r.total 0 ≡ true = eq-eqb r.total 0 none in
        rw is (refl, free_of_none p r a none)
    of (v ∷ vs) e =
        let some : eqb r.total 0 ≡ false = ne_eqb r.total 0 (λ z. omega (arith, a.shows.total, ap length e)) in
        rw some (record { all = a.all; list = a.list; some = omega (arith, ap length e); shows = a.shows })

-- At the first place nothing is reported.
pub none_reported : (p : Program) (r : Report) → r.total ≡ 0 → r.shown ≡ [] → HasReported p r (IsEarlier (first_of 0)) 0
none_reported p r a b = record {
  all = [];
  list = record { rises = rises_none; has = λ v h. absurd (never v h.1); only = λ v c. absurd (not_in_none v c) };
  shows = record { total = a; shown = b };
  small = omega arith;
}
  where
    never : (v : Violation) → IsEarlier (first_of 0) v → ⊥
    never v (inl l) = omega arith
    never v (inr e) = omega (arith, e.1)
