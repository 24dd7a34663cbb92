-- The first violation with the slot under way, and whether there is one.
use Rattle.std.proofs.Common.{◌≡◌, ℕ, ◌+◌, ◌<◌, ◌≤◌, ◌⊎◌, Bool, true, false, not, eqb, eq-eqb, List, [], ◌∷◌, ◌++◌, length, Option, None, Some, refl, sym, ap, ◌∙◌, subst, arith, inl, inr}
use Rattle.std.specs.Prelude.{Contains, MatchOption, IsTrue, ◌↔◌, slice_get}
use Rattle.std.specs.Bool.{OnTrue, OnFalse}
use Rattle.std.specs.Option.{option_or, option_map}
use Rattle.std.specs.List.Sorted.{IsStrictlySortedBy}
use Rattle.std.specs.declared.cmp.Ordering.TheVariants.{Less}
use Rattle.std.proofs.lemmas.Bool.{cases_lt, cases_Bool, cases_eq, true≢false}
use Rattle.std.proofs.lemmas.Bool.Decides.{nat_tests}
use Rattle.std.proofs.lemmas.Option.{slice_get-map}
use Rattle.ia_program.specs.declared.place.Place.{Place}
use Rattle.ia_program.specs.Places.{IsBefore}
use Rattle.resource_sets.specs.declared.access.Resource.{Resource}
use Rattle.resource_sets.specs.declared.sets.ResourceSet.{ResourceSet}
use Rattle.resource_sets.specs.declared.clashes.Rule.{Rule}
use Rattle.resource_sets.specs.declared.clashes.Rule.TheVariants.{Raw, Waw, War63, AllocFirst, ClearLast}
use Rattle.resource_sets.specs.ResourceSets.{has_resource, resources_in}
use Rattle.resource_sets.proofs.Members.{not_in_none, cases_in, head_in}
use Rattle.flow_facts.specs.Graphs.{Graph}
use Rattle.order_laws.specs.declared.violation.Violation.{Violation}
use Rattle.group_checker.specs.declared.window.EarlierSlot.{EarlierSlot}
use Rattle.group_checker.specs.declared.broken.Broken.{Broken}
use Rattle.group_checker.specs.Order.{compare, Precedes, Rises, IsListOf}
use Rattle.order_laws.specs.Violations.{ViolatesIn}
use Rattle.group_checker.specs.Windows.{IsAt, IsWindow}
use Rattle.group_checker.specs.Findings.{IsNthPair, IsPairViolated, IsFirstOfPair, AreBroken}
use Rattle.group_checker.specs.Firsts.{IsViolatedAt, IsFirstAt}
use Rattle.group_checker.specs.Broken.{broken_on, is_broken, violations_by, violations_of}
use Rattle.group_checker.proofs.SetLists.{in_each, in_resources, from_resources}
use Rattle.group_checker.proofs.Rising.{precedes_by_first}

-- A set without a resource has none.
no_resource : (s : ResourceSet) (q : Resource) → length (resources_in s) ≡ 0 → has_resource s q ≡ false
no_resource s q none = elim (cases_Bool (has_resource s q)) [
  | inl t ↦ (let (k, l, e) = in_resources s q t in absurd (omega (arith, l, none)))
  | inr f ↦ f
]

-- A set whose list isn't empty has a resource.
some_resource : (s : ResourceSet) → (length (resources_in s) ≡ 0 → ⊥) → (q : Resource) × (has_resource s q ≡ true)
some_resource s some = of (resources_in s) refl
  where
    of : (l : List Resource) → resources_in s ≡ l → (q : Resource) × (has_resource s q ≡ true)
    of [] e = absurd (some (ap (length {A = Resource}) e))
    of (q ∷ qs) e = (q, from_resources s q (subst (λ (l : List Resource). Contains l q) (sym e) (head_in q qs)))

-- No rule is broken where no set of a rule has a resource.
pub nothing_broken : (b : Broken) → ((rule : Rule) → length (resources_in (broken_on b rule)) ≡ 0) → (v : Violation) → is_broken b v ≡ false
nothing_broken b none v = no_resource (broken_on b v.rule) v.resource (none v.rule)

-- A rule is broken where its set has a resource.
pub something_broken : (b : Broken) (rule : Rule) → (length (resources_in (broken_on b rule)) ≡ 0 → ⊥)
    → (v : Violation) × (is_broken b v ≡ true)
something_broken b rule some =
    let (q, has) = some_resource (broken_on b rule) some in
    let place : Place = record { bundle = 0; slot = 0 } in
    (record { second = place; first = place; rule = rule; resource = q }, has)

-- Whether a rule is broken is told by how many resources the sets have.
pub broken_by_counts : (b : Broken) (raw waw war63 alloc clear : ℕ) → raw ≡ length (resources_in b.raw) → waw ≡ length (resources_in b.waw)
    → war63 ≡ length (resources_in b.war63) → alloc ≡ length (resources_in b.alloc_first) → clear ≡ length (resources_in b.clear_last)
    → (none : Bool) → eqb (raw + waw + war63 + alloc + clear) 0 ≡ none
    → OnTrue none ((v : Violation) → is_broken b v ≡ false) × OnFalse none ((v : Violation) × (is_broken b v ≡ true))
broken_by_counts b raw waw war63 alloc clear q r s t u none e = by_test none e
  where
    none_of : raw + waw + war63 + alloc + clear ≡ 0 → (rule : Rule) → length (resources_in (broken_on b rule)) ≡ 0
    none_of h Raw = omega (arith, h, q)
    none_of h Waw = omega (arith, h, r)
    none_of h War63 = omega (arith, h, s)
    none_of h AllocFirst = omega (arith, h, t)
    none_of h ClearLast = omega (arith, h, u)

    some_of : (raw + waw + war63 + alloc + clear ≡ 0 → ⊥) → (v : Violation) × (is_broken b v ≡ true)
    some_of h = elim (cases_eq raw 0) [
      | inr n ↦ something_broken b Raw (λ z. n (q ∙ z))
      | inl a ↦ elim (cases_eq waw 0) [
        | inr n ↦ something_broken b Waw (λ z. n (r ∙ z))
        | inl c ↦ elim (cases_eq war63 0) [
          | inr n ↦ something_broken b War63 (λ z. n (s ∙ z))
          | inl d ↦ elim (cases_eq alloc 0) [
            | inr n ↦ something_broken b AllocFirst (λ z. n (t ∙ z))
            | inl f ↦ something_broken b ClearLast (λ z. h (let last : clear ≡ 0 = u ∙ z in omega arith))
          ]
        ]
      ]
    ]

    by_test : (none : Bool) → eqb (raw + waw + war63 + alloc + clear) 0 ≡ none
        → OnTrue none ((v : Violation) → is_broken b v ≡ false) × OnFalse none ((v : Violation) × (is_broken b v ≡ true))
    by_test true e = (nothing_broken b (none_of (let z : raw + waw + war63 + alloc + clear ≡ 0 = grind (arith, nat_tests) in z)), tt)
    by_test false e = (tt, some_of (λ z. true≢false (sym (eq-eqb _ _ z) ∙ e)))

-- The first element of two lists in a row.
pub first_append : {A : Type 0} (xs ys : List A) → slice_get (xs ++ ys) 0 ≡ option_or (slice_get xs 0) (slice_get ys 0)
first_append [] ys = refl
first_append (x ∷ xs) ys = refl

-- An empty list has no first element.
pub none_first : {A : Type 0} (xs : List A) → length xs ≡ 0 → slice_get xs 0 ≡ None
none_first [] e = refl
none_first (x ∷ xs) e = cc

-- The first violation of a rule is that on the first resource.
pub first_violation_by : (first second : Place) (rule : Rule) (resources : ResourceSet)
    → slice_get (violations_by first second rule resources) 0 ≡ option_map
    (λ q. record { second = second; first = first; rule = rule; resource = q }) (slice_get (resources_in resources) 0)
unfolding violations_by
first_violation_by first second rule resources =
    slice_get-map (λ q. record { second = second; first = first; rule = rule; resource = q }) (resources_in resources) 0

-- The first violation of all rules is that of the first rule that has one.
pub first_violation_of : (first second : Place) (b : Broken) → slice_get (violations_of first second b) 0
    ≡ option_or (option_or (option_or (option_or (slice_get (violations_by first second Raw b.raw) 0)
    (slice_get (violations_by first second Waw b.waw) 0)) (slice_get (violations_by first second War63 b.war63) 0))
    (slice_get (violations_by first second AllocFirst b.alloc_first) 0))
    (slice_get (violations_by first second ClearLast b.clear_last) 0)
unfolding violations_of
first_violation_of first second b =
    first_append ((((violations_by first second Raw b.raw ++ violations_by first second Waw b.waw) ++ violations_by first second War63
    b.war63)) ++ violations_by first second AllocFirst b.alloc_first) (violations_by first second ClearLast b.clear_last)
    ∙ ap (λ o. option_or o (slice_get (violations_by first second ClearLast b.clear_last) 0))
    (first_append ((violations_by first second Raw b.raw ++ violations_by first second Waw b.waw) ++ violations_by first second War63
    b.war63) (violations_by first second AllocFirst b.alloc_first)
    ∙ ap (λ o. option_or o (slice_get (violations_by first second AllocFirst b.alloc_first) 0))
    (first_append (violations_by first second Raw b.raw ++ violations_by first second Waw b.waw)
    (violations_by first second War63 b.war63)
    ∙ ap (λ o. option_or o (slice_get (violations_by first second War63 b.war63) 0))
    (first_append (violations_by first second Raw b.raw) (violations_by first second Waw b.waw))))

-- The first of what has P.
pub record IsFirstOf (P : Violation → Type 0) (v : Violation) : Type 0 where
  pub has : P v
  pub first : (w : Violation) → P w → (v ≡ w) ⊎ Precedes v w

-- The first violation of a rising list comes before the others.
first_precedes : (x w : Violation) (xs : List Violation) → Rises (x ∷ xs) → Contains xs w → Precedes x w
unfolding IsStrictlySortedBy
first_precedes x w xs rises c = in_each (λ (y : Violation). compare x y ≡ Less) xs w rises.0 c

-- The first element of a rising list is the first of all.
pub first_listed : (P : Violation → Type 0) (all : List Violation) (r : Option Violation) → IsListOf P all → r ≡ slice_get all 0
    → MatchOption r ((v : Violation) → P v → ⊥) (λ v. IsFirstOf P v)
first_listed P all r list e =
    subst (λ (o : Option Violation). MatchOption o ((v : Violation) → P v → ⊥) (λ v. IsFirstOf P v)) (sym e) (of all list)
  where
    of : (l : List Violation) → IsListOf P l → MatchOption (slice_get l 0) ((v : Violation) → P v → ⊥) (λ v. IsFirstOf P v)
    of [] list = λ v has. not_in_none v (list.has v has)
    of (x ∷ xs) list = record {
      has = list.only x (head_in x xs);
      first = λ w has. elim (cases_in x w xs (list.has w has)) [ inl same ↦ inl same | inr c ↦ inr (first_precedes x w xs list.rises c) ];
    }

-- A pair of slots is violated where something is broken.
pub pair_found : (g : Graph) (has_stop : Place → Bool) (es : List EarlierSlot) (j : Place) (n : ℕ) (e : EarlierSlot) (b : Broken)
    → IsAt es n e → AreBroken g has_stop es n j b → (v : Violation) → is_broken b v ≡ true → IsPairViolated g has_stop es n j
pair_found g has_stop es j n e b at broken v is =
    let found : Violation = record { second = j; first = e.place; rule = v.rule; resource = v.resource } in
    let nth : IsNthPair es n j found = record { slot = e; at = at; pair = (refl, refl) } in
    (found, nth, broken.only found nth is)

-- By the test that nothing is.
pub pair_tested : (g : Graph) (has_stop : Place → Bool) (es : List EarlierSlot) (j : Place) (n : ℕ) (e : EarlierSlot) (b : Broken)
    (nothing : Bool) → IsAt es n e → AreBroken g has_stop es n j b
    → OnTrue nothing ((v : Violation) → is_broken b v ≡ false) → OnFalse nothing ((v : Violation) × (is_broken b v ≡ true))
    → IsTrue (not nothing) ↔ IsPairViolated g has_stop es n j
pair_tested g has_stop es j n e b true at broken all some =
    (λ h. absurd cc, λ x. absurd (true≢false (sym (broken.has x.0 x.1 x.2) ∙ all x.0)))
pair_tested g has_stop es j n e b false at broken all some = (λ h. pair_found g has_stop es j n e b at broken some.0 some.1, λ x. refl)

-- The first violation of a pair of slots.
pub pair_first : (g : Graph) (has_stop : Place → Bool) (es : List EarlierSlot) (j : Place) (n : ℕ) (all : List Violation)
    (r : Option Violation) → IsListOf (λ v. IsNthPair es n j v × ViolatesIn g has_stop v) all → r ≡ slice_get all 0
    → MatchOption r (¬ IsPairViolated g has_stop es n j) (λ v. IsFirstOfPair g has_stop es n j v)
pair_first g has_stop es j n all r list e = of r (first_listed (λ v. IsNthPair es n j v × ViolatesIn g has_stop v) all r list e)
  where
    of : (r : Option Violation) → MatchOption r ((v : Violation) → IsNthPair es n j v × ViolatesIn g has_stop v → ⊥)
        (λ v. IsFirstOf (λ w. IsNthPair es n j w × ViolatesIn g has_stop w) v)
        → MatchOption r (¬ IsPairViolated g has_stop es n j) (λ v. IsFirstOfPair g has_stop es n j v)
    of None h = λ x. h x.0 (x.1, x.2)
    of (Some v) h = record { pair = h.has.0; violates = h.has.1; first = λ w nth x. h.first w (nth, x) }

-- The number of the slot of the window that a violation is of.
pub record IsOfSlot (es : List EarlierSlot) (j : Place) (v : Violation) : Type 0 where
  pub index : ℕ
  pub short : index < length es
  pub pair : IsNthPair es index j v

-- Each violation with the slot under way is of a slot of the window.
pub of_window : (g : Graph) (has_stop : Place → Bool) (es : List EarlierSlot) (j : Place) (v : Violation) → IsWindow g has_stop es j
    → ViolatesIn g has_stop v → v.second ≡ j → IsOfSlot es j v
of_window g has_stop es j v win x is =
    let has = win.all x.walk (record { walks = x.there.walks; ends = x.there.ends ∙ is }) v.first x.inside in
    record { index = has.index; short = has.at.short; pair = record { slot = has.slot; at = has.at; pair = (sym has.is, is) } }

-- A pair that is violated violates at the place.
pub pair_violates : (g : Graph) (has_stop : Place → Bool) (es : List EarlierSlot) (j : Place) (n : ℕ) → IsPairViolated g has_stop es n j
    → IsViolatedAt g has_stop j
pair_violates g has_stop es j n x = let nth = x.1 in (x.0, x.2, nth.pair.1)

-- No pair violates, and so none does at the place.
pub none_violates : (g : Graph) (has_stop : Place → Bool) (es : List EarlierSlot) (j : Place) → IsWindow g has_stop es j
    → ((m : ℕ) → m < length es → ¬ IsPairViolated g has_stop es m j) → ¬ IsViolatedAt g has_stop j
none_violates g has_stop es j win none (v, x, is) = let o = of_window g has_stop es j v win x is in none o.index o.short (v, o.pair, x)

-- The first violation of the first pair that is violated is the first at the place.
pub first_at : (g : Graph) (has_stop : Place → Bool) (es : List EarlierSlot) (j : Place) (n : ℕ) (v : Violation) → IsWindow g has_stop es j
    → ((m : ℕ) → m < n → ¬ IsPairViolated g has_stop es m j) → IsFirstOfPair g has_stop es n j v → IsFirstAt g has_stop j v
first_at g has_stop es j n v win none is = record {
  violates = is.violates;
  second = is.pair.pair.1;
  first = λ w x there. let o = of_window g has_stop es j w win x there in of w x o (cases_lt o.index n) (cases_eq o.index n);
}
  where
    of : (w : Violation) → ViolatesIn g has_stop w → (o : IsOfSlot es j w) → (o.index < n) ⊎ (n ≤ o.index)
        → (o.index ≡ n) ⊎ (o.index ≡ n → ⊥) → (v ≡ w) ⊎ Precedes v w
    of w x o (inl low) same = absurd (none o.index low (w, o.pair, x))
    of w x o (inr high) (inl same) = is.first w (subst (λ (k : ℕ). IsNthPair es k j w) same o.pair) x
    of w x o (inr high) (inr apart) =
        let up : IsBefore is.pair.slot.place o.pair.slot.place =
        win.rises n o.index is.pair.slot o.pair.slot is.pair.at o.pair.at (omega arith) in
        inr (precedes_by_first v w (is.pair.pair.1 ∙ sym o.pair.pair.1)
        (subst (λ (k : Place). IsBefore k w.first) (sym is.pair.pair.0) (subst (IsBefore is.pair.slot.place) (sym o.pair.pair.0) up)))
