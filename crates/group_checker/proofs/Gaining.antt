-- What is broken, gained step by step.
use Rattle.std.proofs.Common.{◌≡◌, ◌⊎◌, Bool, true, false, cond, ◌&&◌, List, [], ◌∷◌, ◌++◌, refl, sym, ap, ◌∙◌, Option, None, Some, inl, inr}
use Rattle.std.specs.Prelude.{Contains}
use Rattle.std.specs.Option.{is_some}
use Rattle.std.specs.List.{list_any}
use Rattle.std.proofs.lemmas.Bool.{and_parts, and_from, true≢false}
use Rattle.std.proofs.lemmas.List.Elements.{Contains-append_left, Contains-append_right, Contains-append_cases}
use Rattle.ia_meaning.specs.Actions.{is_alloc}
use Rattle.resource_sets.specs.declared.access.Resource.{Resource}
use Rattle.resource_sets.specs.declared.access.Resource.TheVariants.{Cfm}
use Rattle.resource_sets.specs.declared.access.Access.{Access}
use Rattle.resource_sets.specs.declared.access_sets.AccessSet.{AccessSet}
use Rattle.resource_sets.specs.declared.access_sets.Parts.{Parts}
use Rattle.resource_sets.specs.declared.sets.ResourceSet.{ResourceSet}
use Rattle.resource_sets.specs.declared.clashes.Rule.{Rule}
use Rattle.resource_sets.specs.declared.clashes.Rule.TheVariants.{AllocFirst, ClearLast}
use Rattle.resource_sets.specs.ResourceSets.{has_resource}
use Rattle.resource_sets.specs.Clashes.{is_resource, clash, clash_of}
use Rattle.resource_sets.specs.AccessSets.{IsInSet, IsSetOf, ArePartsOf}
use Rattle.resource_sets.specs.InsnAccesses.{may_clash}
use Rattle.resource_sets.proofs.AccessSets.{resource_itself}
use Rattle.resource_sets.proofs.Members.{not_in_none, cases_in, any_of}
use Rattle.slot_table.specs.declared.slot.Slot.{Slot}
use Rattle.order_laws.specs.declared.violation.Violation.{Violation}
use Rattle.group_checker.specs.declared.window.EarlierSlot.{EarlierSlot}
use Rattle.group_checker.specs.declared.broken.Broken.{Broken}
use Rattle.group_checker.specs.Broken.{Gains}
use Rattle.group_checker.specs.Findings.{Finds, may_be_excused, excused_by, IsSlotRule}

-- What is gained is the same by a property that says the same.
pub gains_like : (old new : Broken) (P Q : Violation → Type 0) → ((v : Violation) → P v → Q v) → ((v : Violation) → Q v → P v)
    → Gains old new P → Gains old new Q
gains_like old new P Q to from g = record {
  keeps = g.keeps;
  has = λ v q. g.has v (from v q);
  only = λ v c. elim (g.only v c) [ inl d ↦ inl d | inr p ↦ inr (to v p) ];
}

-- What nothing has gains nothing.
pub gains_nothing : (b : Broken) (P : Violation → Type 0) → ((v : Violation) → P v → ⊥) → Gains b b P
gains_nothing b P never = record { keeps = λ v c. c; has = λ v p. absurd (never v p); only = λ v c. inl c }

-- Two steps gain what either gains.
pub gains_both : (old mid new : Broken) (P Q R : Violation → Type 0) → ((v : Violation) → P v → R v) → ((v : Violation) → Q v → R v)
    → ((v : Violation) → R v → P v ⊎ Q v) → Gains old mid P → Gains mid new Q → Gains old new R
gains_both old mid new P Q R p q r a b = record {
  keeps = λ v c. b.keeps v (a.keeps v c);
  has = λ v h. elim (r v h) [ inl x ↦ b.keeps v (a.has v x) | inr y ↦ b.has v y ];
  only = λ v c. elim (b.only v c) [ inl d ↦ elim (a.only v d) [ inl e ↦ inl e | inr x ↦ inr (p v x) ] | inr y ↦ inr (q v y) ];
}

-- Accesses of two resources never clash, and of one by their kinds.
by_kinds : (s : Bool) (c : Option Rule) (rule : Rule) → cond s c None ≡ Some rule → c ≡ Some rule
by_kinds true c rule e = e
by_kinds false c rule e = absurd cc

kinds_clash : (a b : Access) (rule : Rule) → a.resource ≡ b.resource → clash_of a.kind b.kind ≡ Some rule → clash a b ≡ Some rule
kinds_clash a b rule same e =
    let on : is_resource a.resource b.resource ≡ true =
    ap (λ (q : Resource). is_resource a.resource q) (sym same) ∙ resource_itself a.resource in
    rw on e

-- Accesses of two sets break the rule on the resource, and some walk doesn't excuse them.
pub record AreFound (e : EarlierSlot) (a b : AccessSet) (v : Violation) : Type 0 where
  pub first_on : has_resource a.resources v.resource ≡ true
  pub second_on : has_resource b.resources v.resource ≡ true
  pub clash : clash_of a.kind b.kind ≡ Some v.rule
  pub stays : (may_be_excused v.rule && excused_by e a.guard b.guard) ≡ false

pub sets_found : (e : EarlierSlot) (a b : AccessSet) (v : Violation) → Finds e (IsInSet a) (IsInSet b) v → AreFound e a b v
sets_found e a b v h = record {
  first_on = ap (has_resource a.resources) (sym h.first_on) ∙ h.of_first.resource;
  second_on = ap (has_resource b.resources) (sym h.second_on) ∙ h.of_second.resource;
  clash =
      (λ i. clash_of (h.of_first.kind i) (h.of_second.kind i)) ∙ by_kinds (is_resource h.first.resource h.second.resource)
      (clash_of h.first.kind h.second.kind) v.rule h.clash;
  stays = (λ i. may_be_excused v.rule && excused_by e (h.of_first.guard i) (h.of_second.guard i)) ∙ h.stays;
}

-- What is noted is all that accesses of two sets find.
pub one_found : (e : EarlierSlot) (a b : AccessSet) (rule : Rule) (common : ResourceSet) → clash_of a.kind b.kind ≡ Some rule
    → (may_be_excused rule && excused_by e a.guard b.guard) ≡ false
    → ((q : Resource) → has_resource common q ≡ (has_resource a.resources q && has_resource b.resources q))
    → (old new : Broken) → Gains old new (λ v. (v.rule ≡ rule) × (has_resource common v.resource ≡ true))
    → Gains old new (Finds e (IsInSet a) (IsInSet b))
one_found e a b rule common broken stays both old new gains =
    gains_like old new (λ v. (v.rule ≡ rule) × (has_resource common v.resource ≡ true)) (Finds e (IsInSet a) (IsInSet b))
    (λ v h. let parts = and_parts _ _ (sym (both v.resource) ∙ h.1) in record {
      first = record { resource = v.resource; kind = a.kind; guard = a.guard };
      second = record { resource = v.resource; kind = b.kind; guard = b.guard };
      of_first = record { kind = refl; guard = refl; resource = parts.0 };
      of_second = record { kind = refl; guard = refl; resource = parts.1 };
      first_on = refl;
      second_on = refl;
      clash =
          kinds_clash (record { resource = v.resource; kind = a.kind; guard = a.guard })
          (record { resource = v.resource; kind = b.kind; guard = b.guard }) v.rule refl (broken ∙ ap Some (sym h.0));
      stays = ap (λ (r : Rule). may_be_excused r && excused_by e a.guard b.guard) h.0 ∙ stays;
    })
    (λ v h. let found = sets_found e a b v h in (
      let q : Some v.rule ≡ Some rule = sym found.clash ∙ broken in (let r : v.rule ≡ rule = cc in r),
      both v.resource ∙ and_from _ _ found.first_on found.second_on,
    ))
    gains

-- Accesses are those of two sorts.
pub record AreJoined (P Q R : Access → Type 0) : Type 0 where
  pub kept : (a : Access) → P a → R a
  pub taken : (a : Access) → Q a → R a
  pub split : (a : Access) → R a → P a ⊎ Q a

pub lists_joined : (xs ys all : List Access) → all ≡ xs ++ ys → AreJoined (Contains xs) (Contains ys) (Contains all)
lists_joined xs ys all e = record {
  kept = λ a c. rw e (Contains-append_left xs ys a c);
  taken = λ a c. rw e (Contains-append_right xs ys a c);
  split = λ a c. Contains-append_cases xs ys a (rw e at c);
}

pub parts_joined : (all : List Access) (parts : Parts) → ArePartsOf all parts
    → AreJoined (Contains parts.named.items) (IsInSet parts.placed) (Contains all)
parts_joined all parts p = let j = lists_joined parts.named.items p.placed all p.all in record {
  kept = j.kept;
  taken = λ a i. j.taken a (p.set.only a i);
  split = λ a c. elim (j.split a c) [ inl d ↦ inl d | inr d ↦ inr (p.set.has a d) ];
}

-- A finding stays one where its accesses are of other sorts.
found_of : (e : EarlierSlot) (P Q R S : Access → Type 0) (v : Violation) (h : Finds e P Q v) → R h.first → S h.second → Finds e R S v
found_of e P Q R S v h r s = record {
  first = h.first;
  second = h.second;
  of_first = r;
  of_second = s;
  first_on = h.first_on;
  second_on = h.second_on;
  clash = h.clash;
  stays = h.stays;
}

-- What is found with accesses of two sorts is found with all, as the second ones and as the first.
pub second_joined : (e : EarlierSlot) (T P Q R : Access → Type 0) (old mid new : Broken) → AreJoined P Q R → Gains old mid (Finds e T P)
    → Gains mid new (Finds e T Q) → Gains old new (Finds e T R)
second_joined e T P Q R old mid new j =
    gains_both old mid new (Finds e T P) (Finds e T Q) (Finds e T R)
    (λ v h. found_of e T P T R v h h.of_first (j.kept h.second h.of_second))
    (λ v h. found_of e T Q T R v h h.of_first (j.taken h.second h.of_second))
    (λ v h. elim (j.split h.second h.of_second) [
      | inl c ↦ inl (found_of e T R T P v h h.of_first c)
      | inr i ↦ inr
          (found_of e T R T Q v h h.of_first i)
    ])

pub first_joined : (e : EarlierSlot) (T P Q R : Access → Type 0) (old mid new : Broken) → AreJoined P Q R → Gains old mid (Finds e P T)
    → Gains mid new (Finds e Q T) → Gains old new (Finds e R T)
first_joined e T P Q R old mid new j =
    gains_both old mid new (Finds e P T) (Finds e Q T) (Finds e R T)
    (λ v h. found_of e P T R T v h (j.kept h.first h.of_first) h.of_second)
    (λ v h. found_of e Q T R T v h (j.taken h.first h.of_first) h.of_second)
    (λ v h. elim (j.split h.first h.of_first) [
      | inl c ↦ inl (found_of e R T P T v h c h.of_second)
      | inr i ↦ inr
          (found_of e R T Q T v h i h.of_second)
    ])

-- What is found with the set of one access is found with it.
pub second_alone : (e : EarlierSlot) (T : Access → Type 0) (a : Access) (s : AccessSet) (old new : Broken) → IsSetOf (a ∷ []) s
    → Gains old new (Finds e T (IsInSet s)) → Gains old new (Finds e T (Contains (a ∷ [])))
second_alone e T a s old new set =
    gains_like old new (Finds e T (IsInSet s)) (Finds e T (Contains (a ∷ [])))
    (λ v h. found_of e T (IsInSet s) T (Contains (a ∷ [])) v h h.of_first (set.only h.second h.of_second))
    (λ v h. found_of e T (Contains (a ∷ [])) T (IsInSet s) v h h.of_first (set.has h.second h.of_second))

pub first_alone : (e : EarlierSlot) (T : Access → Type 0) (a : Access) (s : AccessSet) (old new : Broken) → IsSetOf (a ∷ []) s
    → Gains old new (Finds e (IsInSet s) T) → Gains old new (Finds e (Contains (a ∷ [])) T)
first_alone e T a s old new set =
    gains_like old new (Finds e (IsInSet s) T) (Finds e (Contains (a ∷ [])) T)
    (λ v h. found_of e (IsInSet s) T (Contains (a ∷ [])) T v h (set.only h.first h.of_first) h.of_second)
    (λ v h. found_of e (Contains (a ∷ [])) T (IsInSet s) T v h (set.has h.first h.of_first) h.of_second)

-- Nothing is found with an access of a resource that a set lacks.
pub lacks : (e : EarlierSlot) (a : AccessSet) (b : Access) (v : Violation) → has_resource a.resources b.resource ≡ false
    → ¬ Finds e (IsInSet a) (Contains (b ∷ [])) v
lacks e a b v none h = elim (cases_in b h.second [] h.of_second) [
  | inl same ↦ (let on : h.first.resource ≡ b.resource = h.first_on ∙ sym h.second_on ∙ ap (λ (x : Access). x.resource) (sym same) in
      true≢false (sym h.of_first.resource ∙ ap (has_resource a.resources) on ∙ none))
  | inr n ↦ not_in_none h.second n
]

-- Accesses that clash may clash.
pub apart_clash : (firsts seconds : List Access) (a b : Access) (rule : Rule) → may_clash firsts seconds ≡ false → Contains firsts a
    → Contains seconds b → clash a b ≡ Some rule → ⊥
apart_clash firsts seconds a b rule apart of_first of_second broken =
    let second : list_any (λ y. is_some (clash a y)) seconds ≡ true =
    any_of (λ y. is_some (clash a y)) seconds b of_second (ap is_some broken) in
    true≢false (sym (any_of (λ x. list_any (λ y. is_some (clash x y)) seconds) firsts a of_first second) ∙ apart)

-- What is noted of the rules on slots.
pub slots_found : (e : EarlierSlot) (s : Slot) (first : Bool) → first ≡ is_alloc s.action → (old mid new : Broken)
    → Gains old mid (λ v. (first ≡ true) × (v.rule ≡ AllocFirst) × (v.resource ≡ Cfm))
    → Gains mid new (λ v. (e.clears ≡ true) × (v.rule ≡ ClearLast) × (v.resource ≡ Cfm)) → Gains old new (IsSlotRule e s)
slots_found e s first is old mid new a b =
    gains_both old mid new (λ v. (first ≡ true) × (v.rule ≡ AllocFirst) × (v.resource ≡ Cfm))
    (λ v. (e.clears ≡ true) × (v.rule ≡ ClearLast) × (v.resource ≡ Cfm)) (IsSlotRule e s)
    (λ v h. inl (record { rule = h.1; allocates = sym is ∙ h.0; resource = h.2 }))
    (λ v h. inr (record { rule = h.1; clears = h.0; resource = h.2 }))
    of a b
  where
    of : (v : Violation) → IsSlotRule e s v → ((first ≡ true) × (v.rule ≡ AllocFirst) × (v.resource ≡ Cfm))
        ⊎ ((e.clears ≡ true) × (v.rule ≡ ClearLast) × (v.resource ≡ Cfm))
    of v (inl r) = inl (is ∙ r.allocates, r.rule, r.resource)
    of v (inr r) = inr (r.clears, r.rule, r.resource)
