-- The list of what two slots break.
use Rattle.std.proofs.Common.{◌≡◌, true, List, ◌++◌, length, refl, sym, ◌∙◌, subst, inl, inr}
use Rattle.std.specs.Prelude.{Contains}
use Rattle.std.specs.declared.cmp.Ordering.TheVariants.{Less}
use Rattle.std.proofs.lemmas.List.Elements.{Contains-append_left, Contains-append_right, Contains-append_cases}
use Rattle.std.proofs.lemmas.List.{length-map}
use Rattle.ia_program.specs.declared.place.Place.{Place}
use Rattle.resource_sets.specs.declared.access.Resource.{Resource}
use Rattle.resource_sets.specs.declared.sets.ResourceSet.{ResourceSet}
use Rattle.resource_sets.specs.declared.clashes.Rule.{Rule}
use Rattle.resource_sets.specs.declared.clashes.Rule.TheVariants.{Raw, Waw, War63, AllocFirst, ClearLast}
use Rattle.resource_sets.specs.ResourceSets.{has_resource, resources_in}
use Rattle.resource_sets.proofs.Members.{in_map, from_map}
use Rattle.order_laws.specs.declared.violation.Violation.{Violation}
use Rattle.group_checker.specs.declared.broken.Broken.{Broken}
use Rattle.group_checker.specs.Order.{rule_cmp, resource_cmp, compare, Precedes, Rises, IsListOf}
use Rattle.group_checker.specs.Broken.{broken_on, is_broken, violations_by, violations_of}
use Rattle.group_checker.specs.Findings.{IsPair}
use Rattle.group_checker.proofs.SetLists.{sorted_map, resources_rise, in_resources, from_resources}
use Rattle.group_checker.proofs.Rising.{precedes_by_rule, compared_by_resource, rises_append}

abbrev violation : Place → Place → Rule → Resource → Violation
violation second first rule q = record { second = second; first = first; rule = rule; resource = q }

-- What a violation of a rule is.
record IsBy (first second : Place) (rule : Rule) (resources : ResourceSet) (v : Violation) : Type 0 where
  pair : IsPair first second v
  rule_is : v.rule ≡ rule
  has : has_resource resources v.resource ≡ true

in_by : (first second : Place) (rule : Rule) (resources : ResourceSet) (v : Violation) → IsBy first second rule resources v
    → Contains (violations_by first second rule resources) v
unfolding violations_by
in_by first second rule resources v h =
    let same : violation second first rule v.resource ≡ v =
    λ i. record { second = sym h.pair.1 i; first = sym h.pair.0 i; rule = sym h.rule_is i; resource = v.resource } in
    subst (Contains (violations_by first second rule resources)) same
    (in_map (violation second first rule) (resources_in resources) v.resource (in_resources resources v.resource h.has))

from_by : (first second : Place) (rule : Rule) (resources : ResourceSet) (v : Violation)
    → Contains (violations_by first second rule resources) v → IsBy first second rule resources v
unfolding violations_by
from_by first second rule resources v c =
    let (q, m, e) = from_map (violation second first rule) (resources_in resources) v c in
    subst (IsBy first second rule resources) e (record { pair = (refl, refl); rule_is = refl; has = from_resources resources q m })

-- As many as the set has resources.
pub by_length : (first second : Place) (rule : Rule) (resources : ResourceSet)
    → length (violations_by first second rule resources) ≡ length (resources_in resources)
unfolding violations_by
by_length first second rule resources = length-map (resources_in resources) (violation second first rule)

by_rises : (first second : Place) (rule : Rule) (resources : ResourceSet) → Rises (violations_by first second rule resources)
unfolding violations_by
by_rises first second rule resources =
    sorted_map (violation second first rule) resource_cmp compare (λ q r. compared_by_resource second first rule q r)
    (resources_in resources) (resources_rise resources)

module _ (first second : Place) (b : Broken) where
  abbrev by : Rule → List Violation
  by rule = violations_by first second rule (broken_on b rule)

  -- Rules in order.
  earlier : (r s : Rule) → rule_cmp r s ≡ Less → (v w : Violation) → Contains (by r) v → Contains (by s) w → Precedes v w
  earlier r s h v w c d =
      let x = from_by first second r (broken_on b r) v c in
      let y = from_by first second s (broken_on b s) w d in
      precedes_by_rule v w (x.pair.1 ∙ sym y.pair.1) (x.pair.0 ∙ sym y.pair.0)
      (subst (λ (t : Rule). rule_cmp t w.rule ≡ Less) (sym x.rule_is) (subst (λ (t : Rule). rule_cmp r t ≡ Less) (sym y.rule_is) h))

  -- The rules up to a later one.
  up_to : (xs : List Violation) (r s : Rule) → rule_cmp r s ≡ Less → ((v w : Violation) → Contains xs v → Contains (by s) w → Precedes v w)
      → (v w : Violation) → Contains (xs ++ by r) v → Contains (by s) w → Precedes v w
  up_to xs r s h before v w c d = elim (Contains-append_cases xs (by r) v c) [ inl k ↦ before v w k d | inr k ↦ earlier r s h v w k d ]

  rises : Rises (violations_of first second b)
  unfolding violations_of
  rises =
      rises_append (((by Raw ++ by Waw) ++ by War63) ++ by AllocFirst) (by ClearLast)
      (rises_append ((by Raw ++ by Waw) ++ by War63) (by AllocFirst)
      (rises_append (by Raw ++ by Waw) (by War63)
      (rises_append (by Raw) (by Waw) (by_rises first second Raw b.raw) (by_rises first second Waw b.waw) (earlier Raw Waw refl))
      (by_rises first second War63 b.war63)
      (up_to (by Raw) Waw War63 refl (earlier Raw War63 refl)))
      (by_rises first second AllocFirst b.alloc_first)
      (up_to (by Raw ++ by Waw) War63 AllocFirst refl (up_to (by Raw) Waw AllocFirst refl (earlier Raw AllocFirst refl))))
      (by_rises first second ClearLast b.clear_last)
      (up_to ((by Raw ++ by Waw) ++ by War63) AllocFirst ClearLast refl
      (up_to (by Raw ++ by Waw) War63 ClearLast refl (up_to (by Raw) Waw ClearLast refl (earlier Raw ClearLast refl))))

  before_war : (v : Violation) → Contains (by Raw ++ by Waw) v → Contains ((by Raw ++ by Waw) ++ by War63) v
  before_war v c = Contains-append_left (by Raw ++ by Waw) (by War63) v c

  before_alloc : (v : Violation) → Contains ((by Raw ++ by Waw) ++ by War63) v
      → Contains (((by Raw ++ by Waw) ++ by War63) ++ by AllocFirst) v
  before_alloc v c = Contains-append_left ((by Raw ++ by Waw) ++ by War63) (by AllocFirst) v c

  before_clear : (v : Violation) → Contains (((by Raw ++ by Waw) ++ by War63) ++ by AllocFirst) v
      → Contains (violations_of first second b) v
  unfolding violations_of
  before_clear v c = Contains-append_left (((by Raw ++ by Waw) ++ by War63) ++ by AllocFirst) (by ClearLast) v c

  in_list : (v : Violation) (rule : Rule) → Contains (by rule) v → Contains (violations_of first second b) v
  unfolding violations_of
  in_list v Raw c = before_clear v (before_alloc v (before_war v (Contains-append_left (by Raw) (by Waw) v c)))
  in_list v Waw c = before_clear v (before_alloc v (before_war v (Contains-append_right (by Raw) (by Waw) v c)))
  in_list v War63 c = before_clear v (before_alloc v (Contains-append_right (by Raw ++ by Waw) (by War63) v c))
  in_list v AllocFirst c = before_clear v (Contains-append_right ((by Raw ++ by Waw) ++ by War63) (by AllocFirst) v c)
  in_list v ClearLast c = Contains-append_right (((by Raw ++ by Waw) ++ by War63) ++ by AllocFirst) (by ClearLast) v c

  abbrev IsIt : Violation → Type 0
  IsIt v = IsPair first second v × (is_broken b v ≡ true)

  from_rule : (v : Violation) (rule : Rule) → Contains (by rule) v → IsIt v
  from_rule v rule c =
      let x = from_by first second rule (broken_on b rule) v c in
      (x.pair, subst (λ (r : Rule). has_resource (broken_on b r) v.resource ≡ true) (sym x.rule_is) x.has)

  from_list : (v : Violation) → Contains (violations_of first second b) v → IsIt v
  unfolding violations_of
  from_list v c = elim (Contains-append_cases (((by Raw ++ by Waw) ++ by War63) ++ by AllocFirst) (by ClearLast) v c) [
    | inl i ↦ elim (Contains-append_cases ((by Raw ++ by Waw) ++ by War63) (by AllocFirst) v i) [
      | inl j ↦ elim (Contains-append_cases (by Raw ++ by Waw) (by War63) v j) [
        | inl k ↦ elim (Contains-append_cases (by Raw) (by Waw) v k) [ inl l ↦ from_rule v Raw l | inr l ↦ from_rule v Waw l ]
        | inr k ↦ from_rule v War63 k
      ]
      | inr k ↦ from_rule v AllocFirst k
    ]
    | inr k ↦ from_rule v ClearLast k
  ]

  -- The list is the rising list of what is broken.
  pub listed : IsListOf (λ v. IsPair first second v × (is_broken b v ≡ true)) (violations_of first second b)
  listed = record {
    rises = rises;
    has = λ v h. in_list v v.rule (in_by first second v.rule (broken_on b v.rule) v (record { pair = h.0; rule_is = refl; has = h.1 }));
    only = from_list;
  }
