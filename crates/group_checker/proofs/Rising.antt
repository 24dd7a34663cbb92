-- Rising lists of violations.
use Rattle.std.proofs.Common.{◌≡◌, Bool, true, false, IsTrue, List, [], ◌++◌, refl, sym, ap, arith}
use Rattle.std.specs.Prelude.{Contains, ◌↔◌}
use Rattle.std.specs.declared.cmp.Ordering.{Ordering}
use Rattle.std.specs.declared.cmp.Ordering.TheVariants.{Less, Equal, Greater}
use Rattle.std.specs.BTreeSet.{BTreeSet, contains}
use Rattle.std.specs.Cmp.{IsTotalOrder}
use Rattle.std.specs.List.Sorted.{IsStrictlySortedBy}
use Rattle.std.specs.Ordering.{ordering_then, nat_cmp}
use Rattle.std.proofs.lemmas.Bool.Decides.{nat_tests}
use Rattle.std.proofs.lemmas.Cmp.{tied_itself}
use Rattle.std.proofs.lemmas.Map.Lookups.{CmpEqualImpliesEq, exact_unsigned, btree_set_from_contains}
use Rattle.std.proofs.lemmas.Map.Views.{btree_set_contains_iff}
use Rattle.ia_program.specs.contracts.place.PlaceOrd.TheImpl.Laws as places
use Rattle.ia_program.specs.declared.place.Place.{Place}
use Rattle.ia_program.specs.Places.{IsBefore}
use Rattle.ia_program.proofs.Reaching.{same_place}
use Rattle.resource_sets.specs.declared.access.Resource.{Resource}
use Rattle.resource_sets.specs.declared.access.Resource.TheVariants.{Gr, Pr, Br, Unat, Pfs, Lc, Ec, Cfm}
use Rattle.resource_sets.specs.declared.clashes.Rule.{Rule}
use Rattle.resource_sets.specs.declared.clashes.Rule.TheVariants.{Raw, Waw, War63, AllocFirst, ClearLast}
use Rattle.order_laws.specs.declared.violation.Violation.{Violation}
use Rattle.order_laws.specs.contracts.violation.ViolationOrd.TheImpl.Laws as laws
use Rattle.group_checker.specs.Order.{place_cmp, rule_cmp, resource_cmp, compare, Precedes, Rises}
use Rattle.group_checker.proofs.SetLists.{sorted_append}

total : IsTotalOrder compare
total = laws.total-law

-- What compares equal is the same.
exact_rule : (x y : Rule) → rule_cmp x y ≡ Equal → x ≡ y
exact_rule Raw Raw h = refl
exact_rule Waw Waw h = refl
exact_rule War63 War63 h = refl
exact_rule AllocFirst AllocFirst h = refl
exact_rule ClearLast ClearLast h = refl
exact_rule _ _ h = cc

exact_resource : (x y : Resource) → resource_cmp x y ≡ Equal → x ≡ y
exact_resource (Gr n) (Gr m) h = ap Gr (exact_unsigned n m h)
exact_resource (Pr n) (Pr m) h = ap Pr (exact_unsigned n m h)
exact_resource (Br n) (Br m) h = ap Br (exact_unsigned n m h)
exact_resource Unat Unat h = refl
exact_resource Pfs Pfs h = refl
exact_resource Lc Lc h = refl
exact_resource Ec Ec h = refl
exact_resource Cfm Cfm h = refl
exact_resource _ _ h = cc

both_equal : (a b : Ordering) → ordering_then a b ≡ Equal → (a ≡ Equal) × (b ≡ Equal)
both_equal Less b h = absurd cc
both_equal Equal b h = (refl, h)
both_equal Greater b h = absurd cc

exact_place : (x y : Place) → place_cmp x y ≡ Equal → x ≡ y
exact_place x y h =
    let parts = both_equal (nat_cmp x.bundle y.bundle) (nat_cmp x.slot y.slot) h in
    same_place x y (exact_unsigned x.bundle y.bundle parts.0) (exact_unsigned x.slot y.slot parts.1)

exact : CmpEqualImpliesEq compare
exact v w h =
    let second = both_equal (place_cmp v.second w.second) _ h in
    let first = both_equal (place_cmp v.first w.first) _ second.1 in
    let rule = both_equal (rule_cmp v.rule w.rule) _ first.1 in
    λ i. record {
      second = exact_place v.second w.second second.0 i;
      first = exact_place v.first w.first first.0 i;
      rule = exact_rule v.rule w.rule rule.0 i;
      resource = exact_resource v.resource w.resource rule.1 i;
    }

-- None comes before itself.
pub not_before_itself : (v : Violation) → Precedes v v → ⊥
not_before_itself v h = let e = tied_itself total v in absurd cc

place_precedes : (x y : Place) → IsBefore x y → place_cmp x y ≡ Less
place_precedes x y h = grind (arith, nat_tests)

-- Violations with an earlier second slot come first.
pub precedes_by_second : (v w : Violation) → IsBefore v.second w.second → Precedes v w
precedes_by_second v w h = rw (place_precedes v.second w.second h) refl

-- Then those with an earlier first slot.
pub precedes_by_first : (v w : Violation) → v.second ≡ w.second → IsBefore v.first w.first → Precedes v w
precedes_by_first v w e h = rw (e, tied_itself places.total-law w.second, place_precedes v.first w.first h) refl

same_rule : (r : Rule) → rule_cmp r r ≡ Equal
same_rule Raw = refl
same_rule Waw = refl
same_rule War63 = refl
same_rule AllocFirst = refl
same_rule ClearLast = refl

-- Of two slots those of an earlier rule come first.
pub precedes_by_rule : (v w : Violation) → v.second ≡ w.second → v.first ≡ w.first → rule_cmp v.rule w.rule ≡ Less → Precedes v w
precedes_by_rule v w e f h = rw (e, f, tied_itself places.total-law w.second, tied_itself places.total-law w.first, h) refl

-- Of two violations of one rule by the same slots, the one on the earlier resource comes first.
pub compared_by_resource : (second first : Place) (rule : Rule) (q r : Resource)
    → compare (record { second = second; first = first; rule = rule; resource = q })
    (record { second = second; first = first; rule = rule; resource = r }) ≡ resource_cmp q r
compared_by_resource second first rule q r =
    rw (tied_itself places.total-law second, tied_itself places.total-law first, same_rule rule) refl

-- A list with no violation rises.
pub rises_none : Rises []
unfolding IsStrictlySortedBy
rises_none = tt

-- Rising lists of which the first is before the second rise together.
pub rises_append : (xs ys : List Violation) → Rises xs → Rises ys → ((x y : Violation) → Contains xs x → Contains ys y → Precedes x y)
    → Rises (xs ++ ys)
rises_append xs ys a b h = sorted_append compare xs ys a b h

is_in : (s : BTreeSet Violation) (v : Violation) → IsTrue (contains compare s v) ↔ Contains s.keys v
is_in s v = btree_set_contains_iff total exact s v

-- Two rising lists of the same violations are one.
pub one_rising_list : (xs ys : List Violation) → Rises xs → Rises ys → ((v : Violation) → Contains xs v → Contains ys v)
    → ((v : Violation) → Contains ys v → Contains xs v) → xs ≡ ys
one_rising_list xs ys a b f g =
    btree_set_from_contains total s t a b (λ v. same (contains compare s v) (contains compare t v)
    (λ h. (is_in t v).1 (f v ((is_in s v).0 h))) (λ h. (is_in s v).1 (g v ((is_in t v).0 h)))) exact
  where
    s : BTreeSet Violation
    s = record { keys = xs }

    t : BTreeSet Violation
    t = record { keys = ys }

    same : (a b : Bool) → (a ≡ true → b ≡ true) → (b ≡ true → a ≡ true) → a ≡ b
    same true b f g = sym (f refl)
    same false true f g = g refl
    same false false f g = refl
