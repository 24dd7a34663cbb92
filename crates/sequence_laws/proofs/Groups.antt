-- The group of a walk of a program or a sequence, and its latest place.
use Rattle.std.proofs.Common.{◌≡◌, Bool, true, false, cond, ◌⊎◌, inl, inr, List, [], ◌∷◌, refl}
use Rattle.std.specs.Prelude.{Contains}
use Rattle.ia_program.specs.declared.place.Place.{Place}
use Rattle.resource_sets.proofs.Members.{not_in_none, cases_in, in_head, in_tail, head_in}
use Rattle.predicate_rel.specs.declared.edge.Edge.TheVariants.{Falls}
use Rattle.flow_facts.specs.Walks.{Walk, goes_on, end_of, group_since}
use Rattle.order_laws.specs.Excuses.{IsLatest}
use Rattle.order_laws.proofs.Falling.{falls_group}

-- The place is that of the walk's end or in its group, and no stop follows the end.
pub record IsJoined (has_stop : Place → Bool) (w : Walk) (i : Place) : Type 0 where
  pub unstopped : has_stop (end_of w) ≡ false
  pub is : (end_of w ≡ i) ⊎ Contains (group_since has_stop w) i

-- A place of the group behind a fall is a joined one.
pub joined : (has_stop : Place → Bool) (w : Walk) (to i : Place) → Contains (group_since has_stop (goes_on w Falls to)) i
    → IsJoined has_stop w i
joined has_stop w to i inside = of (has_stop (end_of w)) refl inside
  where
    of : (stop : Bool) → has_stop (end_of w) ≡ stop → Contains (cond stop [] (end_of w ∷ group_since has_stop w)) i → IsJoined has_stop w i
    of true e c = absurd (not_in_none i c)
    of false e c = record { unstopped = e; is = cases_in (end_of w) i (group_since has_stop w) c }

-- Each joined place is of the group behind a fall.
pub joins : (has_stop : Place → Bool) (w : Walk) (to i : Place) → IsJoined has_stop w i
    → Contains (group_since has_stop (goes_on w Falls to)) i
joins has_stop w to i joined =
    rw (falls_group has_stop w to joined.unstopped) (elim joined.is
    [ inl same ↦ in_head (end_of w) i (group_since has_stop w) same | inr c ↦ in_tail (end_of w) i (group_since has_stop w) c ])

-- A group that isn't empty has a latest place.
pub record HasLatest (places : List Place) : Type 0 where
  pub place : Place
  pub latest : IsLatest places place
  pub inside : Contains places place

pub has_latest : (places : List Place) (i : Place) → Contains places i → HasLatest places
has_latest [] i c = absurd (not_in_none i c)
has_latest (place ∷ places) i c = record { place = place; latest = refl; inside = head_in place places }
