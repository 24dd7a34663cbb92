-- The accesses of an instruction: those by name, and the set of those of predicates by place.
use Rattle.std.specs.Prelude.{◌≡◌, true, List, ◌++◌, Contains, Option, None, Some}
use Rattle.ia_meaning.specs.declared.action.Action.{Action}
use Rattle.ia_meaning.specs.declared.action.Action.TheVariants as action
use Rattle.ia_meaning.specs.declared.action.FetchSource.TheVariants.{Predicates}
use Rattle.ia_meaning.specs.declared.action.CallTarget.TheVariants.{Indirect}
use Rattle.resource_sets.specs.declared.access.Kind.{Kind}
use Rattle.resource_sets.specs.declared.access.Kind.TheVariants.{Read, BranchRead, Write}
use Rattle.resource_sets.specs.declared.access.Access.{Access}
use Rattle.resource_sets.specs.declared.access_sets.AccessSet.{AccessSet}
use Rattle.resource_sets.specs.declared.access_sets.Parts.{Parts}
use Rattle.resource_sets.specs.Ranges.{AreInRange}
use Rattle.resource_sets.specs.ResourceSets.{has_resource}

-- The set has the access.
pub record IsInSet (set : AccessSet) (a : Access) : Type 0 where
  pub kind : set.kind ≡ a.kind
  pub guard : set.guard ≡ a.guard
  pub resource : has_resource set.resources a.resource ≡ true

-- The set has these accesses, and no other.
pub record IsSetOf (accesses : List Access) (set : AccessSet) : Type 0 where
  pub has : (a : Access) → Contains accesses a → IsInSet set a
  pub only : (a : Access) → IsInSet set a → Contains accesses a

-- The accesses are those by name, and after them those of the set.
pub record ArePartsOf (accesses : List Access) (parts : Parts) : Type 0 where
  pub placed : List Access
  pub all : accesses ≡ parts.named.items ++ placed
  pub set : IsSetOf placed parts.placed
  pub within : AreInRange parts.named.items

-- How predicates by place are accessed.
abbrev pub placed_kind : Action → Option Kind
placed_kind (action.Fetch r1 Predicates) = Some Read
placed_kind (action.ToPredicates r2 mask w) = Some Write
placed_kind (action.JumpIndirect b2) = Some BranchRead
placed_kind (action.Call b1 (Indirect b2)) = Some BranchRead
placed_kind (action.Return b2) = Some BranchRead
placed_kind f = None
