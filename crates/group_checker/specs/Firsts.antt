-- What is violated at a place, and the first violation there and of all.
use Rattle.std.specs.Prelude.{◌≡◌, ◌⊎◌, Bool}
use Rattle.ia_program.specs.declared.place.Place.{Place}
use Rattle.flow_facts.specs.Graphs.{Graph}
use Rattle.order_laws.specs.declared.violation.Violation.{Violation}
use Rattle.order_laws.specs.Violations.{ViolatesIn}
use Rattle.group_checker.specs.Order.{Precedes}

-- A slot that is earlier in its group and the slot at the place break a rule on some walk.
abbrev pub IsViolatedAt : Graph → (Place → Bool) → Place → Type 0
IsViolatedAt g has_stop place = (v : Violation) × ViolatesIn g has_stop v × (v.second ≡ place)

-- The first violation whose second slot stands at the place.
pub record IsFirstAt (g : Graph) (has_stop : Place → Bool) (place : Place) (v : Violation) : Type 0 where
  pub violates : ViolatesIn g has_stop v
  pub second : v.second ≡ place
  pub first : (w : Violation) → ViolatesIn g has_stop w → w.second ≡ place → (v ≡ w) ⊎ Precedes v w

-- The first violation of all.
pub record IsFirst (g : Graph) (has_stop : Place → Bool) (v : Violation) : Type 0 where
  pub violates : ViolatesIn g has_stop v
  pub first : (w : Violation) → ViolatesIn g has_stop w → (v ≡ w) ⊎ Precedes v w
