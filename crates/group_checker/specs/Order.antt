-- The order of violations, and lists that rise in it.
use Rattle.std.specs.Prelude.{◌≡◌, ℕ, List, Contains}
use Rattle.std.specs.declared.cmp.Ordering.{Ordering}
use Rattle.std.specs.declared.cmp.Ordering.TheVariants.{Less}
use Rattle.std.specs.List.Sorted.{IsStrictlySortedBy}
use Rattle.std.specs.Ordering.{ordering_then, nat_cmp}
use Rattle.ia_program.specs.contracts.place.PlaceOrd.TheImpl as places
use Rattle.ia_program.specs.declared.place.Place.{Place}
use Rattle.resource_sets.specs.declared.access.Resource.{Resource}
use Rattle.resource_sets.specs.declared.access.Resource.TheVariants.{Gr, Pr, Br, Unat, Pfs, Lc, Ec, Cfm}
use Rattle.resource_sets.specs.contracts.access.ResourceOrd.TheImpl as resources
use Rattle.resource_sets.specs.declared.clashes.Rule.{Rule}
use Rattle.resource_sets.specs.declared.clashes.Rule.TheVariants.{Raw, Waw, War63, AllocFirst, ClearLast}
use Rattle.resource_sets.specs.contracts.clashes.RuleOrd.TheImpl as rules
use Rattle.order_laws.specs.declared.violation.Violation.{Violation}

-- The order that places derive: by the bundle, then by the slot.
abbrev pub place_cmp : Place → Place → Ordering
place_cmp = (places.ghosts).cmp

abbrev pub PlacesInOrder : Type 0
PlacesInOrder = (a b : Place) → place_cmp a b ≡ ordering_then (nat_cmp a.bundle b.bundle) (nat_cmp a.slot b.slot)

-- The order that rules derive: from RAW to CLEAR.
abbrev pub rule_cmp : Rule → Rule → Ordering
rule_cmp = (rules.ghosts).cmp

abbrev pub RulesInOrder : Type 0
RulesInOrder =
    (rule_cmp Raw Waw ≡ Less) × (rule_cmp Waw War63 ≡ Less) × (rule_cmp War63 AllocFirst ≡ Less) × (rule_cmp AllocFirst ClearLast ≡ Less)

-- The order that resources derive: from the general registers to the frame marker, those of one sort by their numbers.
abbrev pub resource_cmp : Resource → Resource → Ordering
resource_cmp = (resources.ghosts).cmp

abbrev pub ResourcesInOrder : Type 0
ResourcesInOrder = (m n : ℕ)
    → (resource_cmp (Gr m) (Pr n) ≡ Less) × (resource_cmp (Pr m) (Br n) ≡ Less) × (resource_cmp (Br m) Unat ≡ Less)
    × (resource_cmp Unat Pfs ≡ Less) × (resource_cmp Pfs Lc ≡ Less) × (resource_cmp Lc Ec ≡ Less) × (resource_cmp Ec Cfm ≡ Less)

abbrev pub NumbersInOrder : Type 0
NumbersInOrder = (m n : ℕ)
    → (resource_cmp (Gr m) (Gr n) ≡ nat_cmp m n) × (resource_cmp (Pr m) (Pr n) ≡ nat_cmp m n) × (resource_cmp (Br m) (Br n) ≡ nat_cmp m n)

-- Violations are in order of the second slot, the first, the rule and the resource.
abbrev pub compare : Violation → Violation → Ordering
compare v w =
    ordering_then (place_cmp v.second w.second) (ordering_then (place_cmp v.first w.first)
    (ordering_then (rule_cmp v.rule w.rule) (resource_cmp v.resource w.resource)))

-- v is reported before w.
abbrev pub Precedes : Violation → Violation → Type 0
Precedes v w = compare v w ≡ Less

-- Each violation is reported before all later ones.
abbrev pub Rises : List Violation → Type 0
Rises all = IsStrictlySortedBy compare all

-- The rising list of what has P.
pub record IsListOf (P : Violation → Type 0) (all : List Violation) : Type 0 where
  pub rises : Rises all
  pub has : (v : Violation) → P v → Contains all v
  pub only : (v : Violation) → Contains all v → P v
