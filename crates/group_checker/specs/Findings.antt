-- What is found of two slots of one group by their accesses and by what is known of them.
use Rattle.std.specs.Prelude.{◌≡◌, ℕ, Bool, true, false, not, ◌&&◌, ◌⊎◌, List, Some}
use Rattle.ia_program.specs.declared.place.Place.{Place}
use Rattle.ia_meaning.specs.Actions.{is_alloc}
use Rattle.resource_sets.specs.declared.access.Resource.TheVariants.{Cfm}
use Rattle.resource_sets.specs.declared.clashes.Rule.{Rule}
use Rattle.resource_sets.specs.declared.clashes.Rule.TheVariants.{Raw, Waw, War63, AllocFirst, ClearLast}
use Rattle.resource_sets.specs.declared.access.Access.{Access}
use Rattle.resource_sets.specs.Clashes.{clash}
use Rattle.predicate_rel.specs.Pairs.{has_bit, pairs_of}
use Rattle.slot_table.specs.declared.slot.Slot.{Slot}
use Rattle.order_laws.specs.declared.violation.Violation.{Violation}
use Rattle.group_checker.specs.declared.window.EarlierSlot.{EarlierSlot}
use Rattle.group_checker.specs.declared.broken.Broken.{Broken}
use Rattle.flow_facts.specs.Graphs.{Graph}
use Rattle.order_laws.specs.Violations.{ViolatesIn}
use Rattle.group_checker.specs.Broken.{is_broken}
use Rattle.group_checker.specs.Order.{Precedes}
use Rattle.group_checker.specs.Windows.{IsAt}

-- Each walk through the first slot excuses accesses under these guards.
abbrev pub excused_by : EarlierSlot → ℕ → ℕ → Bool
excused_by first g h = pairs_of first.known g h && not (has_bit first.written g)

-- Only reads and writes after writes may be excused. Both accesses of a War63 have the guard p0, and the pair (p0, p0) is
-- known on no walk that goes on, so this changes no answer there: it says what the rule says.
abbrev pub may_be_excused : Rule → Bool
may_be_excused Raw = true
may_be_excused Waw = true
may_be_excused War63 = false
may_be_excused AllocFirst = false
may_be_excused ClearLast = false

-- An access of the one sort and one of the other clash by the rule on the resource, and some walk doesn't excuse them.
pub record Finds (slot : EarlierSlot) (IsOne IsOther : Access → Type 0) (v : Violation) : Type 0 where
  pub first : Access
  pub second : Access
  pub of_first : IsOne first
  pub of_second : IsOther second
  pub first_on : first.resource ≡ v.resource
  pub second_on : second.resource ≡ v.resource
  pub clash : clash first second ≡ Some v.rule
  pub stays : (may_be_excused v.rule && excused_by slot first.guard second.guard) ≡ false

abbrev pub IsPair : Place → Place → Violation → Type 0
IsPair first second v = (v.first ≡ first) × (v.second ≡ second)

-- The violation is of the n-th slot of the window, and of this second one.
pub record IsNthPair (window : List EarlierSlot) (n : ℕ) (second : Place) (v : Violation) : Type 0 where
  pub slot : EarlierSlot
  pub at : IsAt window n slot
  pub pair : IsPair slot.place second v

-- The n-th slot of the window and this second one break a rule on some walk.
abbrev pub IsPairViolated : Graph → (Place → Bool) → List EarlierSlot → ℕ → Place → Type 0
IsPairViolated g has_stop window n second = (v : Violation) × IsNthPair window n second v × ViolatesIn g has_stop v

-- The first violation of the two.
pub record IsFirstOfPair (g : Graph) (has_stop : Place → Bool) (window : List EarlierSlot) (n : ℕ) (second : Place)
    (v : Violation) : Type 0 where
  pub pair : IsNthPair window n second v
  pub violates : ViolatesIn g has_stop v
  pub first : (w : Violation) → IsNthPair window n second w → ViolatesIn g has_stop w → (v ≡ w) ⊎ Precedes v w

-- What is broken is what the n-th slot of the window and this second one violate.
pub record AreBroken (g : Graph) (has_stop : Place → Bool) (window : List EarlierSlot) (n : ℕ) (second : Place) (b : Broken) : Type 0 where
  pub has : (v : Violation) → IsNthPair window n second v → ViolatesIn g has_stop v → is_broken b v ≡ true
  pub only : (v : Violation) → IsNthPair window n second v → is_broken b v ≡ true → ViolatesIn g has_stop v

-- An `alloc` comes just after another slot of its group.
pub record IsAllocRule (slot : Slot) (v : Violation) : Type 0 where
  pub rule : v.rule ≡ AllocFirst
  pub allocates : is_alloc slot.action ≡ true
  pub resource : v.resource ≡ Cfm

-- A slot of the group comes just after a `clrrrb`.
pub record IsClearRule (first : EarlierSlot) (v : Violation) : Type 0 where
  pub rule : v.rule ≡ ClearLast
  pub clears : first.clears ≡ true
  pub resource : v.resource ≡ Cfm

-- The rules on two slots of which one follows the other.
abbrev pub IsSlotRule : EarlierSlot → Slot → Violation → Type 0
IsSlotRule first slot v = IsAllocRule slot v ⊎ IsClearRule first v
