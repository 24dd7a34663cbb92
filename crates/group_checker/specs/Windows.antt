-- What is known, at the place under way, of the earlier slots of its group.
use Rattle.std.specs.Prelude.{◌≡◌, ◌<◌, ◌≤◌, ℕ, ◌+◌, Bool, true, false, not, ◌&&◌, Some, MatchOption, List, Contains, length, slice_index_or, bit_or}
use Rattle.ia_insn.specs.declared.insn.Insn.{Insn}
use Rattle.ia_program.specs.declared.place.Place.{Place}
use Rattle.ia_program.specs.Places.{place_number, IsBefore}
use Rattle.ia_meaning.specs.Actions.{insn_action}
use Rattle.resource_sets.specs.declared.access.Access.{Access}
use Rattle.resource_sets.specs.Clashes.{may_write_guard}
use Rattle.predicate_rel.specs.declared.edge.Edge.TheVariants.{Falls}
use Rattle.predicate_rel.specs.Pairs.{Pairs, has_bit, pairs_of, IsSubset}
use Rattle.predicate_rel.specs.Edges.{may_fall}
use Rattle.predicate_rel.specs.Rules.{action_rule, pairs_by}
use Rattle.slot_table.specs.declared.slot.Slot.{Slot}
use Rattle.flow_facts.specs.Graphs.{Graph, insn_in, IsEdgeIn, pairs_past_in}
use Rattle.flow_facts.specs.Walks.{Walk, EndsIn, NoWalkIn, IsMeetIn, Known, facts_in, group_since}
use Rattle.group_checker.specs.declared.window.EarlierSlot.{EarlierSlot}
use Rattle.group_checker.specs.declared.moves.Passed.{Passed}
use Rattle.order_laws.specs.Excuses.{accesses_at}
use Rattle.order_laws.specs.Violations.{clears_at}

-- A walk to j with i earlier in its group.
pub record IsThrough (g : Graph) (has_stop : Place → Bool) (i j : Place) (w : Walk) : Type 0 where
  pub there : EndsIn g j w
  pub inside : Contains (group_since has_stop w) i

-- The pairs are those that are known on all of these walks, of which there is one.
pub record IsMeetOf (g : Graph) (IsOne : Walk → Type 0) (f : Pairs) : Type 0 where
  pub reached : (w : Walk) × IsOne w
  pub sound : (w : Walk) → IsOne w → IsSubset f (facts_in g w)
  pub exact : (x y : ℕ) → f x y ≡ false → (w : Walk) × IsOne w × (facts_in g w x y ≡ false)

-- The m-th slot of the window.
pub record IsAt (window : List EarlierSlot) (m : ℕ) (e : EarlierSlot) : Type 0 where
  pub short : m < length window
  pub is : slice_index_or window m e ≡ e

-- At j the slot is earlier in the group: it has what all walks through it know at j.
pub record IsCarried (g : Graph) (has_stop : Place → Bool) (j : Place) (e : EarlierSlot) : Type 0 where
  pub clears : e.clears ≡ clears_at g e.place
  pub accesses : e.masks ≡ accesses_at g e.place
  pub known : IsMeetOf g (IsThrough g has_stop e.place j) (pairs_of e.known)
  pub below : IsBefore e.place j

-- The m-th slot or a later one may write the predicate.
pub record HasWriter (g : Graph) (window : List EarlierSlot) (m guard : ℕ) : Type 0 where
  pub index : ℕ
  pub slot : EarlierSlot
  pub late : m ≤ index
  pub at : IsAt window index slot
  pub writes : may_write_guard guard (accesses_at g slot.place) ≡ true

-- The bits of the word are the predicates that the slots from the m-th on may write.
pub record IsWritten (g : Graph) (window : List EarlierSlot) (m written : ℕ) : Type 0 where
  pub has : (guard : ℕ) → guard < 64 → HasWriter g window m guard → has_bit written guard ≡ true
  pub only : (guard : ℕ) → guard < 64 → has_bit written guard ≡ true → HasWriter g window m guard

-- Some slot of the window stands at the place.
pub record HasPlace (window : List EarlierSlot) (place : Place) : Type 0 where
  pub index : ℕ
  pub slot : EarlierSlot
  pub at : IsAt window index slot
  pub is : slot.place ≡ place

-- The slots are all those that are earlier in the group on some walk to j, in order. A walk through one of them passes all
-- later ones, and the last falls to j. Each has the predicates that the slots from it on may write.
pub record IsWindow (g : Graph) (has_stop : Place → Bool) (window : List EarlierSlot) (j : Place) : Type 0 where
  pub size : length window ≤ place_number j
  pub carried : (m : ℕ) (a : EarlierSlot) → IsAt window m a → IsCarried g has_stop j a
  pub rises : (m n : ℕ) (a b : EarlierSlot) → IsAt window m a → IsAt window n b → m < n → IsBefore a.place b.place
  pub passes : (m n : ℕ) (a b : EarlierSlot) → IsAt window m a → IsAt window n b → m < n →
      (w : Walk) → IsThrough g has_stop a.place j w → Contains (group_since has_stop w) b.place
  pub written : (m : ℕ) (a : EarlierSlot) → IsAt window m a → IsWritten g window m a.written
  pub last : (m : ℕ) (a : EarlierSlot) → IsAt window m a → m + 1 ≡ length window → IsEdgeIn g a.place Falls j
  pub all : (w : Walk) → EndsIn g j w → (i : Place) → Contains (group_since has_stop w) i → HasPlace window i

-- The slot says what stands at a place: the action of the instruction, its qualifying predicate, whether control may fall
-- through, and whether a stop follows.
pub record Describes (g : Graph) (has_stop : Place → Bool) (place : Place) (slot : Slot) : Type 0 where
  pub insn : Insn
  pub here : insn_in g place ≡ Some insn
  pub action : slot.action ≡ insn_action insn
  pub qp : slot.qp ≡ insn.qp
  pub falls : slot.falls ≡ may_fall insn
  pub stop : slot.stop ≡ has_stop place

-- At j stands this slot, with these accesses, and this is its window.
pub record HasWindow (g : Graph) (has_stop : Place → Bool) (es : List EarlierSlot) (j : Place) (s : Slot)
    (seconds : List Access) : Type 0 where
  pub slot : Describes g has_stop j s
  pub accesses : seconds ≡ accesses_at g j
  pub window : IsWindow g has_stop es j

-- This is known at the place on all walks that end there, or no walk does.
abbrev pub IsKnownAt : Graph → Place → Known → Type 0
IsKnownAt g place known = MatchOption known (NoWalkIn g place) (λ rows. IsMeetIn g place (pairs_of rows))

-- Control may fall from the slot to the next one, where there is one, within a group.
abbrev pub goes_on_in_group : Slot → Bool
goes_on_in_group slot = slot.falls && not slot.stop

-- The bits of the word are the predicates that an instruction with these accesses may write.
abbrev pub IsGuardMask : ℕ → List Access → Type 0
IsGuardMask mask accesses = (g : ℕ) → g < 64 → has_bit mask g ≡ may_write_guard g accesses

-- The second set is what is known past the slot before which the first is known.
abbrev pub IsPassed : Slot → Passed → Type 0
IsPassed slot passed = pairs_of passed.after ≡ pairs_by (pairs_of passed.before) (action_rule slot.action Falls slot.qp)

-- The earlier slot with what is known past the one at j, which may write the predicates of the mask.
pub record GoesOn (g : Graph) (j : Place) (mask : ℕ) (old new : EarlierSlot) : Type 0 where
  pub place : new.place ≡ old.place
  pub clears : new.clears ≡ old.clears
  pub accesses : new.masks ≡ old.masks
  pub known : pairs_of new.known ≡ pairs_past_in g j Falls (pairs_of old.known)
  pub written : new.written ≡ bit_or old.written mask

-- The first n slots have gone on.
pub record HasAdvanced (g : Graph) (j : Place) (mask : ℕ) (old new : List EarlierSlot) (n : ℕ) : Type 0 where
  pub same_length : length new ≡ length old
  pub done : (m : ℕ) (b : EarlierSlot) → m < n → IsAt new m b → (a : EarlierSlot) × IsAt old m a × GoesOn g j mask a b
  pub left : (m : ℕ) (b : EarlierSlot) → n ≤ m → IsAt new m b → IsAt old m b
