-- What a packer goes by: the laws of classes, of layouts and of the bundles that are filled by them (volume 1, chapter
-- 3, instruction encoding and instruction sequencing).
use Rattle.std.specs.Prelude.{◌≡◌, ◌≢◌, ℕ, ◌+◌, ◌<◌, ◌≤◌, ◌⊎◌, ◌↔◌, Bool, true, false, IsTrue, List, [], ◌∷◌, ◌++◌, length, slice_get, Some, IsSome, option_map}
use Rattle.ia_insn.specs.declared.insn.Insn.{Insn}
use Rattle.ia_insn.specs.declared.choices.Unit.{Unit as ExecutionUnit}
use Rattle.ia_program.specs.Listed.{IsListed}
use Rattle.ia_program.specs.Fits.{Fits}
use Rattle.ia_program.specs.Templates.{IsTemplate, units_of}
use Rattle.ia_program.specs.Bundles.{Bundle, IsBundle, slot_insn, last_slot}
use Rattle.ia_meaning.specs.Sequence.{stops_after}
use Rattle.slot_layouts.specs.declared.classes.SlotClass.TheVariants.{A, M, B}
use Rattle.slot_layouts.specs.declared.layout.Wanted.{Wanted}
use Rattle.slot_layouts.specs.Classes.{class_of, has_place}
use Rattle.slot_layouts.specs.Layouts.{is_layout, laid_out}
use Rattle.slot_layouts.specs.Filled.{nop_of, filled, AreOf}

-- Of a listed instruction, the places of its class are those that it fits.
abbrev pub PlaceIsFit : Type 0
PlaceIsFit =
    (i : Insn) (unit : ExecutionUnit) (slot : ℕ) → slot < 3 → IsListed i
    → IsTrue (has_place (class_of i.op) unit slot) ↔ Fits i unit slot

-- What is laid out is a layout.
abbrev pub LaidOutIsLayout : Type 0
LaidOutIsLayout =
    (ws : List Wanted) (end : Bool) (code : ℕ) (ks : List ℕ) → laid_out ws end ≡ Some (code, ks)
    → is_layout code ws end ks ≡ true

-- A template with a layout of the classes of listed instructions makes a bundle of these, with nops in its other slots.
abbrev pub FilledIsBundle : Type 0
FilledIsBundle =
    (ws : List Wanted) (end : Bool) (code : ℕ) (ks : List ℕ) (is : List Insn) → is_layout code ws end ks ≡ true
    → AreOf ws is → IsTemplate code × IsBundle (filled code ks is)

-- The slots of a list are places of the bundle in their order, and hold its instructions; every other place holds the
-- nop of its unit.
pub record HoldsInOrder (ws : List Wanted) (code : ℕ) (ks : List ℕ) (is : List Insn) : Type 0 where
  pub count : length ks ≡ length ws
  pub rising : (n k l : ℕ) → slice_get ks n ≡ Some k → slice_get ks (n + 1) ≡ Some l → k < l
  pub places : (n k : ℕ) → slice_get ks n ≡ Some k → IsSome (slot_insn (filled code ks is).slots k)
  pub holds : (n k : ℕ) (i : Insn) → slice_get ks n ≡ Some k → slice_get is n ≡ Some i → slot_insn (filled code ks is).slots k ≡ Some i
  pub nops :
      (slot : ℕ) (i : Insn) → slot_insn (filled code ks is).slots slot ≡ Some i → ((n : ℕ) → slice_get ks n ≢ Some slot)
      → option_map nop_of (slice_get (units_of code) slot) ≡ Some i

abbrev pub LaidOutHoldsInOrder : Type 0
LaidOutHoldsInOrder =
    (ws : List Wanted) (end : Bool) (code : ℕ) (ks : List ℕ) (is : List Insn) → laid_out ws end ≡ Some (code, ks)
    → HoldsInOrder ws code ks is

-- A stop follows the slot of the bundle.
abbrev pub has_stop : Bundle → ℕ → Bool
has_stop b slot = stops_after b.template b.slots slot

-- No stop follows the slots from one on and before another.
abbrev pub HasNoStop : Bundle → ℕ → ℕ → Type 0
HasNoStop b from before = (slot : ℕ) → from ≤ slot → slot < before → has_stop b slot ≡ false

-- Exactly one stop does.
pub record HasOneStop (b : Bundle) (from before : ℕ) : Type 0 where
  pub slot : ℕ
  pub above : from ≤ slot
  pub below : slot < before
  pub here : has_stop b slot ≡ true
  pub only : (other : ℕ) → from ≤ other → other < before → has_stop b other ≡ true → other ≡ slot

-- One does where it is wanted, and else none.
abbrev pub HasStopWhere : Bool → Bundle → ℕ → ℕ → Type 0
HasStopWhere true b from before = HasOneStop b from before
HasStopWhere false b from before = HasNoStop b from before

-- The bundle has the stops that are wanted, and no other: between neighbours, before the first one, from the last one
-- on, and after the last place.
pub record HasStopsAsWanted (ws : List Wanted) (end : Bool) (ks : List ℕ) (b : Bundle) : Type 0 where
  pub between :
      (n k l : ℕ) (x : Wanted) → slice_get ks n ≡ Some k → slice_get ks (n + 1) ≡ Some l → slice_get ws (n + 1) ≡ Some x
      → HasStopWhere x.gap b k l
  pub before : (k : ℕ) → slice_get ks 0 ≡ Some k → HasNoStop b 0 k
  pub behind : (n k : ℕ) → slice_get ks n ≡ Some k → n + 1 ≡ length ks → HasNoStop b k (last_slot b.slots)
  pub last : has_stop b (last_slot b.slots) ≡ end

abbrev pub LaidOutHasStopsAsWanted : Type 0
LaidOutHasStopsAsWanted =
    (ws : List Wanted) (end : Bool) (code : ℕ) (ks : List ℕ) (is : List Insn) → laid_out ws end ≡ Some (code, ks)
    → HasStopsAsWanted ws end ks (filled code ks is)

-- A first instruction that may stand in an M slot stands in slot 0.
abbrev pub FirstStandsInSlot0 : Type 0
FirstStandsInSlot0 =
    (w : Wanted) (ws : List Wanted) (end : Bool) (code : ℕ) (ks : List ℕ) → laid_out (w ∷ ws) end ≡ Some (code, ks)
    → (w.class ≡ M) ⊎ (w.class ≡ A) → slice_get ks 0 ≡ Some 0

-- Where a stop is wanted before an M instruction that isn't the first, it follows the slot right before.
abbrev pub StopIsRightBeforeM : Type 0
StopIsRightBeforeM =
    (ws : List Wanted) (end : Bool) (code : ℕ) (ks : List ℕ) (is : List Insn) (n l : ℕ) (x : Wanted)
    → laid_out ws end ≡ Some (code, ks) → slice_get ws (n + 1) ≡ Some x → x.class ≡ M → x.gap ≡ true
    → slice_get ks (n + 1) ≡ Some l → (before : ℕ) × (before + 1 ≡ l) × (has_stop (filled code ks is) before ≡ true)

-- A last B instruction stands in the last slot.
abbrev pub LastBStandsLast : Type 0
LastBStandsLast =
    (ws : List Wanted) (end : Bool) (code : ℕ) (ks : List ℕ) (is : List Insn) (n k : ℕ) (w : Wanted)
    → laid_out ws end ≡ Some (code, ks) → slice_get ws n ≡ Some w → w.class ≡ B → n + 1 ≡ length ws
    → slice_get ks n ≡ Some k → k ≡ last_slot (filled code ks is).slots

-- The one after a B instruction stands right behind it, and no stop is wanted between them.
abbrev pub NextStandsRightBehindB : Type 0
NextStandsRightBehindB =
    (ws : List Wanted) (end : Bool) (code : ℕ) (ks : List ℕ) (n k l : ℕ) (w x : Wanted)
    → laid_out ws end ≡ Some (code, ks) → slice_get ws n ≡ Some w → w.class ≡ B → slice_get ws (n + 1) ≡ Some x
    → slice_get ks n ≡ Some k → slice_get ks (n + 1) ≡ Some l → (l ≡ k + 1) × (x.gap ≡ false)

-- Each single instruction has a layout.
abbrev pub OneIsLaidOut : Type 0
OneIsLaidOut = (w : Wanted) (end : Bool) → IsSome (laid_out (w ∷ []) end)

-- A list without its last one has a layout where the whole has one.
abbrev pub FrontIsLaidOut : Type 0
FrontIsLaidOut =
    (w : Wanted) (ws : List Wanted) (x : Wanted) (end : Bool) → IsSome (laid_out (w ∷ ws ++ x ∷ []) end)
    → IsSome (laid_out (w ∷ ws) false)

-- With a stop at the end a list has the same slots as without it, in the template of the next code.
abbrev pub EndTakesNextCode : Type 0
EndTakesNextCode =
    (ws : List Wanted) → laid_out ws true ≡ option_map (λ layout. (layout.0 + 1, layout.1)) (laid_out ws false)
