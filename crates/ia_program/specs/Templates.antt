-- The bundle templates: the units of the three slots, and the slots that a stop follows
-- (volume 1, chapter 3, instruction encoding, and volume 3, chapter 4, bundle templates).
use Rattle.std.specs.Prelude.{◌≡◌, ℕ, ◌/◌, ◌%◌, ◌==◌, if◌then◌else◌, List, [], ◌∷◌, ◌++◌, Option, Some, None, IsSome, unwrap_or, Bool, false, IsTrue, Contains, ◌↔◌, slice_index_or}
use Rattle.ia_insn.specs.declared.choices.Unit.{Unit as ExecutionUnit}
use Rattle.ia_insn.specs.declared.choices.Unit.TheVariants.{M, I, F, B, L, X}

-- What the two codes of a pair share: the units of the slots, and the slots inside the bundle that a
-- stop follows.
pub record Shape : Type 0 where
  pub units : List ExecutionUnit
  pub inner : List ℕ

abbrev pub shape : ExecutionUnit → ExecutionUnit → ExecutionUnit → List ℕ → Option Shape
shape first second third inner = Some (record { units = first ∷ second ∷ third ∷ []; inner = inner })

-- The shape of codes 2 * pair and 2 * pair + 1. The pairs that are missing are reserved.
abbrev pub shape_of : ℕ → Option Shape
shape_of pair =
    if pair == 0x00 then shape M I I [] else
    if pair == 0x01 then shape M I I (1 ∷ []) else
    if pair == 0x02 then shape M L X [] else
    if pair == 0x04 then shape M M I [] else
    if pair == 0x05 then shape M M I (0 ∷ []) else
    if pair == 0x06 then shape M F I [] else
    if pair == 0x07 then shape M M F [] else
    if pair == 0x08 then shape M I B [] else
    if pair == 0x09 then shape M B B [] else
    if pair == 0x0b then shape B B B [] else
    if pair == 0x0c then shape M M B [] else
    if pair == 0x0e then shape M F B [] else None

-- The code is that of a template: it is below 32 and not reserved.
abbrev pub IsTemplate : ℕ → Type 0
IsTemplate code = IsSome (shape_of (code / 2))

abbrev pub no_shape : Shape
no_shape = record { units = []; inner = [] }

-- The units of the slots of a template.
abbrev pub units_of : ℕ → List ExecutionUnit
units_of code = (unwrap_or (shape_of (code / 2)) no_shape).units

-- The slots that a stop follows: those inside the bundle and, with an odd code, the last.
abbrev pub stops_of : ℕ → List ℕ
stops_of code = (unwrap_or (shape_of (code / 2)) no_shape).inner ++ (if code % 2 == 1 then 2 ∷ [] else [])

-- A stop of the template follows the slot exactly if it is marked.
pub record StopsAs (code slot : ℕ) (marked : Bool) : Type 0 where
  pub both : Contains (stops_of code) slot ↔ IsTrue marked

-- A template has these units, and its stops are those after the slots that are marked.
pub record HasShape (code : ℕ) (units : List ExecutionUnit) (stops : List Bool) : Type 0 where
  pub same : units_of code ≡ units
  pub first : StopsAs code 0 (slice_index_or stops 0 false)
  pub second : StopsAs code 1 (slice_index_or stops 1 false)
  pub third : StopsAs code 2 (slice_index_or stops 2 false)

-- Templates with the same units and the same stops are the same.
abbrev pub AreEqualIfAlike : ℕ → ℕ → Type 0
AreEqualIfAlike first second = units_of first ≡ units_of second → stops_of first ≡ stops_of second → first ≡ second
