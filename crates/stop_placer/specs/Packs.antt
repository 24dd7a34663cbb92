-- The packing of a loose text, by the rules of instruction groups over the sequence of its instructions (volume 1, chapter 3,
-- instruction groups and instruction dependencies).
use Rattle.std.specs.Prelude.{◌≡◌, ℕ, ◌+◌, Bool, true, false, List, [], ◌∷◌, ◌++◌, length, slice_index_or, Option, Some, None, is_some}
use Rattle.std.specs.Bool.{Decides}
use Rattle.ia_program.specs.declared.limits.TheConstants.{BUNDLE_LIMIT}
use Rattle.ia_program.specs.declared.place.Place.{Place}
use Rattle.ia_meaning.specs.Sequence.{first_of}
use Rattle.flow_facts.specs.Graphs.{over_sequence}
use Rattle.group_checker.specs.Firsts.{IsViolatedAt}
use Rattle.loose_items.specs.declared.item.Item.{Item}
use Rattle.loose_text.specs.LooseTexts.{Loose}
use Rattle.bundling.specs.Bundled.{sequence_of}
use Rattle.bundling.specs.Chunk.{Chunk}
use Rattle.stop_placer.specs.declared.packing.Cause.{Cause}
use Rattle.stop_placer.specs.declared.packing.Cause.TheVariants.{Written}
use Rattle.stop_placer.specs.Packings.{Packing, begun_with, packed_next, chunks_of}

-- The stops so far, over the sequence: behind an instruction at whose gap there is a reason.
abbrev pub stopped_by : List (Option Cause) → Place → Bool
stopped_by causes place = is_some (slice_index_or causes place.bundle None)

-- With the stops so far, some walk to the n-th instruction breaks a rule there. Each instruction is a place of its own.
abbrev pub IsPairAt : Loose → List (Option Cause) → ℕ → Type 0
IsPairAt s causes n = IsViolatedAt (over_sequence (sequence_of s)) (stopped_by causes) (first_of n)

-- The packing goes on from the item before, whose number is that of the gaps so far, over more items to another. Where no
-- `;;` decides, it is asked whether the rules are broken.
abbrev pub GoesOnTo : Loose → Packing → Item → List Item → Packing → Type 0
GoesOnTo s k before [] last = last ≡ k
GoesOnTo s k before (item ∷ items) last =
    (pair : Bool) × (before.written ≡ false → Decides pair (IsPairAt s k.causes (length k.causes + 1)))
    × GoesOnTo s (packed_next k before item pair) item items last

-- The packing of these first items of the text.
abbrev pub IsPackOf : Loose → List Item → Packing → Type 0
IsPackOf s [] k = ⊥
IsPackOf s (item ∷ items) k = GoesOnTo s (begun_with item) item items k

abbrev pub IsPack : Loose → Packing → Type 0
IsPack s k = IsPackOf s s.items k

-- A `;;` stands after the last item.
abbrev pub ends_written : List Item → Bool
ends_written [] = false
ends_written (item ∷ []) = item.written
ends_written (item ∷ next ∷ items) = ends_written (next ∷ items)

abbrev pub end_cause : Bool → Option Cause
end_cause true = Some Written
end_cause false = None

-- Of each item, why a stop stands behind it, where one does.
abbrev pub all_causes : Loose → Packing → List (Option Cause)
all_causes s k = k.causes ++ end_cause (ends_written s.items) ∷ []

-- The bundles of the whole text.
abbrev pub all_chunks : Loose → Packing → List Chunk
all_chunks s k = chunks_of k (ends_written s.items)

-- The n-th item begins a bundle past the limit: with it the packing has one bundle too many, and before it has not.
pub record IsFirstPast (s : Loose) (n : ℕ) : Type 0 where
  pub before : List Item
  pub item : Item
  pub after : List Item
  pub items : s.items ≡ before ++ item ∷ after
  pub number : length before ≡ n
  pub packing : Packing
  pub is : IsPackOf s (before ++ item ∷ []) packing
  pub full : length packing.closed ≡ BUNDLE_LIMIT
  pub begins : length packing.current ≡ 1
