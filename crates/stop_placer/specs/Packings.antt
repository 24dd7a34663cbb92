-- How instructions are packed into bundles one after the other, with the stops that the rules of groups need (volume 1,
-- chapter 3, instruction encoding and instruction groups).
use Rattle.std.specs.Prelude.{ℕ, zero, suc, ◌&&◌, Bool, true, false, List, [], ◌∷◌, ◌++◌, reverse, Option, Some, None, is_some}
use Rattle.slot_layouts.specs.declared.layout.Wanted.{Wanted}
use Rattle.loose_items.specs.declared.item.Item.{Item}
use Rattle.loose_items.specs.Packings.{wanted_as, joins}
use Rattle.bundling.specs.Chunk.{Chunk}
use Rattle.bundling.specs.Chunks.{is_quiet}
use Rattle.bundling.specs.declared.chunk.TheConstants.{QUIET_LIMIT}
use Rattle.stop_placer.specs.declared.packing.Cause.{Cause}
use Rattle.stop_placer.specs.declared.packing.Cause.TheVariants.{Written, Pair, Long}

-- The instructions so far: the closed bundles, the latest first; what the current one holds; and of each gap between two
-- of them, in order, why a stop stands there, where one does.
pub record Packing : Type 0 where
  pub closed : List Chunk
  pub current : List Wanted
  pub causes : List (Option Cause)

abbrev pub chunk : List Wanted → Bool → Chunk
chunk wanted end = record { wanted = wanted; end = end }

-- The first instruction, in the first bundle.
abbrev pub begun_with : Item → Packing
begun_with item = record { closed = []; current = wanted_as item false ∷ []; causes = [] }

-- A `;;` decides first, then whether the instructions before and the next one break a rule.
abbrev pub first_cause : (written pair : Bool) → Option Cause
first_cause true pair = Some Written
first_cause false true = Some Pair
first_cause false false = None

-- There are n bundles or more, and the latest n want no stop.
abbrev pub are_quiet : ℕ → List Chunk → Bool
are_quiet zero chunks = true
are_quiet (suc n) [] = false
are_quiet (suc n) (c ∷ cs) = is_quiet c && are_quiet n cs

-- Where there is no other reason, a stop comes behind as many bundles without one as may be.
abbrev pub or_long : Option Cause → Bool → Option Cause
or_long (Some cause) long = Some cause
or_long None true = Some Long
or_long None false = None

-- The next instruction in the current bundle.
abbrev pub joined : Packing → Item → Option Cause → Packing
joined k item cause = record {
  closed = k.closed;
  current = k.current ++ wanted_as item (is_some cause) ∷ [];
  causes = k.causes ++ cause ∷ [];
}

-- The current bundle closed, with the stop at its end, and the next instruction as the first of another.
abbrev pub begun : Packing → Item → Option Cause → Packing
begun k item cause = record {
  closed = chunk k.current (is_some cause) ∷ k.closed;
  current = wanted_as item false ∷ [];
  causes = k.causes ++ cause ∷ [];
}

abbrev pub by_joining : Bool → Packing → Item → Option Cause → Packing
by_joining true k item cause = joined k item cause
by_joining false k item cause = begun k item (or_long cause (are_quiet QUIET_LIMIT (chunk k.current false ∷ k.closed)))

-- One instruction more, where `pair` says whether it breaks a rule with an earlier one of its group.
abbrev pub packed_next : Packing → (before item : Item) → (pair : Bool) → Packing
packed_next k before item pair =
    let cause = first_cause before.written pair in by_joining (joins k.current before item (is_some cause)) k item cause

-- The bundles in order, the current one closed, with a stop at its end or none.
abbrev pub chunks_of : Packing → Bool → List Chunk
chunks_of k end = reverse (chunk k.current end ∷ k.closed)
