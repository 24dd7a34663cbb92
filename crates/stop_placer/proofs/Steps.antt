-- A packing goes on item by item: what holds at its first item and is kept by each further one holds at its last.
use Rattle.std.proofs.Common.{◌≡◌, ◌+◌, Bool, true, false, List, [], ◌∷◌, ◌++◌, length, refl, sym, subst, append_assoc, append-nil}
use Rattle.std.specs.Prelude.{Option, Some, None, is_some}
use Rattle.std.specs.Bool.{Decides}
use Rattle.loose_items.specs.declared.item.Item.{Item}
use Rattle.loose_text.specs.LooseTexts.{Loose}
use Rattle.loose_items.specs.Packings.{joins}
use Rattle.bundling.specs.declared.chunk.TheConstants.{QUIET_LIMIT}
use Rattle.stop_placer.specs.declared.packing.Cause.{Cause}
use Rattle.stop_placer.specs.Packings.{Packing, chunk, begun_with, first_cause, are_quiet, or_long, joined, begun, by_joining, packed_next}
use Rattle.stop_placer.specs.Packs.{IsPairAt, GoesOnTo, IsPackOf}

-- Whether the latest bundles, with the current one, are too many without a stop.
abbrev pub is_long : Packing → Bool
is_long k = are_quiet QUIET_LIMIT (chunk k.current false ∷ k.closed)

-- Whether a pair is violated is right.
abbrev pub IsRight : Loose → Packing → Item → Bool → Type 0
IsRight s k before pair = before.written ≡ false → Decides pair (IsPairAt s k.causes (length k.causes + 1))

-- What is kept by one item more, of which `Good` speaks with the items so far and the last of them.
abbrev pub IsKept : Loose → (Packing → List Item → Item → Type 0) → Type 0
IsKept s Good =
    (k : Packing) (done : List Item) (before item : Item) (pair : Bool) → IsRight s k before pair → Good k done before
    → Good (packed_next k before item pair) (done ++ item ∷ []) item

pub kept_on : (s : Loose) (Good : Packing → List Item → Item → Type 0) → IsKept s Good
    → (k : Packing) (done : List Item) (before : Item) (items : List Item) (last : Packing)
    → Good k done before → GoesOnTo s k before items last → (end : Item) × Good last (done ++ items) end
kept_on s Good kept k done before [] last good goes = (
  before,
  subst (λ (l : Packing). Good l (done ++ []) before) (sym goes)
      (subst (λ (xs : List Item). Good k xs before) (sym (append-nil done)) good),
)
kept_on s Good kept k done before (item ∷ items) last good (pair, right, goes) =
    let rest =
    kept_on s Good kept (packed_next k before item pair) (done ++ item ∷ []) item items last (kept k done before item pair right good)
    goes in
    (rest.0, subst (λ (xs : List Item). Good last xs rest.0) (append_assoc done (item ∷ []) items) rest.1)

-- What holds of the first item and is kept holds of the packing.
pub kept_of : (s : Loose) (Good : Packing → List Item → Item → Type 0) → IsKept s Good
    → ((item : Item) → Good (begun_with item) (item ∷ []) item)
    → (items : List Item) (last : Packing) → IsPackOf s items last → (end : Item) × Good last items end
kept_of s Good kept first [] last pack = absurd pack
kept_of s Good kept first (item ∷ items) last pack = kept_on s Good kept (begun_with item) (item ∷ []) item items last (first item) pack

-- One item more joins the current bundle, or is the first of another.
pub record IsKeptEach (Good : Packing → List Item → Item → Type 0) : Type 0 where
  pub joining : (k : Packing) (done : List Item) (before item : Item) (cause : Option Cause)
      → joins k.current before item (is_some cause) ≡ true → Good k done before → Good (joined k item cause) (done ++ item ∷ []) item
  pub beginning : (k : Packing) (done : List Item) (before item : Item) (cause : Option Cause) → Good k done before
      → Good (begun k item (or_long cause (is_long k))) (done ++ item ∷ []) item

pub kept_each : (s : Loose) (Good : Packing → List Item → Item → Type 0) → IsKeptEach Good → IsKept s Good
kept_each s Good each k done before item pair right good = of (joins k.current before item (is_some cause)) refl
  where
    cause : Option Cause
    cause = first_cause before.written pair

    of : (b : Bool) → joins k.current before item (is_some cause) ≡ b → Good (by_joining b k item cause) (done ++ item ∷ []) item
    of true e = each.joining k done before item cause e good
    of false e = each.beginning k done before item cause good

-- The cause at the new gap is the first that holds, or that the stretch is long.
pub record HasNewCause (k next : Packing) (before : Item) (pair : Bool) : Type 0 where
  pub long : Bool
  pub causes : next.causes ≡ k.causes ++ or_long (first_cause before.written pair) long ∷ []

pub new_cause : (k : Packing) (before item : Item) (pair : Bool) → HasNewCause k (packed_next k before item pair) before pair
new_cause k before item pair = of (joins k.current before item (is_some cause))
  where
    cause : Option Cause
    cause = first_cause before.written pair

    unchanged : (c : Option Cause) → or_long c false ≡ c
    unchanged None = refl
    unchanged (Some c) = refl

    of : (b : Bool) → HasNewCause k (by_joining b k item cause) before pair
    of true =
        record {
          long = false;
          causes = subst (λ (c : Option Cause). k.causes ++ cause ∷ [] ≡ k.causes ++ c ∷ [])
              (sym (unchanged cause)) refl;
        }
    of false = record { long = is_long k; causes = refl }
