-- How a table of what is known at each place changes while it is made.
use Rattle.std.specs.Prelude.{◌≡◌, ◌≢◌, ◌<◌, ◌≤◌, ℕ, zero, suc, ◌+◌, ◌*◌, ◌/◌, ◌%◌, ◌^◌, ◌==◌, Bool, false, if◌then◌else◌, None, Some, List, length, slice_index_or, sum_by, ◌⊎◌}
use Rattle.ia_program.specs.declared.place.Place.{Place}
use Rattle.ia_program.specs.Places.{place_at}
use Rattle.ia_program.specs.Programs.{Program, IsEntry}
use Rattle.ia_meaning.specs.Sequence.{first_of}
use Rattle.predicate_rel.specs.declared.edge.Edge.{Edge}
use Rattle.predicate_rel.specs.Pairs.{FactRows, Pairs, has_bit, pairs_of, IsSubset}
use Rattle.predicate_rel.specs.Changes.{AgreeOutside, HasAllRows, Narrows}
use Rattle.predicate_rel.specs.Rules.{PairRule, pairs_by}
use Rattle.predicate_rel.specs.Edges.{HasEdge, pairs_past}
use Rattle.flow_facts.specs.declared.bitmap.TheConstants.{BLOCK}
use Rattle.flow_facts.specs.Walks.{Walk, EndsAt, Known, known_at, value_at, known_first, facts_on}

-- How many of the first n numbers a row has.
unfoldable pub row_size : (ℕ → Bool) → ℕ → ℕ
row_size f zero = 0
row_size f (suc n) = row_size f n + (if f n then 1 else 0)

-- How many pairs the first n rows have.
unfoldable pub size_upto : Pairs → ℕ → ℕ
size_upto f zero = 0
size_upto f (suc n) = size_upto f n + row_size (f n) 64

-- How many pairs of predicates a set has.
unfoldable pub size_of : Pairs → ℕ
size_of f = size_upto f 64

-- What a place can still lose: it is found to be reached, and then each of its pairs.
unfoldable pub weight_at : Known → ℕ
weight_at None = 4097
weight_at (Some rows) = size_of (pairs_of rows)

-- What the whole table can still lose.
abbrev pub weight : List Known → ℕ
weight table = sum_by weight_at table

-- How many places a program has room for: three slots a bundle.
abbrev pub place_count : Program → ℕ
place_count p = 3 * length p.bundles

-- Something is known at the place, and it is within these pairs.
pub record AtMost (table : List Known) (place : Place) (f : Pairs) : Type 0 where
  pub rows : FactRows
  pub is : known_at table place ≡ Some rows
  pub within : IsSubset (pairs_of rows) f

-- No place of the new table knows more than before, and none that was reached is lost.
pub record Shrinks (old new : List Known) : Type 0 where
  pub same_length : length new ≡ length old
  pub keeps : (place : Place) (f : Pairs) → AtMost old place f → AtMost new place f

-- What came is joined into a place: the place knows no more than what came, no place more than before, and of the other
-- places what was known. A pair that is missing at the place was missing there before, or in what came.
pub record Joined (old new : List Known) (to : Place) (out : Pairs) : Type 0 where
  pub below : AtMost new to out
  pub shrinks : Shrinks old new
  pub others : (place : Place) → place ≢ to → known_at new place ≡ known_at old place
  pub lacking : (rows : FactRows) → known_at new to ≡ Some rows → (x y : ℕ) → pairs_of rows x y ≡ false →
      (out x y ≡ false) ⊎ ((before : FactRows) × (known_at old to ≡ Some before) × (pairs_of before x y ≡ false))

-- A walk ends at the place, and each pair that isn't known there is unknown on some walk that ends there.
pub record IsWitnessedAt (p : Program) (place : Place) (f : Pairs) : Type 0 where
  pub reached : (w : Walk) × EndsAt p place w
  pub lacking : (x y : ℕ) → f x y ≡ false → (w : Walk) × EndsAt p place w × (facts_on p w x y ≡ false)

-- Each place of which the table says something is witnessed by walks in this way.
pub record IsWitnessed (p : Program) (table : List Known) : Type 0 where
  pub at : (place : Place) (rows : FactRows) → known_at table place ≡ Some rows → IsWitnessedAt p place (pairs_of rows)

-- Of what was known at a place, only rows of the word have changed: all of them, where nothing was known.
abbrev pub IsSameBut : ℕ → Known → Known → Type 0
IsSameBut changed None None = Unit {0}
IsSameBut changed None (Some new) = HasAllRows changed
IsSameBut changed (Some old) None = ⊥
IsSameBut changed (Some old) (Some new) = AgreeOutside changed (pairs_of old) (pairs_of new)

-- What was known before an edge has come along it, but for what has changed since in the rows of the word: its end knows
-- no more than what follows from what was known then.
pub record HasCome (table : List Known) (to : Place) (past : Pairs → Pairs) (changed : ℕ) (now : Known) : Type 0 where
  pub older : Known
  pub same : IsSameBut changed older now
  pub came : (rows : FactRows) → older ≡ Some rows → AtMost table to (past (pairs_of rows))

-- What is known at a place is narrowed to what is also known past a slot with these rules, before which `before` is known and
-- the rows of the first word have changed since that was last done. It has changed in no rows but those of the last word.
abbrev pub JoinsThere : (ℕ → ℕ → PairRule) → (changed : ℕ) → (before : Pairs) → (old new : Known) → (rows : ℕ) → Type 0
JoinsThere rules changed before None new rows = (f : FactRows) × (new ≡ Some f) × (pairs_of f ≡ pairs_by before rules) × HasAllRows rows
JoinsThere rules changed before (Some old) new rows =
    (f : FactRows) × (new ≡ Some f) × Narrows rules changed before (pairs_of old) (pairs_of f) rows

-- What came is joined into the place of this number, of which it changed no rows but those of the word, and where these are
-- any, the table can lose less.
pub record JoinedBy (old new : List Known) (to : ℕ) (out : Pairs) (rows : ℕ) : Type 0 where
  pub joined : Joined old new (place_at to) out
  pub changed : IsSameBut rows (known_at old (place_at to)) (known_at new (place_at to))
  pub less : weight new + (if rows == 0 then 0 else 1) ≤ weight old

-- What is known at a place has come along its edges of this sort, but for what has changed since in the rows of the word.
pub record MayPass (p : Program) (from : Place) (e : Edge) (rows : ℕ) (table : List Known) (before : FactRows) : Type 0 where
  pub witnessed : IsWitnessed p table
  pub known : known_at table from ≡ Some before
  pub come : (to : Place) → HasEdge p from e to → HasCome table to (pairs_past p from e) rows (Some before)

-- The edge's end knows no more than what comes along the edge.
pub record EdgeSettled (p : Program) (table : List Known) (from : Place) (e : Edge) (to : Place) : Type 0 where
  pub settles : (rows : FactRows) → known_at table from ≡ Some rows → AtMost table to (pairs_past p from e (pairs_of rows))

-- The rows of the place that are marked: those that have changed since it was last gone on from.
abbrev pub marked : List ℕ → Place → ℕ
marked dirty place = value_at 0 dirty place

-- How many places are still to be gone on from.
abbrev pub dirty_count : List ℕ → ℕ
dirty_count dirty = sum_by (λ (rows : ℕ). if rows == 0 then 0 else 1) dirty

-- The n-th mark of words, 64 in each.
abbrev pub is_marked : List ℕ → ℕ → Bool
is_marked words n = has_bit (slice_index_or words (n / BLOCK) 0) (n % BLOCK)

-- The sum of all words, which is 0 exactly where no word has a mark.
abbrev pub sum_of : List ℕ → ℕ
sum_of words = sum_by (λ (w : ℕ). w) words

-- Each number of the list that isn't 0 has a mark.
pub record Covers (words numbers : List ℕ) : Type 0 where
  pub long : length numbers ≤ BLOCK * length words
  pub unmarked : (n : ℕ) → is_marked words n ≡ false → slice_index_or numbers n 0 ≡ 0

-- How the dirty places are kept: each has a mark in the word of its block, each block that has one in that of its region, and
-- no region below this number has one.
pub record IsKept (dirty blocks regions : List ℕ) (low : ℕ) : Type 0 where
  pub below : (n : ℕ) → n < low → slice_index_or regions n 0 ≡ 0
  pub by_block : Covers blocks dirty
  pub by_region : Covers regions blocks
  pub full : length blocks ≡ BLOCK * length regions
  pub few : BLOCK * length blocks < 2 ^ 64

-- The place of this number is the lowest dirty one.
pub record IsLowest (dirty : List ℕ) (n : ℕ) : Type 0 where
  pub is : slice_index_or dirty n 0 ≢ 0
  pub none_below : (k : ℕ) → k < n → slice_index_or dirty k 0 ≡ 0

-- No place knows more than before, and the rows that change at a place are marked from then on.
pub record MarksChanges (table : List Known) (dirty : List ℕ) (table' : List Known) (dirty' : List ℕ) : Type 0 where
  pub shrinks : Shrinks table table'
  pub same_length : length dirty' ≡ length dirty
  pub keeps : (place : Place) (x : ℕ) → has_bit (marked dirty' place) x ≡ false → has_bit (marked dirty place) x ≡ false
  pub changed : (place : Place) → IsSameBut (marked dirty' place) (known_at table place) (known_at table' place)

-- Between two steps: what the table says is witnessed, the entries know no more than they declare, and what is known has
-- come along each edge, but for what changed in the rows that are marked.
pub record IsBetweenSteps (p : Program) (table : List Known) (dirty : List ℕ) : Type 0 where
  pub table_length : length table ≡ place_count p
  pub dirty_length : length dirty ≡ place_count p
  pub witnessed : IsWitnessed p table
  pub entries : (bundle : ℕ) → IsEntry p bundle → AtMost table (first_of bundle) (known_first p bundle)
  pub come : (from : Place) (e : Edge) (to : Place) → HasEdge p from e to
      → HasCome table to (pairs_past p from e) (marked dirty from) (known_at table from)

-- What was known at a place has come along its edges of this sort. For each place that this made dirty the table has
-- lost something, and the places to which no such edge leads know what they knew.
pub record Passed (p : Program) (from : Place) (e : Edge) (before : Pairs) (table : List Known) (dirty : List ℕ) (table' : List Known)
    (dirty' : List ℕ) : Type 0 where
  pub witnessed : IsWitnessed p table'
  pub others : (place : Place) → (HasEdge p from e place → ⊥) → known_at table' place ≡ known_at table place
  pub come : (to : Place) → HasEdge p from e to → AtMost table' to (pairs_past p from e before)
  pub progress : MarksChanges table dirty table' dirty'
  pub lost : weight table' + dirty_count dirty' ≤ weight table + dirty_count dirty
