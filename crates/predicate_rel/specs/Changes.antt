-- Sets that differ in some rows only, and what a set loses by what comes along an edge.
use Rattle.std.specs.Prelude.{◌≡◌, ◌≢◌, ◌<◌, ℕ, true, false}
use Rattle.predicate_rel.specs.Pairs.{Pairs, has_bit, common, IsSubset, HasMore}
use Rattle.predicate_rel.specs.Rules.{PairRule, pairs_by}

-- The two sets have the same pairs in each row of which the word has no bit.
pub record AgreeOutside (changed : ℕ) (f g : Pairs) : Type 0 where
  pub same : (x y : ℕ) → has_bit changed x ≡ false → f x y ≡ g x y

-- The word has the bit of each row.
abbrev pub HasAllRows : ℕ → Type 0
HasAllRows changed = (x : ℕ) → x < 64 → has_bit changed x ≡ true

-- The old set is cut down to what these rules leave of `before`. That is exact where the word has all rows. It is exact too where
-- the old set is within what the rules leave of an older set, which had other pairs than `before` in no rows but those of the
-- word. In any case the set gets no pair, and loses none that the rules leave. It loses pairs in no rows but those of the last
-- word, and some where that has one.
pub record Narrows (rules : ℕ → ℕ → PairRule) (changed : ℕ) (before old new : Pairs) (rows : ℕ) : Type 0 where
  pub whole : HasAllRows changed → new ≡ common old (pairs_by before rules)
  pub narrowed : (older : Pairs) → AgreeOutside changed older before → IsSubset old (pairs_by older rules)
      → new ≡ common old (pairs_by before rules)
  pub within : IsSubset new old
  pub keeps : IsSubset (common old (pairs_by before rules)) new
  pub lost : AgreeOutside rows old new
  pub more : rows ≢ 0 → HasMore old new
