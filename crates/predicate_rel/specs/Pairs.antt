-- Sets of pairs of predicates that are known not to be both 1.
use Rattle.std.specs.Prelude.{◌≡◌, ◌<◌, ℕ, Bool, true, false, ◌&&◌, ◌||◌, nat_lt, ◌==◌, if◌then◌else◌, List, slice_index}
use Rattle.ia_meaning.specs.Arithmetic.{bit}

-- A set of pairs: that of x and y is in it or not. A pair has no order, and (x, x) stands for (x, p0).
abbrev pub Pairs : Type 0
Pairs = ℕ → ℕ → Bool

-- What contracts see of `Facts`: 64 rows of 64 bits.
abbrev pub FactRows : Type 0
FactRows = List ℕ

-- Both numbers are those of predicates.
unfoldable pub in_range : ℕ → ℕ → Bool
in_range x y = nat_lt x 64 && nat_lt y 64

-- No pair.
unfoldable pub no_pairs : Pairs
no_pairs = λ x y. false

-- The pairs that both have.
unfoldable pub common : Pairs → Pairs → Pairs
common f g = λ x y. f x y && g x y

-- (x, x) as (x, p0)
abbrev pub other_of : ℕ → ℕ → ℕ
other_of x y = if x == y then 0 else y

-- The two pairs are one, in either order.
abbrev pub is_same_pair : ℕ → ℕ → ℕ → ℕ → Bool
is_same_pair a b x y = (x == a && y == b) || (x == b && y == a)

-- The pairs of f and that of a and b.
unfoldable pub with_pair : Pairs → ℕ → ℕ → Pairs
with_pair f a b = λ x y. f x y || is_same_pair a (other_of a b) x (other_of x y)

-- A bit of a row.
unfoldable pub has_bit : ℕ → ℕ → Bool
has_bit row y = bit row y

-- The truth value at row x and column y.
abbrev pub truth : FactRows → ℕ → ℕ → Bool
truth rows x y = has_bit (slice_index rows x) y

-- The pairs of a table.
unfoldable pub pairs_of : FactRows → Pairs
pairs_of rows = λ x y. in_range x y && truth rows x y

-- Each pair of f is in g.
pub record IsSubset (f g : Pairs) : Type 0 where
  pub each : (x y : ℕ) → f x y ≡ true → g x y ≡ true

-- Some pair of f is not in g.
pub record HasMore (f g : Pairs) : Type 0 where
  pub first : ℕ
  pub second : ℕ
  pub first_below : first < 64
  pub second_below : second < 64
  pub there : f first second ≡ true
  pub missing : g first second ≡ false

-- The order of a pair says nothing, and (x, x) stands for (x, p0).
pub record IsUnordered (f : Pairs) : Type 0 where
  pub swaps : (x y : ℕ) → f x y ≡ f y x
  pub alone : (x : ℕ) → f x x ≡ f x 0
