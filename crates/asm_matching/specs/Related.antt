-- The predicates of a relation line.
use Rattle.std.specs.Prelude.{ℕ, ◌≤◌, Bool, ◌&&◌, nat_le, List, length}
use Rattle.std.specs.List.{All}
use Rattle.std.specs.List.Sorted.{IsStrictlyIncreasing}

-- A predicate that a relation may name: those from p16 on rotate, and p0 is always 1.
abbrev pub is_related : ℕ → Bool
is_related p = nat_le 1 p && nat_le p 15

abbrev pub IsRelated : ℕ → Type 0
IsRelated p = (1 ≤ p) × (p ≤ 15)

-- 2 to 15 of p1 to p15 in rising order.
pub record ArePredicates (ps : List ℕ) : Type 0 where
  pub some : 2 ≤ length ps
  pub few : length ps ≤ 15
  pub rising : IsStrictlyIncreasing ps
  pub related : All IsRelated ps
