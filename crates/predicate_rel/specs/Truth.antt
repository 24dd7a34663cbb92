-- What it means that the pairs of a set are true of registers (volume 1, chapter 3, predication).
use Rattle.std.specs.Prelude.{◌≡◌, ℕ, true}
use Rattle.ia_meaning.specs.State.{Registers}
use Rattle.ia_meaning.specs.Names.{holds}
use Rattle.predicate_rel.specs.Pairs.{Pairs}

-- The predicates of no pair are both 1. Since p0 is 1, (x, x) says the same as (x, p0): that x is 0.
pub record AreNeverBothOne (f : Pairs) (r : Registers) : Type 0 where
  pub apart : (x y : ℕ) → f x y ≡ true → holds r x ≡ true → holds r y ≡ true → ⊥
