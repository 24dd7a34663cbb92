-- The writes under a mask are of predicates alone.
use Rattle.std.proofs.Common.{ℕ, zero, suc, ◌≡◌, [], arith, refl}
use Rattle.ia_meaning.specs.Writes.{frame_changes}
use Rattle.ia_meaning.specs.Moves.{masked_writes, predicate_writes}

unframed : (left n mask x : ℕ) → frame_changes (masked_writes left n mask x) ≡ []
unframed zero n mask x = refl
unframed (suc left) n mask x = let e = unframed left (suc n) mask x in grind arith

pub no_frame : (mask x : ℕ) → frame_changes (predicate_writes mask x) ≡ []
unfolding predicate_writes
no_frame mask x = unframed 63 1 mask x
