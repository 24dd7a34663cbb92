-- What a slot sees of registers, of which those that steer branches are others.
use Rattle.std.proofs.Common.{◌≡◌, ◌≢◌, ℕ, zero, suc, true, false, get_or, refl, sym}
use Rattle.std.specs.Prelude.{Option, Some, None}
use Rattle.ia_meaning.specs.declared.state.Spot.{Spot}
use Rattle.ia_meaning.specs.declared.state.Spot.TheVariants.{Static, Stacked}
use Rattle.ia_meaning.specs.State.{Registers}
use Rattle.ia_meaning.specs.Names.{spot, look, cell_at, holds, predicate_index}
use Rattle.ia_meaning.proofs.PredicateIndexes.{holds_zero, holds_at_place}
use Rattle.group_engine.specs.declared.branch_inputs.BranchInputs.{BranchInputs}
use Rattle.group_engine.specs.Views.{seen_by}

cell_seen : (r : Registers) (s : BranchInputs) (o : Option Spot) → cell_at (seen_by r s) o ≡ cell_at r o
cell_seen r s None = refl
cell_seen r s (Some (Static n)) = refl
cell_seen r s (Some (Stacked n)) = refl

-- General registers are the same.
pub look_seen : (r : Registers) (s : BranchInputs) (n : ℕ) → look r n ≡ look (seen_by r s) n
unfolding look
look_seen r s zero = refl
look_seen r s (suc n) = sym (cell_seen r s (spot r.frame (suc n)))

-- What is seen of p0 is 1.
pub holds_zero_seen : (r : Registers) (s : BranchInputs) (p : ℕ) → p ≡ 0 → holds (seen_by r s) p ≡ true
holds_zero_seen r s p e = rw e (holds_zero (seen_by r s))

-- What is seen of each other predicate is what stands at its place among those seen.
pub holds_seen : (r : Registers) (s : BranchInputs) (p : ℕ) → p ≢ 0
    → holds (seen_by r s) p ≡ get_or s.predicates (predicate_index r.frame p) false
holds_seen r s p h = holds_at_place (seen_by r s) p h
