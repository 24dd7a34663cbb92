-- What register names denote, and what a write of one leaves.
use Rattle.std.proofs.Common.{ℕ, zero, suc, ◌≡◌, ◌<◌, ◌≤◌, Bool, true, false, List, get_or, set, arith, refl, sym, ◌∙◌, ap}
use Rattle.std.proofs.lemmas.Bool.Decides.{nat_tests}
use Rattle.std.proofs.lemmas.List.{get_or-set_other}
use Rattle.std.specs.Prelude.{Some, ◌≢◌, []}
use Rattle.std.specs.Result.{result_ok}
use Rattle.ia_meaning.specs.declared.state.Cell.{Cell}
use Rattle.ia_meaning.specs.declared.state.FrameShape.{FrameShape}
use Rattle.ia_meaning.specs.State.{zero_cell, Registers}
use Rattle.ia_meaning.specs.Writes.{apply}
use Rattle.ia_meaning.specs.Names.{spot, look, cell_at, holds, predicate_index, predicate_spot, set_predicate}
use Rattle.ia_meaning.proofs.Spots.{spot_static}
use Rattle.ia_meaning.proofs.PredicateIndexes.{place_some}
use Rattle.reg_stack.specs.Stacks.{cell_or_fault, with_cell}
use Rattle.slot_effects.specs.Changes.{set_at}

look_some : (r : Registers) (n : ℕ) → 0 < n → look r n ≡ cell_at r (spot r.frame n)
unfolding look
look_some r zero h = absurd (omega (arith, h))
look_some r (suc n) h = refl

pub look_static : (r : Registers) (n : ℕ) → get_or r.statics 0 zero_cell ≡ zero_cell → n < 32
    → Some (get_or r.statics n zero_cell) ≡ look r n
unfolding look
look_static r zero e h = ap Some e
look_static r (suc n) e h = sym (ap (cell_at r) (spot_static r.frame (suc n) h))

pub look_stacked : (r : Registers) (n : ℕ) → 32 ≤ n → result_ok (cell_or_fault r.cells (spot r.frame n)) ≡ look r n
unfolding spot
look_stacked r n h = let e = look_some r n (omega arith) in grind (arith, nat_tests)

pub set_stacked : (r : Registers) (n : ℕ) (cell : Cell) → 32 ≤ n
    → apply (set_at (spot r.frame n) cell []) r ≡ record r { cells = with_cell r.cells (spot r.frame n) cell }
unfolding spot
set_stacked r n cell h = grind (arith, nat_tests)

pub set_static : (r : Registers) (n : ℕ) (cell : Cell) → 0 < n → n < 32
    → apply (set_at (spot r.frame n) cell []) r ≡ record r { statics = set r.statics n cell }
set_static r zero cell l h = absurd (omega (arith, l))
set_static r (suc n) cell l h = rw (spot_static r.frame (suc n) h) refl

pub set_zero : (r : Registers) (n : ℕ) (cell : Cell) → n ≡ 0 → apply (set_at (spot r.frame n) cell []) r ≡ r
set_zero r n cell e = rw (e, spot_static r.frame 0 (omega arith)) refl

pub holds_zero : (r : Registers) (p : ℕ) → p ≡ 0 → holds r p ≡ true
unfolding holds
holds_zero r p e = rw e refl

pub holds_is : (r : Registers) (p : ℕ) → get_or r.predicates 0 false ≡ true
    → get_or r.predicates (predicate_index r.frame p) false ≡ holds r p
unfolding holds predicate_index
holds_is r zero e = e
holds_is r (suc p) e = refl

-- p0 stays 1 where another predicate is written.
pub one_kept : (f : FrameShape) (predicates : List Bool) (p : ℕ) (b : Bool) → (p ≢ 0) → get_or predicates 0 false ≡ true
    → get_or (set predicates (predicate_index f p) b) 0 false ≡ true
one_kept f predicates p b h e = get_or-set_other predicates (predicate_index f p) 0 b false (λ same. place_some f p h (sym same)) ∙ e

pub set_predicate_some : (r : Registers) (p : ℕ) (b : Bool) → (p ≢ 0)
    → apply (set_predicate (predicate_spot r.frame p) b []) r ≡ record r { predicates = set r.predicates (predicate_index r.frame p) b }
unfolding predicate_spot
set_predicate_some r zero b h = absurd (h refl)
set_predicate_some r (suc p) b h = refl

pub set_predicate_zero : (r : Registers) (p : ℕ) (b : Bool) → p ≡ 0 → apply (set_predicate (predicate_spot r.frame p) b []) r ≡ r
unfolding predicate_spot
set_predicate_zero r p b e = rw e refl
