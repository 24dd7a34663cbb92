-- Rows with numbers of their sort.
use Rattle.std.proofs.Common.{◌≡◌, ℕ, Bool, true, false, if◌then◌else◌, ◌+◌, ◌<◌, ◌≤◌, zero, suc, List, [], ◌∷◌, ◌++◌, subst, inl, inr, arith}
use Rattle.std.specs.Prelude.{Contains}
use Rattle.ia_meaning.specs.declared.action.Action.{Action}
use Rattle.ia_meaning.specs.declared.action.Action.TheVariants as action
use Rattle.ia_meaning.specs.declared.action.FetchSource.TheVariants as source
use Rattle.ia_meaning.specs.declared.action.CallTarget.TheVariants as callee
use Rattle.resource_sets.specs.declared.access.Kind.{Kind}
use Rattle.resource_sets.specs.declared.access.Kind.TheVariants.{Read, BranchRead, Write}
use Rattle.resource_sets.specs.declared.access.Access.{Access}
use Rattle.resource_sets.specs.declared.row.AccessRow.{AccessRow}
use Rattle.resource_sets.specs.Rows.{access, listed}
use Rattle.resource_sets.specs.Ranges.{IsNumberInRange, AreNumbersInRange}
use Rattle.resource_sets.specs.Accesses.{place_rows, mask_rows, placed_rows}
use Rattle.resource_sets.proofs.Members.{not_in_none, cases_in}

pub within_append : (front back : List AccessRow) → AreNumbersInRange front → AreNumbersInRange back → AreNumbersInRange (front ++ back)
within_append [] back f b = b
within_append (row ∷ front) back f b = (f.0, within_append front back f.1 b)

-- The accesses of rows with numbers of their sort have numbers of their sort.
pub within_listed : (qp : ℕ) (rows : List AccessRow) → AreNumbersInRange rows → (a : Access) → Contains (listed qp rows) a
    → IsNumberInRange a.resource
within_listed qp [] w a c = absurd (not_in_none a c)
within_listed qp (row ∷ rows) w a c = of row.there c (within_listed qp rows w.1 a)
  where
    of : (b : Bool) → Contains (if b then access qp row ∷ listed qp rows else listed qp rows) a
        → (Contains (listed qp rows) a → IsNumberInRange a.resource) → IsNumberInRange a.resource
    of true d rest =
        elim (cases_in (access qp row) a (listed qp rows) d) [
          | inl e ↦ subst (λ (x : Access). IsNumberInRange x.resource) e w.0
          | inr k ↦
              rest k
        ]
    of false d rest = rest d

place_within : (left n mask : ℕ) (kind : Kind) → n + left ≤ 64 → AreNumbersInRange (place_rows left n mask kind)
place_within zero n mask kind l = tt
place_within (suc left) n mask kind l = (omega arith, place_within left (suc n) mask kind (omega arith))

pub placed_within : (f : Action) → AreNumbersInRange (placed_rows f)
unfolding mask_rows
placed_within (action.Fetch r1 source.Predicates) = place_within 63 1 0x1ffff Read (omega arith)
placed_within (action.ToPredicates r2 mask w) = place_within 63 1 mask Write (omega arith)
placed_within (action.JumpIndirect b2) = place_within 63 1 0xfffe BranchRead (omega arith)
placed_within (action.Call b1 (callee.Indirect b2)) = place_within 63 1 0xfffe BranchRead (omega arith)
placed_within (action.Return b2) = place_within 63 1 0xfffe BranchRead (omega arith)
placed_within f = tt
