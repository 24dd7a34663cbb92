-- Rows: accesses that are there or not.
use Rattle.std.specs.Prelude.{ℕ, zero, suc, Bool, true, false, if◌then◌else◌, List, [], ◌∷◌}
use Rattle.resource_sets.specs.declared.access.Resource.{Resource}
use Rattle.resource_sets.specs.declared.access.Resource.TheVariants.{Gr, Pr}
use Rattle.resource_sets.specs.declared.access.Kind.{Kind}
use Rattle.resource_sets.specs.declared.access.Access.{Access}
use Rattle.resource_sets.specs.declared.row.AccessRow.{AccessRow}

-- r0 and p0 are no resources.
abbrev pub is_not_zero : ℕ → Bool
is_not_zero zero = false
is_not_zero (suc n) = true

-- A general register under the qualifying predicate.
abbrev pub gr : ℕ → Kind → AccessRow
gr r kind = record { there = is_not_zero r; guarded = true; resource = Gr r; kind = kind }

abbrev pub pr : Bool → ℕ → Kind → AccessRow
pr guarded p kind = record { there = is_not_zero p; guarded = guarded; resource = Pr p; kind = kind }

-- A resource that has no number that leaves it out.
abbrev pub always : Bool → Resource → Kind → AccessRow
always guarded resource kind = record { there = true; guarded = guarded; resource = resource; kind = kind }

-- An access under the qualifying predicate, or under p0.
abbrev pub access : ℕ → AccessRow → Access
access qp row = record { resource = row.resource; kind = row.kind; guard = if row.guarded then qp else 0 }

-- The rows that are there.
abbrev pub listed : ℕ → List AccessRow → List Access
listed qp [] = []
listed qp (row ∷ rows) = if row.there then access qp row ∷ listed qp rows else listed qp rows
