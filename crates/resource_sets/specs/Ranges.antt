-- Resources with numbers of their sort.
use Rattle.std.specs.Prelude.{◌<◌, List, [], ◌∷◌, Contains}
use Rattle.resource_sets.specs.declared.access.Resource.{Resource}
use Rattle.resource_sets.specs.declared.access.Resource.TheVariants.{Gr, Pr, Br}
use Rattle.resource_sets.specs.declared.access.Access.{Access}
use Rattle.resource_sets.specs.declared.row.AccessRow.{AccessRow}

-- The resource has a number of its sort.
abbrev pub IsNumberInRange : Resource → Type 0
IsNumberInRange (Gr r) = r < 128
IsNumberInRange (Pr p) = p < 64
IsNumberInRange (Br b) = b < 8
IsNumberInRange q = Unit {0}

abbrev pub AreNumbersInRange : List AccessRow → Type 0
AreNumbersInRange [] = Unit {0}
AreNumbersInRange (row ∷ rows) = IsNumberInRange row.resource × AreNumbersInRange rows

abbrev pub AreInRange : List Access → Type 0
AreInRange accesses = (a : Access) → Contains accesses a → IsNumberInRange a.resource
