-- Which instructions may clash, and what tells it.
use Rattle.std.specs.Prelude.{◌≡◌, ◌<◌, ℕ, Bool, true, false, ◌&&◌, List}
use Rattle.std.specs.Option.{is_some}
use Rattle.std.specs.List.{list_any}
use Rattle.ia_meaning.specs.Arithmetic.{bit}
use Rattle.resource_sets.specs.declared.access.Resource.{Resource}
use Rattle.resource_sets.specs.declared.access.Kind.{Kind}
use Rattle.resource_sets.specs.declared.access.Kind.TheVariants.{Read, BranchRead, Fill}
use Rattle.resource_sets.specs.declared.access.Access.{Access}
use Rattle.resource_sets.specs.declared.access_sets.Parts.{Parts}
use Rattle.resource_sets.specs.declared.masking.Summary.{Summary}
use Rattle.resource_sets.specs.Clashes.{is_resource, clash, may_write_guard}
use Rattle.resource_sets.specs.ResourceSets.{has_resource}
use Rattle.resource_sets.specs.AccessSets.{ArePartsOf}

-- Some access of the first list clashes with some later one of the second.
abbrev pub may_clash : List Access → List Access → Bool
may_clash firsts seconds = list_any (λ a. list_any (λ b. is_some (clash a b)) seconds) firsts

-- An access of this kind may clash with a later one: all but reads.
abbrev pub is_first : Kind → Bool
is_first Read = false
is_first Fill = false
is_first kind = true

-- An access of this kind may clash with an earlier one: all but what branches read.
abbrev pub is_second : Kind → Bool
is_second BranchRead = false
is_second kind = true

-- One of the accesses of the resource may clash with a later one, or with an earlier one.
abbrev pub is_barred : List Access → Resource → Bool
is_barred accesses q = list_any (λ a. is_first a.kind && is_resource a.resource q) accesses

abbrev pub is_made : List Access → Resource → Bool
is_made accesses q = list_any (λ a. is_second a.kind && is_resource a.resource q) accesses

-- What the accesses have in all.
pub record IsSummary (accesses : List Access) (s : Summary) : Type 0 where
  pub barred : (q : Resource) → has_resource s.barred q ≡ is_barred accesses q
  pub made : (q : Resource) → has_resource s.made q ≡ is_made accesses q
  pub written : (g : ℕ) → g < 64 → bit s.written g ≡ may_write_guard g accesses

-- The parts are those of the accesses, and this is what these have in all.
pub record AreSummed (accesses : List Access) (p : Parts) (s : Summary) : Type 0 where
  pub parts : ArePartsOf accesses p
  pub sums : IsSummary accesses s
