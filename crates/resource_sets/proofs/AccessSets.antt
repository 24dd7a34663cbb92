-- The accesses of an instruction in sets.
use Rattle.std.proofs.Common.{◌≡◌, ℕ, zero, suc, Bool, true, false, if◌then◌else◌, eqb-true, eq-eqb, Option, Some, None, List, [], ◌∷◌, refl, sym, ap, subst, ◌∙◌, inl, inr, true≢false}
use Rattle.std.specs.Prelude.{Contains}
use Rattle.std.specs.List.{list_any}
use Rattle.ia_meaning.specs.declared.action.Action.{Action}
use Rattle.ia_meaning.specs.declared.action.Action.TheVariants as action
use Rattle.ia_meaning.specs.declared.action.FetchSource.TheVariants as source
use Rattle.ia_meaning.specs.declared.action.CallTarget.TheVariants.{Indirect}
use Rattle.resource_sets.specs.declared.access.Resource.{Resource}
use Rattle.resource_sets.specs.declared.access.Resource.TheVariants.{Gr, Pr, Br, Unat, Pfs, Lc, Ec, Cfm}
use Rattle.resource_sets.specs.declared.access.Kind.{Kind}
use Rattle.resource_sets.specs.declared.access.Kind.TheVariants.{Read, BranchRead, Write}
use Rattle.resource_sets.specs.declared.access.Access.{Access}
use Rattle.resource_sets.specs.declared.row.AccessRow.{AccessRow}
use Rattle.resource_sets.specs.declared.access_sets.AccessSet.{AccessSet}
use Rattle.resource_sets.specs.Rows.{access, listed}
use Rattle.resource_sets.specs.Accesses.{place_rows, mask_rows, placed_rows}
use Rattle.resource_sets.specs.Clashes.{is_resource}
use Rattle.resource_sets.specs.ResourceSets.{has_resource}
use Rattle.resource_sets.specs.AccessSets.{IsInSet, IsSetOf, placed_kind}
use Rattle.resource_sets.proofs.Members.{not_in_none, cases_in, any_of, some_of}

-- Resources that pass the test are one.
pub same_resource : (a b : Resource) → is_resource a b ≡ true → a ≡ b
same_resource (Gr n) (Gr k) e = ap Gr (eqb-true n k e)
same_resource (Pr n) (Pr k) e = ap Pr (eqb-true n k e)
same_resource (Br n) (Br k) e = ap Br (eqb-true n k e)
same_resource Unat Unat e = refl
same_resource Pfs Pfs e = refl
same_resource Lc Lc e = refl
same_resource Ec Ec e = refl
same_resource Cfm Cfm e = refl
same_resource a b e = absurd (true≢false (sym e))

pub resource_itself : (a : Resource) → is_resource a a ≡ true
resource_itself (Gr n) = eq-eqb n n refl
resource_itself (Pr n) = eq-eqb n n refl
resource_itself (Br n) = eq-eqb n n refl
resource_itself Unat = refl
resource_itself Pfs = refl
resource_itself Lc = refl
resource_itself Ec = refl
resource_itself Cfm = refl

-- Accesses of one kind and under one guard are the set of their resources.
pub set_of : (accesses : List Access) (s : AccessSet) → ((a : Access) → Contains accesses a → (s.kind ≡ a.kind) × (s.guard ≡ a.guard))
    → ((q : Resource) → has_resource s.resources q ≡ list_any (λ a. is_resource a.resource q) accesses) → IsSetOf accesses s
set_of accesses s alike on = record {
  has = λ a c. record {
    kind = (alike a c).0;
    guard = (alike a c).1;
    resource = on a.resource ∙ any_of (λ (x : Access). is_resource x.resource a.resource) accesses a c (resource_itself a.resource);
  };
  only = λ a i.
      let (x, c, same) = some_of (λ (x : Access). is_resource x.resource a.resource) accesses (sym (on a.resource) ∙ i.resource) in
      let is : x ≡ a = λ n. record {
        resource = same_resource x.resource a.resource same n;
        kind = (sym (alike x c).0 ∙ i.kind) n;
        guard = (sym (alike x c).1 ∙ i.guard) n;
      } in
      subst (Contains accesses) is c;
}

-- Rows of one kind under the qualifying predicate.
abbrev pub AreAlike : Kind → List AccessRow → Type 0
AreAlike kind [] = Unit {0}
AreAlike kind (row ∷ rows) = (row.kind ≡ kind) × (row.guarded ≡ true) × AreAlike kind rows

-- Their accesses differ by their resources.
pub in_alike : (qp : ℕ) (kind : Kind) (rows : List AccessRow) → AreAlike kind rows → (a : Access) → Contains (listed qp rows) a
    → (kind ≡ a.kind) × (qp ≡ a.guard)
in_alike qp kind [] alike a c = absurd (not_in_none a c)
in_alike qp kind (row ∷ rows) alike a c = of row.there c (in_alike qp kind rows alike.2 a)
  where
    of : (b : Bool) → Contains (if b then access qp row ∷ listed qp rows else listed qp rows) a
        → (Contains (listed qp rows) a → (kind ≡ a.kind) × (qp ≡ a.guard)) → (kind ≡ a.kind) × (qp ≡ a.guard)
    of true d rest = elim (cases_in (access qp row) a (listed qp rows) d) [
      | inl e ↦ (
        sym alike.0 ∙ ap (λ (x : Access). x.kind) e,
        sym (ap (λ (b : Bool). if b then qp else 0) alike.1)
            ∙ ap (λ (x : Access). x.guard) e,
      )
      | inr k ↦ rest k
    ]
    of false d rest = rest d

-- The rows of predicates by place are alike.
place_alike : (left n mask : ℕ) (kind : Kind) → AreAlike kind (place_rows left n mask kind)
place_alike zero n mask kind = tt
place_alike (suc left) n mask kind = (refl, refl, place_alike left (suc n) mask kind)

-- What an action of this kind by place asks of its rows.
abbrev pub ArePlaced : Option Kind → List AccessRow → Type 0
ArePlaced None rows = rows ≡ []
ArePlaced (Some kind) rows = AreAlike kind rows

pub placed_alike : (f : Action) → ArePlaced (placed_kind f) (placed_rows f)
unfolding mask_rows
placed_alike (action.Fetch r1 source.Predicates) = place_alike 63 1 0x1ffff Read
placed_alike (action.ToPredicates r2 mask w) = place_alike 63 1 mask Write
placed_alike (action.JumpIndirect b2) = place_alike 63 1 0xfffe BranchRead
placed_alike (action.Call b1 (Indirect b2)) = place_alike 63 1 0xfffe BranchRead
placed_alike (action.Return b2) = place_alike 63 1 0xfffe BranchRead
placed_alike f = refl
