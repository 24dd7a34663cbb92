-- No two resources stand at one location.
use Rattle.std.proofs.Common.{◌≡◌, ℕ, ◌<◌, ◌⊎◌, inl, inr, Bool, true, false, Option, Some, None, refl, sym, ap, ◌∙◌, true≢false}
use Rattle.std.proofs.lemmas.Bool.{cases_eq}
use Rattle.ia_meaning.specs.declared.state.FrameShape.{FrameShape}
use Rattle.ia_meaning.specs.declared.state.Spot.{Spot}
use Rattle.ia_meaning.specs.declared.state.Spot.TheVariants.{Static, Stacked}
use Rattle.ia_meaning.specs.State.{IsFrame}
use Rattle.ia_meaning.specs.Names.{spot, predicate_index}
use Rattle.rotation.proofs.Indexes.{predicates_apart}
use Rattle.resource_sets.specs.declared.access.Resource.TheVariants.{Gr, Pr, Br, Unat, Pfs, Lc, Ec, Cfm}
use Rattle.resource_sets.specs.AccessLaws.{Location, StaticAt, CellAt, PredicateAt, spot_location}
use Rattle.resource_sets.specs.Regularity.{LocationIsOneResource, IndexesAreOfPredicates}
use Rattle.resource_sets.proofs.Renaming.{spots_apart}

-- One register stands at a spot, and one predicate at a place.
spot_once : (f : FrameShape) → IsFrame f → (r q : ℕ) (d : Spot) → spot f r ≡ Some d → spot f q ≡ Some d → r ≡ q
spot_once f frame r q d h k = by_test (cases_eq r q)
  where
    by_test : (r ≡ q) ⊎ (r ≡ q → ⊥) → r ≡ q
    by_test (inl e) = e
    by_test (inr differ) = absurd (spots_apart f frame r q d d differ h k refl)

place_once : (f : FrameShape) → IsFrame f → (p q : ℕ) → p < 64 → q < 64 → predicate_index f p ≡ predicate_index f q → p ≡ q
place_once f frame p q h k e = by_test (cases_eq p q)
  where
    by_test : (p ≡ q) ⊎ (p ≡ q → ⊥) → p ≡ q
    by_test (inl same) = same
    by_test (inr differ) = absurd (predicates_apart f frame p q h k differ e)

-- A location of general registers, which is that of one spot.
abbrev is_general : Location → Bool
is_general (StaticAt n) = true
is_general (CellAt n) = true
is_general t = false

general : (o : Option Spot) (t : Location) → spot_location o ≡ Some t → is_general t ≡ true
general None t e = absurd (cc)
general (Some (Static n)) t e = let at : StaticAt n ≡ t = cc in rw (← at) refl
general (Some (Stacked n)) t e = let at : CellAt n ≡ t = cc in rw (← at) refl

one_spot : (o p : Option Spot) (t : Location) → spot_location o ≡ Some t → spot_location p ≡ Some t
    → (d : Spot) × (o ≡ Some d) × (p ≡ Some d)
one_spot None p t h k = absurd (cc)
one_spot o None t h k = absurd (cc)
one_spot (Some (Static n)) (Some (Static m)) t h k = let same : n ≡ m = cc in (Static n, refl, cc)
one_spot (Some (Stacked n)) (Some (Stacked m)) t h k = let same : n ≡ m = cc in (Stacked n, refl, cc)
one_spot (Some (Static n)) (Some (Stacked m)) t h k = absurd (cc)
one_spot (Some (Stacked n)) (Some (Static m)) t h k = absurd (cc)

-- No other resource stands there.
not_general : (s t : Location) → is_general s ≡ false → Some s ≡ Some t → is_general t ≡ true → ⊥
not_general s t e h g = let same : s ≡ t = cc in true≢false (sym g ∙ ap is_general (sym same) ∙ e)

-- A location is that of one resource.
pub resource_once : LocationIsOneResource
resource_once f (Gr r) (Gr q) t frame i j h k =
    let at = one_spot (spot f r) (spot f q) t h k in ap Gr (spot_once f frame r q at.0 at.1 at.2)
resource_once f (Gr r) _ t frame i j h k = absurd (not_general _ t refl k (general (spot f r) t h))
resource_once f _ (Gr r) t frame i j h k = absurd (not_general _ t refl h (general (spot f r) t k))
resource_once f (Pr p) (Pr q) t frame i j h k =
    let same : predicate_index f p ≡ predicate_index f q = cc in ap Pr (place_once f frame p q i.1 j.1 same)
resource_once f (Br b) (Br c) t frame i j h k = let same : b ≡ c = cc in ap Br same
resource_once f Unat Unat t frame i j h k = refl
resource_once f Pfs Pfs t frame i j h k = refl
resource_once f Lc Lc t frame i j h k = refl
resource_once f Ec Ec t frame i j h k = refl
resource_once f Cfm Cfm t frame i j h k = refl
resource_once f q r t frame i j h k = absurd (cc)

-- What stands at a predicate's place is a predicate.
pub predicate_at : IndexesAreOfPredicates
predicate_at f (Pr p) n e = (p, refl)
predicate_at f (Gr r) n e = absurd (true≢false (sym (general (spot f r) (PredicateAt n) e)))
predicate_at f q n e = absurd (cc)
