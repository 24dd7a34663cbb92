-- Runs of slots: where one is long, the bundles before its end have no stop.
use Rattle.std.proofs.Common.{arith, ◌≡◌, ℕ, ◌+◌, ◌<◌, ◌≤◌, ◌⊎◌, inl, inr, sym, ◌∙◌, ap, subst, List, [], ◌∷◌, length}
use Rattle.ia_program.specs.declared.place.Place.{Place}
use Rattle.ia_program.specs.Bundles.{Bundle}
use Rattle.ia_program.specs.Places.{IsPlaceOf, IsBefore, place_number}
use Rattle.ia_program.specs.Runs.{EndsRun, StandBefore}
use Rattle.ia_program.proofs.InOrder.{slot_small}
use Rattle.order_laws.proofs.Falling.{number_rises}
use Rattle.bundling.proofs.Locating.{in_bundle}

-- Of two places one comes before the other, or they are the same.
compared_numbers : (a b : ℕ) → (a < b) ⊎ ((a ≡ b) ⊎ (b < a))
compared_numbers a b = grind arith

compared : (p q : Place) → (p ≡ q) ⊎ (IsBefore p q ⊎ IsBefore q p)
compared p q = of (compared_numbers p.bundle q.bundle) (compared_numbers p.slot q.slot)
  where
    of : (p.bundle < q.bundle) ⊎ ((p.bundle ≡ q.bundle) ⊎ (q.bundle < p.bundle))
        → (p.slot < q.slot) ⊎ ((p.slot ≡ q.slot) ⊎ (q.slot < p.slot))
        → (p ≡ q) ⊎ (IsBefore p q ⊎ IsBefore q p)
    of (inl less) slots = inr (inl (inl less))
    of (inr (inr less)) slots = inr (inr (inl less))
    of (inr (inl same)) (inl less) = inr (inl (inr (same, less)))
    of (inr (inl same)) (inr (inr less)) = inr (inr (inr (sym same, less)))
    of (inr (inl same)) (inr (inl alike)) = inl (ap (λ bundle. in_bundle bundle p.slot) same ∙ ap (in_bundle q.bundle) alike)

-- No more slots stand before a place than there are places before it.
pub few_stand : (bundles : List Bundle) (slots : List Place) (place : Place) → StandBefore bundles slots place
    → length slots ≤ place_number place
few_stand bundles [] place stands = omega arith
few_stand bundles (p ∷ slots) place (is, next, goes, stands) =
    let more = few_stand bundles slots p stands in
    let rises = number_rises p place (slot_small bundles p is) next.after in omega (arith, more, rises)

-- None of the places that are near enough before it ends a run.
pub near_goes_on : (bundles : List Bundle) (slots : List Place) (place q : Place) → StandBefore bundles slots place → IsPlaceOf bundles q
    → IsBefore q place
    → place_number place ≤ place_number q + length slots → ¬ EndsRun bundles q
near_goes_on bundles [] place q stands is before near =
    let rises = number_rises q place (slot_small bundles q is) before in absurd (omega (arith, rises, near))
near_goes_on bundles (p ∷ slots) place q (there, next, goes, stands) is before near =
    of (compared q p) (near_goes_on bundles slots p q stands is)
  where
    of : (q ≡ p) ⊎ (IsBefore q p ⊎ IsBefore p q) → (IsBefore q p → place_number p ≤ place_number q + length slots → ¬ EndsRun bundles q)
        → ¬ EndsRun bundles q
    of (inl same) nearer = subst (λ q. ¬ EndsRun bundles q) (sym same) goes
    of (inr (inl earlier)) nearer =
        let rises = number_rises p place (slot_small bundles p there) next.after in nearer earlier (omega (arith, rises, near))
    of (inr (inr later)) nearer = absurd (next.first q is later before)
