-- Where names of registers stand in a frame: at different places, inside it.
use Rattle.std.proofs.Common.{◌≡◌, ◌≢◌, ℕ, ◌+◌, ◌-◌, ◌*◌, ◌<◌, ◌≤◌, ◌⊎◌, ⊎_elim, inl, inr, Bool, true, false, nat_lt, if◌then◌else◌, Some, None, refl, arith}
use Rattle.std.proofs.lemmas.Bool.{cases_lt}
use Rattle.std.proofs.lemmas.Bool.Decides.{nat_tests}
use Rattle.ia_meaning.specs.declared.state.FrameShape.{FrameShape}
use Rattle.ia_meaning.specs.declared.state.Spot.{Spot}
use Rattle.ia_meaning.specs.declared.state.Spot.TheVariants.{Static, Stacked}
use Rattle.ia_meaning.specs.State.{IsFrame}
use Rattle.ia_meaning.specs.Names.{is_stacked, frame_index, spot}
use Rattle.rotation.proofs.Indexes.{apart, rotating_within}

-- Where a register stands: among r0 to r31, or in the frame.
record IsInFrame (f : FrameShape) (r : ℕ) (d : Spot) : Type 0 where
  stacked : 32 ≤ r
  within : r - 32 < f.sof
  place : d ≡ Stacked (f.base + frame_index f (r - 32))

abbrev Stands : FrameShape → ℕ → Spot → Type 0
Stands f r d = (d ≡ Static r) ⊎ IsInFrame f r d

stands : (f : FrameShape) (r : ℕ) (d : Spot) → spot f r ≡ Some d → Stands f r d
unfolding spot
stands f r d h = by_tests (is_stacked r) (nat_lt (r - 32) f.sof) refl refl h
  where
    by_tests : (b c : Bool) → is_stacked r ≡ b → nat_lt (r - 32) f.sof ≡ c
        → (if b then (if c then Some (Stacked (f.base + frame_index f (r - 32))) else None) else Some (Static r)) ≡ Some d
        → Stands f r d
    by_tests true true i j e = inr (record { stacked = grind (arith, nat_tests); within = grind (arith, nat_tests); place = cc })
    by_tests true false i j e = absurd (cc)
    by_tests false c i j e = inl (cc)

-- Different registers stand at different places.
pub spots_apart : (f : FrameShape) → IsFrame f → (r q : ℕ) (d e : Spot) → r ≢ q → spot f r ≡ Some d → spot f q ≡ Some e → d ≢ e
spots_apart f frame r q d e differ h i same = by_place (stands f r d h) (stands f q e i)
  where
    by_place : Stands f r d → Stands f q e → ⊥
    by_place (inl a) (inl b) = differ (cc)
    by_place (inl a) (inr b) = cc
    by_place (inr a) (inl b) = cc
    by_place (inr a) (inr b) =
        let sums : f.base + frame_index f (r - 32) ≡ f.base + frame_index f (q - 32) = cc in
        apart f frame (r - 32) (q - 32) (omega arith) (omega arith) (λ k. differ (omega arith)) (omega arith)

-- Rotation keeps inside a frame what is there, since the part that rotates is.
place_inside : (f : FrameShape) (k : ℕ) → 8 * f.sor ≤ f.sof → k < f.sof → frame_index f k < f.sof
unfolding frame_index
place_inside f k rotating h =
    ⊎_elim (λ low. let a = rotating_within f k low in omega arith) (λ high. grind (arith, nat_tests)) (cases_lt k (8 * f.sor))

-- A register of the frame stands inside it.
pub spot_inside : (f : FrameShape) → 8 * f.sor ≤ f.sof → (r n : ℕ) → spot f r ≡ Some (Stacked n)
    → (f.base ≤ n) × (n < f.base + f.sof)
spot_inside f rotating r n h = by_place (stands f r (Stacked n) h)
  where
    by_place : Stands f r (Stacked n) → (f.base ≤ n) × (n < f.base + f.sof)
    by_place (inl a) = absurd (cc)
    by_place (inr a) =
        let is : n ≡ f.base + frame_index f (r - 32) = let place = a.place in cc in
        let below : frame_index f (r - 32) < f.sof = place_inside f (r - 32) rotating a.within in
        (omega (arith, is), omega (arith, is, below))
