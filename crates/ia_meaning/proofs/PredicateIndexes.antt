-- Which predicates are 1, by where they stand.
use Rattle.std.proofs.Common.{◌≡◌, ◌≢◌, ℕ, zero, suc, ◌+◌, ◌-◌, ◌%◌, ◌<◌, ◌≤◌, true, false, get_or, if◌then◌else◌, refl, ap, arith, le-leb}
use Rattle.std.proofs.lemmas.Bool.Decides.{nat_tests}
use Rattle.ia_meaning.specs.declared.state.FrameShape.{FrameShape}
use Rattle.ia_meaning.specs.State.{Registers}
use Rattle.ia_meaning.specs.Names.{is_rotating, predicate_index, holds}

-- p0 is 1.
pub holds_zero : (r : Registers) → holds r 0 ≡ true
unfolding holds
holds_zero r = refl

-- Each predicate other than p0 is what stands at its place.
pub holds_at_place : (r : Registers) (p : ℕ) → p ≢ 0 → holds r p ≡ get_or r.predicates (predicate_index r.frame p) false
unfolding holds
holds_at_place r zero h = absurd (h refl)
holds_at_place r (suc p) h = refl

-- A predicate is the same where the same stands at its place.
pub holds_by_place : (now r : Registers) (p : ℕ) → (p ≢ 0 → get_or now.predicates (predicate_index now.frame p) false
    ≡ get_or r.predicates (predicate_index r.frame p) false) → holds now p ≡ holds r p
unfolding holds
holds_by_place now r zero e = refl
holds_by_place now r (suc p) e = e (λ z. absurd (omega arith))

-- One that is 0 isn't p0.
pub off_some : (r : Registers) (p : ℕ) → holds r p ≡ false → p ≢ 0
unfolding holds
off_some r zero off e = absurd (cc)
off_some r (suc p) off e = absurd (omega arith)

-- A predicate that doesn't rotate stands at its own place.
pub low_place : (f : FrameShape) (p : ℕ) → p < 16 → predicate_index f p ≡ p
unfolding predicate_index
low_place f p h = grind (arith, nat_tests)

pub high_place : (f : FrameShape) (p : ℕ) → 16 ≤ p → predicate_index f p ≡ 16 + (p - 16 + f.rrbs.pr) % 48
unfolding predicate_index
high_place f p h = rw (le-leb 16 p h) refl

-- A predicate that rotates stands at a place of those that do.
pub place_high : (f : FrameShape) (p : ℕ) → 16 ≤ p → 16 ≤ predicate_index f p
place_high f p h = let e = high_place f p h in omega arith

pub place_below : (f : FrameShape) (p : ℕ) → p < 64 → predicate_index f p < 64
unfolding predicate_index
place_below f p i = grind (arith, nat_tests)

-- No predicate but p0 stands at place 0.
pub place_some : (f : FrameShape) (p : ℕ) → p ≢ 0 → predicate_index f p ≢ 0
unfolding predicate_index
place_some f p h e = grind (arith, nat_tests)

-- The place depends on no more of the frame than the rename base of predicates.
pub place_by_base : (f g : FrameShape) (p : ℕ) → f.rrbs.pr ≡ g.rrbs.pr → predicate_index f p ≡ predicate_index g p
unfolding predicate_index
place_by_base f g p e = ap (λ (n : ℕ). if is_rotating p then 16 + (p - 16 + n) % 48 else p) e
