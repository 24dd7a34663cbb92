-- Where general registers stand.
use Rattle.std.proofs.Common.{◌≡◌, ◌<◌, ℕ, arith}
use Rattle.std.proofs.lemmas.Bool.Decides.{nat_tests}
use Rattle.std.specs.Prelude.{Some}
use Rattle.ia_meaning.specs.declared.state.FrameShape.{FrameShape}
use Rattle.ia_meaning.specs.declared.state.Spot.TheVariants.{Static}
use Rattle.ia_meaning.specs.Names.{spot}

-- A static register stands at its own number.
pub spot_static : (f : FrameShape) (n : ℕ) → n < 32 → spot f n ≡ Some (Static n)
unfolding spot
spot_static f n h = grind (arith, nat_tests)
