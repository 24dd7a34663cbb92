-- Reading the fields of a word that is their sum.
use Rattle.std.proofs.Common.{◌≡◌, ℕ, List, [], ◌∷◌, Bool, true, false, refl}
use Rattle.std.specs.Prelude.{◌&&◌}
use Rattle.bundle_bits.specs.Words.{Part, bits}

-- Each field of a word has its value.
abbrev pub Reads : ℕ → List Part → Type 0
Reads word [] = Unit {0}
Reads word (p ∷ ps) = (bits p.low p.width word ≡ p.value) × Reads word ps

pub both-left : (a b : Bool) → (a && b) ≡ true → a ≡ true
both-left true b h = refl
both-left false b h = h

pub both-right : (a b : Bool) → (a && b) ≡ true → b ≡ true
both-right true b h = h
both-right false b h = absurd (cc)
