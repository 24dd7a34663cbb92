-- What the tests and functions of places say of places of a program.
use Rattle.std.proofs.Common.{◌≡◌, ℕ, ◌<◌, Bool, true, false, ◌&&◌, List, length, Some, None, refl, arith, if◌then◌else◌}
use Rattle.std.specs.Prelude.{ℤ, pos, ◌+ℤ◌, ◌≤ℤ◌, ◌<ℤ◌, nat_abs, nat_le, IfSome, IfOk}
use Rattle.std.proofs.lemmas.Int.{ints}
use Rattle.std.proofs.lemmas.Result.{IfOk-weaker}
use Rattle.ia_program.specs.declared.place.Place.{Place}
use Rattle.ia_program.specs.Bundles.{Bundle}
use Rattle.ia_program.specs.Places.{IsNext, IsStopped}
use Rattle.ia_program.specs.Programs.{Program}
use Rattle.ia_program.specs.Targets.{IsBundleAt}
use Rattle.ia_meaning.proofs.Arrivals.{arrived_keeps}
use Rattle.ia_meaning.proofs.Sequences.{entry_decides, next_fits, stop_decides}
use Rattle.ia_program.specs.Addresses.{bundle_address}
use Rattle.ia_meaning.specs.Landings.{target_of, is_entry, landing, arrival}
use Rattle.ia_meaning.specs.Sequence.{next_of, is_stopped}

entry_small : (p : Program) (n : ℕ) → is_entry p n ≡ true → n < length p.bundles
entry_small p n e = let h = (entry_decides p n).0 e in h.inside

landing_small : (p : Program) (address : ℕ) → IfSome (landing p address) (λ bundle. bundle < length p.bundles)
unfolding landing
landing_small p address = chosen (nat_le (bundle_address 0) address) (is_entry p _) _ (entry_small p _)
  where
    chosen : (a b : Bool) (n : ℕ) → (b ≡ true → n < length p.bundles)
        → IfSome (if a && b then Some n else None) (λ bundle. bundle < length p.bundles)
    chosen false b n h = tt
    chosen true false n h = tt
    chosen true true n h = h refl

-- An indirect branch arrives at a bundle of the program.
pub arrival_small : (p : Program) (low : List Bool) (address : ℕ) → IfOk (arrival p low address) (λ bundle. bundle < length p.bundles)
arrival_small p low address =
    IfOk-weaker (arrival p low address) _ _ (λ bundle kept. kept.0)
    (arrived_keeps p low (landing p address) (λ bundle. bundle < length p.bundles) (landing_small p address))

abs_small : (x : ℤ) (count : ℕ) → pos 0 ≤ℤ x → x <ℤ pos count → nat_abs x < count
abs_small x count h k = omega (arith, ints)

-- The target of a branch that stays inside is a bundle of the program.
pub target_small : (count bundle : ℕ) (disp : ℤ) → IsBundleAt count bundle disp → target_of bundle disp < count
target_small count bundle disp h = abs_small (pos bundle +ℤ disp) count h.0 h.1

-- The function of next places gives a next place.
pub next_is : (bundles : List Bundle) (place next : Place) → next_of bundles place ≡ Some next → IsNext bundles place next
next_is bundles place next e = rw e at (next_fits bundles place)

-- Where the test finds no stop there is none.
pub not_stopped : (bundles : List Bundle) (place : Place) → is_stopped bundles place ≡ false → IsStopped bundles place → ⊥
not_stopped bundles place e h = let s = (stop_decides bundles place).1 h in cc
