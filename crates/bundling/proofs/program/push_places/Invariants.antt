use Rattle.std.proofs.Common.{◌≡◌, ◌++◌, drop}
use Rattle.std.specs.Prelude.{map}
use Rattle.bundling.proofs.program.push_places.Given as goal

abbrev pub invariant-loop-slot : goal.invariant-loop-slot
invariant-loop-slot l =
    l.places.items ++ map (λ k. record { bundle = l.bundle; slot = k }) (drop l.slot-index l.slots)
    ≡ l.fn.places.items ++ map (λ k. record { bundle = l.bundle; slot = k }) l.slots
