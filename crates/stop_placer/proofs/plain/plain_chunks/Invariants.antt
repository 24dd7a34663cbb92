use Rattle.std.proofs.Common.{◌≡◌, ◌++◌, true, map, drop}
use Rattle.loose_items.specs.Packings.{plain_of, plain_on}
use Rattle.stop_placer.specs.Packings.{chunk}
use Rattle.stop_placer.proofs.plain.plain_chunks.Given as goal

abbrev pub invariant-loop-item : goal.invariant-loop-item
invariant-loop-item l =
    l.chunks.items ++ map (λ ws. chunk ws true) (plain_on l.current.items l.before (drop l.item-index l.rest)) ≡ map (λ ws. chunk ws true)
    (plain_of l.text.items)
