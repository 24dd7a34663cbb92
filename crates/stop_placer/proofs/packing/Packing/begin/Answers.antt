use Rattle.std.proofs.Common.{ap, length, reverse, arith}
use Rattle.stop_placer.specs.Packings.{Packing}
use Rattle.stop_placer.proofs.QuietCounts.{count_within}
use Rattle.stop_placer.proofs.packing.Packing.begin.Goals as goal

pub overflow_add-quiet : goal.overflow_add-quiet
overflow_add-quiet c =
    omega (
      arith,
      c.requires,
      c.self.invariant,
      ap (λ (k : Packing). length k.closed) c.self.view_is,
      count_within (reverse c.self.inside.closed.items),
    )
