use Rattle.std.proofs.Common.{ap, sym, ◌∙◌, length, reverse, arith}
use Rattle.bundling.specs.Chunks.{has_no_gap}
use Rattle.bundling.specs.declared.chunk.TheConstants.{QUIET_LIMIT}
use Rattle.stop_placer.specs.Packings.{Packing}
use Rattle.stop_placer.specs.QuietCounts.{quiet_count}
use Rattle.stop_placer.proofs.QuietCounts.{count_within, long_by_count}
use Rattle.stop_placer.proofs.packing.Packing.is_long.Goals as goal

pub overflow_add-result : goal.overflow_add-result
overflow_add-result c =
    omega (
      arith,
      c.requires,
      c.self.invariant,
      ap (λ (k : Packing). length k.closed) c.self.view_is,
      count_within (reverse c.self.inside.closed.items),
    )

pub returns-then-has_no_gap : goal.returns-then-has_no_gap
returns-then-has_no_gap c =
    long_by_count QUIET_LIMIT c.args.self.now c.self.inside.quiet
    (ap has_no_gap (sym (ap (λ (k : Packing). k.current) c.self.view_is)) ∙ ap has_no_gap (sym c.deref.ensures.0) ∙ sym c.has_no_gap.ensures
    ∙ c.if-has_no_gap.true)
    (c.self.invariant ∙ ap (λ (k : Packing). quiet_count k.closed) c.self.view_is)
