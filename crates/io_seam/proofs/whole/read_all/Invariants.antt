use Rattle.std.proofs.Common.{◌≡◌, ◌≤◌, ◌↔◌, ◌-◌, IsSome, vec_len}
use Rattle.std.specs.Io.KnownBytes.{Consumes}
use Rattle.io_seam.proofs.whole.read_all.Given as goal

-- The bytes so far came from the source, which didn't fail.
abbrev pub invariant-loop-count : goal.invariant-loop-count
invariant-loop-count g l =
    let left = g.S.Source.left in
    record {
      within : vec_len l.bytes ≤ l.limit;
      so_far : Consumes (left l.fn.source) (left l.source) l.bytes.items;
      told : IsSome (left l.fn.source) ↔ IsSome (left l.source);
      unchanged_faults : g.S.Source.faults l.source ≡ g.S.Source.faults l.fn.source;
    }

abbrev pub decreases-loop-count : goal.decreases-loop-count
decreases-loop-count g l = l.limit - vec_len l.bytes
