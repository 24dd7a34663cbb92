use Rattle.std.proofs.Common.{length, ◌-◌, ◌≡◌, ◌≤◌, ◌↔◌, take, IsSome}
use Rattle.std.specs.Io.KnownBytes.{Appends}
use Rattle.io_seam.proofs.whole.write_all.Given as goal

-- The bytes before `given` are with the sink, which didn't fail.
abbrev pub invariant-loop-given : goal.invariant-loop-given
invariant-loop-given g l =
    let given = g.K.Sink.given in
    record {
      within : l.given ≤ length l.bytes;
      so_far : Appends (given l.fn.sink) (given l.sink) (take l.given l.bytes);
      told : IsSome (given l.fn.sink) ↔ IsSome (given l.sink);
      unchanged_faults : g.K.Sink.faults l.sink ≡ g.K.Sink.faults l.fn.sink;
    }

abbrev pub decreases-loop-given : goal.decreases-loop-given
decreases-loop-given g l = length l.bytes - l.given
