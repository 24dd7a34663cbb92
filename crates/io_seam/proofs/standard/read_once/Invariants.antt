use Rattle.std.specs.Io.KnownBytes.{Keeps}
use Rattle.io_seam.proofs.standard.read_once.Given as goal

-- A read that is interrupted takes nothing.
abbrev pub invariant-loop : goal.invariant-loop
invariant-loop g l = Keeps (g.R.Read.remaining l.initial.reader) (g.R.Read.remaining l.reader)
