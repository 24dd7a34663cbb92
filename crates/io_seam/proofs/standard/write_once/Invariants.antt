use Rattle.std.specs.Io.KnownBytes.{Keeps}
use Rattle.io_seam.proofs.standard.write_once.Given as goal

-- A write that is interrupted gives nothing.
abbrev pub invariant-loop : goal.invariant-loop
invariant-loop g l = Keeps (g.W.Write.contents l.initial.writer) (g.W.Write.contents l.writer)
