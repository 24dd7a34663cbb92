-- The writes that are left make of the registers and of the range what all of them make.
use Rattle.std.proofs.Common.{◌≡◌, drop}
use Rattle.ia_meaning.specs.Writes.{apply, frame_changes}
use Rattle.ia_meaning.specs.ResidentRange.{range_of}
use Rattle.group_engine.proofs.making.make.Given as goal

abbrev pub invariant-loop-write : goal.invariant-loop-write
invariant-loop-write l = record {
  registers : apply (drop l.write-index l.writes) l.registers ≡ apply l.writes l.fn.registers;
  range : range_of l.range (frame_changes (drop l.write-index l.writes)) ≡ range_of l.fn.range (frame_changes l.writes);
}
