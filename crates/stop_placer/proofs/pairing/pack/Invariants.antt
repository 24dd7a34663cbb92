use Rattle.std.proofs.Common.{◌<◌, length}
use Rattle.ia_program.specs.declared.limits.TheConstants.{BUNDLE_LIMIT}
use Rattle.ia_meaning.specs.Sequence.{first_of}
use Rattle.flow_facts.specs.Graphs.{over_sequence}
use Rattle.group_checker.specs.Windows.{IsWindow}
use Rattle.bundling.specs.Bundled.{sequence_of}
use Rattle.stop_placer.specs.Packs.{stopped_by}
use Rattle.stop_placer.proofs.PackSteps.{IsPackedSo}
use Rattle.stop_placer.proofs.pairing.pack.Given as goal

abbrev pub invariant-loop-n : goal.invariant-loop-n
invariant-loop-n l = record {
  so : IsPackedSo l.text l.n l.packing;
  room : length l.packing.closed < BUNDLE_LIMIT;
  window : l.n < length (sequence_of l.text).insns → IsWindow (over_sequence (sequence_of l.text))
      (stopped_by l.packing.causes) l.window (first_of l.n);
}
