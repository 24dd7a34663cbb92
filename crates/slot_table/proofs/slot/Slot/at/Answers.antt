use Rattle.std.proofs.Common.{arith, sym}
use Rattle.predicate_rel.proofs.EdgeEnds.{bundle_below}
use Rattle.slot_table.proofs.slot.Slot.at.Goals as goal

pub target-requires : goal.target-requires
target-requires c =
    omega (arith, bundle_below c.args.program.now c.args.place c.in_ok-insn.insn.now c.is_program.ensures (sym c.in_ok-insn.ensures))
