use Rattle.insn_codec.proofs.Faults.{one_fault}
use Rattle.insn_codec.proofs.laws.one_fault.Goals as goal

pub returns : goal.returns
returns c = one_fault c.one_raw.ensures
