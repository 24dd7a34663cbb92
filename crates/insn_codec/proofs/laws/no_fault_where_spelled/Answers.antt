use Rattle.insn_codec.proofs.Faults.{no_fault_where_spelled}
use Rattle.insn_codec.proofs.laws.no_fault_where_spelled.Goals as goal

pub returns : goal.returns
returns c = no_fault_where_spelled c.one_raw.ensures
