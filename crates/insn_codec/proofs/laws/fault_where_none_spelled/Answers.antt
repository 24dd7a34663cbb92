use Rattle.insn_codec.proofs.Faults.{fault_where_none_spelled}
use Rattle.insn_codec.proofs.laws.fault_where_none_spelled.Goals as goal

pub returns : goal.returns
returns c = fault_where_none_spelled c.some_raw.ensures
