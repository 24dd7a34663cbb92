use Rattle.insn_codec.proofs.Spellings.{one_bundle}
use Rattle.insn_codec.proofs.laws.one_bundle.Goals as goal

pub returns : goal.returns
returns c = one_bundle c.one_raw.ensures c.one_instruction.ensures c.one_instruction_x.ensures
