use Rattle.insn_rows.proofs.Families.{one_insn}
use Rattle.formats_m.proofs.Table.{is_family}
use Rattle.sem_ops.proofs.laws.one_instruction.Goals as goal

pub returns : goal.returns
returns c = λ w i j of-i of-j. one_insn is_family w i j of-i.0 of-j.0
