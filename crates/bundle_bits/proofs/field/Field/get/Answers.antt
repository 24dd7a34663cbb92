use Rattle.std.proofs.Common.{arith}
use Rattle.bundle_bits.proofs.Fields.{read, read-below}
use Rattle.bundle_bits.proofs.field.Field.get.Goals as goal

pub returns-clause-value : goal.returns-clause-value
returns-clause-value g c = read c.args.word g.row.LO g.row.W (omega arith)

pub returns-clause-within : goal.returns-clause-within
returns-clause-within g c = read-below c.args.word g.row.LO g.row.W (omega arith)
