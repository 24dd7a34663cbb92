use Rattle.std.proofs.Common.{sym, arith}
use Rattle.group_engine.specs.Registers.{registers_of}
use Rattle.group_engine.proofs.Names.{look_at_cell}
use Rattle.group_engine.proofs.registers.GroupRegisters.general.Goals as goal

pub returns : goal.returns
returns c =
    rw (← c.self.view_is) (sym (look_at_cell (registers_of c.self.inside) c.args.r c.in_ok-cell.cell _ (omega arith) c.in_ok-cell.ensures.0
    (omega (arith, c.in_ok-cell.ensures.2)) c.index.ensures))
