use Rattle.std.proofs.Common.{◌+◌, ◌-◌, arith}
use Rattle.std.specs.Prelude.{string_bytes}
use Rattle.ia_meaning.specs.StateText.{gr_line}
use Rattle.state_lines.proofs.Counting.{one_more}
use Rattle.state_lines.proofs.general_registers.push_general_registers.Goals as goal

pub loop-n-preserved : goal.loop-n-preserved
loop-n-preserved g c =
    let after = rw c.of_field.ensures at c.in_ok-push_general.ensures in (
      omega arith,
      one_more (gr_line (g.S.StateView.registers c.args.seen.now)) 1 (c.loop-n.n - 1) c.loop-n.n (c.loop-n.n + 1 - 1)
          (string_bytes c.args.out.now) (string_bytes c.loop-n.out) (string_bytes c.push_general.new.out) (omega arith)
          (omega arith) c.loop-n.invariant.1 after,
    )
