use Rattle.std.proofs.Common.{◌+◌, refl, arith}
use Rattle.std.specs.Prelude.{string_bytes}
use Rattle.ia_meaning.specs.StateText.{br_line}
use Rattle.state_lines.proofs.Counting.{one_more}
use Rattle.state_lines.proofs.other_registers.push_branches.Goals as goal

pub loop-n-preserved : goal.loop-n-preserved
loop-n-preserved g c =
    let after = rw (c.branch-seen.ensures, c.of_field-register.ensures) at c.in_ok-push_branch.ensures in
    one_more (br_line (g.S.StateView.registers c.args.seen.now)) 0 c.loop-n.n c.loop-n.n (c.loop-n.n + 1) (string_bytes c.args.out.now)
    (string_bytes c.loop-n.out) (string_bytes c.push_branch.new.out) (omega arith) refl c.loop-n.invariant after
