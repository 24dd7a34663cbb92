use Rattle.std.proofs.Common.{◌≡◌, ◌++◌}
use Rattle.std.specs.Prelude.{string_bytes, flat_map}
use Rattle.ia_meaning.specs.StateText.{count_up, br_line}
use Rattle.state_lines.proofs.other_registers.push_branches.Given as goal

abbrev pub invariant-loop-n : goal.invariant-loop-n
invariant-loop-n g l = string_bytes l.out ≡ string_bytes l.fn.out ++ flat_map (br_line (g.S.StateView.registers l.seen)) (count_up 0 l.n)
