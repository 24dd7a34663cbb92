use Rattle.std.proofs.Common.{◌≡◌, ◌++◌, ◌-◌, ◌≤◌}
use Rattle.std.specs.Prelude.{string_bytes, flat_map}
use Rattle.ia_meaning.specs.StateText.{count_up, gr_line}
use Rattle.state_lines.proofs.general_registers.push_general_registers.Given as goal

abbrev pub invariant-loop-n : goal.invariant-loop-n
invariant-loop-n g l =
    (1 ≤ l.n) × (string_bytes l.out ≡ string_bytes l.fn.out ++ flat_map (gr_line (g.S.StateView.registers l.seen)) (count_up 1 (l.n - 1)))
