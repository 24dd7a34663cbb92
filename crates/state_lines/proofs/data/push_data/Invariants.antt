use Rattle.std.proofs.Common.{◌≡◌, ◌++◌}
use Rattle.std.specs.Prelude.{string_bytes, flat_map}
use Rattle.ia_meaning.specs.StateText.{count_up, data_line}
use Rattle.state_lines.proofs.data.push_data.Given as goal

abbrev pub invariant-loop-n : goal.invariant-loop-n
invariant-loop-n l = string_bytes l.out ≡ string_bytes l.fn.out ++ flat_map (data_line l.bytes) (count_up 0 l.n)
