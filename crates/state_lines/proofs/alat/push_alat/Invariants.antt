use Rattle.std.proofs.Common.{◌≡◌, ◌++◌, take}
use Rattle.std.specs.Prelude.{string_bytes, flat_map}
use Rattle.ia_meaning.specs.StateText.{entry_line}
use Rattle.state_lines.proofs.alat.push_alat.Given as goal

abbrev pub invariant-loop-entry : goal.invariant-loop-entry
invariant-loop-entry l = string_bytes l.out ≡ string_bytes l.fn.out ++ flat_map entry_line (take l.entry-index l.entries)
