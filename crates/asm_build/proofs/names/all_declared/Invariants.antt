use Rattle.std.proofs.Common.{◌≡◌, [], drop}
use Rattle.asm_build.specs.Names.{all_declared}
use Rattle.asm_build.proofs.names.all_declared.Given as goal

abbrev pub invariant-loop-line : goal.invariant-loop-line
invariant-loop-line l = all_declared l.labels.entries l.entries.keys (drop l.line-index l.lines) ≡ all_declared l.labels.entries [] l.lines
