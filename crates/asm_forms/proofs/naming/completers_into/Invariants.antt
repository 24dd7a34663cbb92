use Rattle.std.proofs.Common.{◌≡◌, ◌≤◌, ◌++◌, drop, length, option_map}
use Rattle.arrayvec.specs.ArrayVec.{array_vec_len}
use Rattle.asm_forms.specs.Naming.{completers_in}
use Rattle.asm_forms.proofs.naming.completers_into.Given as goal

abbrev pub invariant-loop-set : goal.invariant-loop-set
invariant-loop-set l = record {
  room : array_vec_len l.list ≤ l.set-index;
  within : l.at ≤ length l.name;
  value : option_map (λ cs. l.list.items ++ cs) (completers_in (drop l.set-index l.sets) (drop l.at l.name)) ≡ completers_in l.sets l.name;
}
