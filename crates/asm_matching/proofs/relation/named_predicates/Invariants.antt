use Rattle.std.proofs.Common.{◌≡◌, ◌<◌, ◌-◌, ◌++◌}
use Rattle.std.specs.List.{filter, range_with_len}
use Rattle.arrayvec.specs.ArrayVec.{array_vec_len}
use Rattle.asm_matching.specs.Relations.{is_named, named_predicates}
use Rattle.asm_matching.proofs.relation.named_predicates.Given as goal

abbrev pub invariant-loop-p : goal.invariant-loop-p
invariant-loop-p l = record {
  room : array_vec_len l.numbers < l.p;
  value : l.numbers.items ++ filter (is_named l.tokens) (range_with_len l.p (16 - l.p)) ≡ named_predicates l.tokens;
}
