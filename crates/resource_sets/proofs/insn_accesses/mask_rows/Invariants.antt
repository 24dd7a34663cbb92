use Rattle.std.proofs.Common.{◌≡◌, ◌+◌, ◌-◌, ◌++◌}
use Rattle.arrayvec.specs.ArrayVec.{array_vec_len}
use Rattle.resource_sets.specs.Accesses.{place_rows, mask_rows}
use Rattle.resource_sets.proofs.insn_accesses.mask_rows.Given as goal

abbrev pub invariant-loop-n : goal.invariant-loop-n
invariant-loop-n l = record {
  told : mask_rows l.mask l.kind ≡ l.out.items ++ place_rows (64 - l.n) l.n l.mask l.kind;
  len : array_vec_len l.out + 1 ≡ l.n;
}
