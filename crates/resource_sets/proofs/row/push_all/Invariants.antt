use Rattle.std.proofs.Common.{◌≡◌, ◌+◌, ◌≤◌, ◌++◌, drop}
use Rattle.arrayvec.specs.ArrayVec.{array_vec_len}
use Rattle.resource_sets.specs.Rows.{listed}
use Rattle.resource_sets.proofs.row.push_all.Given as goal

abbrev pub invariant-loop-n : goal.invariant-loop-n
invariant-loop-n g l = record {
  told : l.fn.out.items ++ listed l.qp l.rows ≡ l.out.items ++ listed l.qp (drop l.n l.rows);
  len : array_vec_len l.out ≤ array_vec_len l.fn.out + l.n;
}
