-- No instruction is of two families.
use Rattle.std.proofs.Common.{ℕ, List, ◌⊎◌, inl, inr, refl, arith}
use Rattle.std.specs.Prelude.{Option, Some, None, IsSome}
use Rattle.ia_insn.specs.declared.insn.Insn.{Insn}
use Rattle.insn_rows.specs.declared.opcode.Opcode.{Opcode}
use Rattle.insn_rows.specs.declared.row.Row.{Row}
use Rattle.insn_rows.specs.Arms.{opcode_of}
use Rattle.insn_rows.proofs.Laws.{AsRow}
use Rattle.formats_a.specs.Listed.{rows as rows_a, IsListedA}
use Rattle.formats_a.specs.RowIndexes.{row_index_of as row_index_a}
use Rattle.formats_a.proofs.Words.{row_a}
use Rattle.formats_i.specs.Listed.{rows as rows_i, IsListedI}
use Rattle.formats_i.specs.RowIndexes.{row_index_of as row_index_i}
use Rattle.formats_i.proofs.Words.{row_i}
use Rattle.formats_m.specs.Listed.{rows as rows_m, IsListedM}
use Rattle.formats_m.specs.RowIndexes.{row_index_of as row_index_m}
use Rattle.formats_m.proofs.Words.{row_m}

-- An instruction with a row has the index of one.
some_row_index : (rows : List Row) (p : Option ℕ) (insn : Insn) → AsRow rows p insn → IsSome p
some_row_index rows None insn h = absurd h
some_row_index rows (Some n) insn h = refl

some_a : (insn : Insn) → IsListedA insn → IsSome (row_index_a (opcode_of insn.op))
some_a insn h = some_row_index rows_a (row_index_a (opcode_of insn.op)) insn (row_a insn h)

some_m : (insn : Insn) → IsListedM insn → IsSome (row_index_m (opcode_of insn.op))
some_m insn h = some_row_index rows_m (row_index_m (opcode_of insn.op)) insn (row_m insn h)

some_i : (insn : Insn) → IsListedI insn → IsSome (row_index_i (opcode_of insn.op))
some_i insn h = some_row_index rows_i (row_index_i (opcode_of insn.op)) insn (row_i insn h)

-- An opcode of the A instructions is none of M and none of I.
a_or_m : (c : Opcode) → IsSome (row_index_a c) → IsSome (row_index_m c) → ⊥
a_or_m c common own = grind arith

a_or_i : (c : Opcode) → IsSome (row_index_a c) → IsSome (row_index_i c) → ⊥
a_or_i c common own = grind arith

pub not_a_and_m : (insn : Insn) → IsListedA insn → IsListedM insn → ⊥
not_a_and_m insn common own = a_or_m (opcode_of insn.op) (some_a insn common) (some_m insn own)

pub not_a_and_i : (insn : Insn) → IsListedA insn → IsListedI insn → ⊥
not_a_and_i insn common own = a_or_i (opcode_of insn.op) (some_a insn common) (some_i insn own)

-- The opcode says which of two families an instruction belongs to.
pub is_a_of_m : (insn : Insn) → IsListedA insn ⊎ IsListedM insn → IsSome (row_index_a (opcode_of insn.op)) → IsListedA insn
is_a_of_m insn (inl common) has = common
is_a_of_m insn (inr own) has = absurd (a_or_m (opcode_of insn.op) has (some_m insn own))

pub is_a_of_i : (insn : Insn) → IsListedA insn ⊎ IsListedI insn → IsSome (row_index_a (opcode_of insn.op)) → IsListedA insn
is_a_of_i insn (inl common) has = common
is_a_of_i insn (inr own) has = absurd (a_or_i (opcode_of insn.op) has (some_i insn own))

pub is_m : (insn : Insn) → IsListedA insn ⊎ IsListedM insn → (IsSome (row_index_a (opcode_of insn.op)) → ⊥) → IsListedM insn
is_m insn (inl common) none = absurd (none (some_a insn common))
is_m insn (inr own) none = own

pub is_i : (insn : Insn) → IsListedA insn ⊎ IsListedI insn → (IsSome (row_index_a (opcode_of insn.op)) → ⊥) → IsListedI insn
is_i insn (inl common) none = absurd (none (some_a insn common))
is_i insn (inr own) none = own
