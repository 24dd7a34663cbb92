-- What the list of instructions says of the names of registers and predicates.
use Rattle.std.proofs.Common.{◌≢◌, ℕ, ◌<◌, inl, inr, arith}
use Rattle.ia_insn.specs.declared.insn.Op.{Op}
use Rattle.ia_insn.specs.Ranges.{IsLoadUpdate, IsQualifier}
use Rattle.insn_rows.specs.Arms.{opcode_of}
use Rattle.insn_rows.specs.Rows.{listed}
use Rattle.insn_rows.proofs.Laws.{AsRow}
use Rattle.formats_a.specs.Listed.{rows as rows_a}
use Rattle.formats_a.specs.RowIndexes.{row_index_of as row_index_a}
use Rattle.formats_a.proofs.Words.{row_a}
use Rattle.formats_i.specs.Listed.{rows as rows_i}
use Rattle.formats_i.specs.RowIndexes.{row_index_of as row_index_i}
use Rattle.formats_i.proofs.Words.{row_i}
use Rattle.formats_m.specs.Listed.{rows as rows_m}
use Rattle.formats_m.specs.RowIndexes.{row_index_of as row_index_m}
use Rattle.formats_m.proofs.Words.{row_m}
use Rattle.formats_b.specs.ListedB.{rows as rows_b}
use Rattle.formats_b.specs.RowIndexesB.{row_index_of as row_index_b}
use Rattle.formats_b.proofs.WordsB.{row_b}
use Rattle.formats_b.specs.RowIndexesF.{row_index_of as row_index_f}
use Rattle.formats_b.specs.ListedF.{rows as rows_f}
use Rattle.formats_b.proofs.WordsF.{row_f}
use Rattle.formats_b.specs.RowIndexesX.{row_index_of as row_index_x}
use Rattle.formats_b.specs.ListedX.{rows as rows_x}
use Rattle.formats_b.specs.PartsX.{slot_op}
use Rattle.formats_b.proofs.WordsX.{row_of_x}
use Rattle.ia_program.specs.Listed.{IsListed}
use Rattle.ia_meaning.specs.declared.action.Action.{Action}
use Rattle.ia_meaning.specs.declared.action.Action.TheVariants as action
use Rattle.ia_meaning.specs.Actions.{action_of}

-- The targets of a test are two.
abbrev pub AreTargets : ℕ → ℕ → Type 0
AreTargets p1 p2 = (p1 ≢ p2) × (p1 < 64) × (p2 < 64)

-- The targets of a test are two, a load updates no register that it loads, and a counted loop branch has no qualifying
-- predicate.
abbrev pub HasNames : ℕ → Action → Type 0
HasNames qp (action.Test kind p1 p2 r2 r3 c) = AreTargets p1 p2
HasNames qp (action.FromMemory size kind r1 r3 u) = IsLoadUpdate r1 r3 u
HasNames qp (action.Loop kind disp) = IsQualifier kind qp
HasNames qp f = Unit {0}

names_a : (qp : ℕ) (x : Op) → AsRow rows_a (row_index_a (opcode_of x)) (record { qp = qp; op = x }) → (qp < 64) × HasNames qp (action_of x)
unfolding rows_a listed
names_a qp x h = grind arith

names_i : (qp : ℕ) (x : Op) → AsRow rows_i (row_index_i (opcode_of x)) (record { qp = qp; op = x }) → (qp < 64) × HasNames qp (action_of x)
unfolding rows_i listed
names_i qp x h = grind arith

names_m : (qp : ℕ) (x : Op) → AsRow rows_m (row_index_m (opcode_of x)) (record { qp = qp; op = x }) → (qp < 64) × HasNames qp (action_of x)
unfolding rows_m listed
names_m qp x h = grind arith

names_b : (qp : ℕ) (x : Op) → AsRow rows_b (row_index_b (opcode_of x)) (record { qp = qp; op = x }) → (qp < 64) × HasNames qp (action_of x)
unfolding rows_b listed
names_b qp x h = grind arith

names_f : (qp : ℕ) (x : Op) → AsRow rows_f (row_index_f (opcode_of x)) (record { qp = qp; op = x }) → (qp < 64) × HasNames qp (action_of x)
unfolding rows_f listed
names_f qp x h = grind arith

names_x : (qp : ℕ) (x : Op) → AsRow rows_x (row_index_x (opcode_of (slot_op x))) (record { qp = qp; op = slot_op x })
    → (qp < 64) × HasNames qp (action_of x)
unfolding rows_x listed
names_x qp x h = grind arith

pub all_names : (qp : ℕ) (o : Op) → IsListed (record { qp = qp; op = o }) → (qp < 64) × HasNames qp (action_of o)
all_names qp o (inl l) = names_a qp o (row_a _ l)
all_names qp o (inr (inl l)) = names_i qp o (row_i _ l)
all_names qp o (inr (inr (inl l))) = names_m qp o (row_m _ l)
all_names qp o (inr (inr (inr (inl l)))) = names_b qp o (row_b _ l)
all_names qp o (inr (inr (inr (inr (inl l))))) = names_f qp o (row_f _ l)
all_names qp o (inr (inr (inr (inr (inr l))))) = names_x qp o (row_of_x _ l).0

pub has_names : (qp : ℕ) (o : Op) → IsListed (record { qp = qp; op = o }) → HasNames qp (action_of o)
has_names qp o l = (all_names qp o l).1
