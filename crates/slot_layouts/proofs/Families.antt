-- The class of an instruction says what it fits.
use Rattle.std.proofs.Common.{arith, refl, ◌≡◌, ℕ, ◌<◌, true, inl, inr, subst, sym, eq-eqb, ◌↔◌}
use Rattle.std.specs.Prelude.{IsTrue}
use Rattle.std.proofs.lemmas.Bool.{eqb-true}
use Rattle.std.proofs.lemmas.Bool.Decides.{nat_tests}
use Rattle.insn_rows.specs.Arms.{opcode_of}
use Rattle.insn_rows.proofs.Laws.{AsRow}
use Rattle.formats_a.specs.Listed.{rows as rows_a, IsListedA}
use Rattle.formats_a.specs.RowIndexes.{row_index_of as row_index_a}
use Rattle.formats_a.proofs.Words.{row_a}
use Rattle.formats_i.specs.Listed.{rows as rows_i, IsListedI}
use Rattle.formats_i.specs.RowIndexes.{row_index_of as row_index_i}
use Rattle.formats_i.proofs.Words.{row_i}
use Rattle.formats_m.specs.Listed.{rows as rows_m, IsListedM}
use Rattle.formats_m.specs.RowIndexes.{row_index_of as row_index_m}
use Rattle.formats_m.proofs.Words.{row_m}
use Rattle.formats_b.specs.ListedB.{rows as rows_b, IsListedB}
use Rattle.formats_b.specs.RowIndexesB.{row_index_of as row_index_b}
use Rattle.formats_b.proofs.WordsB.{row_b}
use Rattle.formats_b.specs.ListedF.{rows as rows_f, IsListedF}
use Rattle.formats_b.specs.RowIndexesF.{row_index_of as row_index_f}
use Rattle.formats_b.proofs.WordsF.{row_f}
use Rattle.formats_b.specs.ListedX.{rows as rows_x, IsListedX}
use Rattle.formats_b.specs.RowIndexesX.{row_index_of as row_index_x}
use Rattle.formats_b.specs.PartsX.{slot_op}
use Rattle.formats_b.proofs.WordsX.{row_of_x}
use Rattle.ia_insn.specs.declared.insn.Insn.{Insn}
use Rattle.ia_insn.specs.declared.insn.Op.{Op}
use Rattle.ia_insn.specs.declared.choices.Unit.{Unit as ExecutionUnit}
use Rattle.ia_insn.specs.declared.choices.Unit.TheVariants as units
use Rattle.ia_program.specs.Fits.{Fits, FitsUnit, IsBranchSlot}
use Rattle.ia_program.specs.Listed.{IsListed}
use Rattle.slot_layouts.specs.declared.classes.SlotClass.TheVariants.{A, I, M, F, X}
use Rattle.slot_layouts.specs.Classes.{class_of, has_place}

-- The instructions of each family have its class.
is_a : (qp : ℕ) (x : Op) → AsRow rows_a (row_index_a (opcode_of x)) (record { qp = qp; op = x }) → class_of x ≡ A
is_a qp x h = grind arith

is_i : (qp : ℕ) (x : Op) → AsRow rows_i (row_index_i (opcode_of x)) (record { qp = qp; op = x }) → class_of x ≡ I
is_i qp x h = grind arith

is_m : (qp : ℕ) (x : Op) → AsRow rows_m (row_index_m (opcode_of x)) (record { qp = qp; op = x }) → class_of x ≡ M
is_m qp x h = grind arith

is_f : (qp : ℕ) (x : Op) → AsRow rows_f (row_index_f (opcode_of x)) (record { qp = qp; op = x }) → class_of x ≡ F
is_f qp x h = grind arith

is_x : (qp : ℕ) (x : Op) → AsRow rows_x (row_index_x (opcode_of (slot_op x))) (record { qp = qp; op = slot_op x }) → class_of x ≡ X
is_x qp x h = grind arith

-- Those of the B family stand in the slots of theirs.
branch_place : (qp : ℕ) (x : Op) (u : ExecutionUnit) (slot : ℕ) → AsRow rows_b (row_index_b (opcode_of x)) (record { qp = qp; op = x })
    → IsTrue (has_place (class_of x) u slot) ↔ ((u ≡ units.B) × IsBranchSlot x slot)
branch_place qp x u slot h = grind (arith, nat_tests)

-- The place of a class is one of its family.
of_a : (i : Insn) (u : ExecutionUnit) (slot : ℕ) → IsListedA i → has_place A u slot ≡ true → FitsUnit i u slot
of_a i units.M slot listed h = inl listed
of_a i units.I slot listed h = inl listed
of_a i u slot listed h = absurd (cc)

of_i : (i : Insn) (u : ExecutionUnit) (slot : ℕ) → IsListedI i → has_place I u slot ≡ true → FitsUnit i u slot
of_i i units.I slot listed h = inr listed
of_i i u slot listed h = absurd (cc)

of_m : (i : Insn) (u : ExecutionUnit) (slot : ℕ) → IsListedM i → has_place M u slot ≡ true → FitsUnit i u slot
of_m i units.M slot listed h = inr listed
of_m i u slot listed h = absurd (cc)

of_f : (i : Insn) (u : ExecutionUnit) (slot : ℕ) → IsListedF i → has_place F u slot ≡ true → FitsUnit i u slot
of_f i units.F slot listed h = listed
of_f i u slot listed h = absurd (cc)

of_x : (i : Insn) (u : ExecutionUnit) (slot : ℕ) → IsListedX i → has_place X u slot ≡ true → FitsUnit i u slot
of_x i units.L slot listed h = (listed, eqb-true slot 1 h)
of_x i units.X slot listed h = (listed, eqb-true slot 1 h)
of_x i u slot listed h = absurd (cc)

of_b : (i : Insn) (u : ExecutionUnit) (slot : ℕ) → IsListedB i → has_place (class_of i.op) u slot ≡ true → FitsUnit i u slot
of_b i u slot listed h =
    let k = (branch_place i.qp i.op u slot (row_b i listed)).0 h in
    subst (λ u. FitsUnit i u slot) (sym k.0) (listed, k.1)

kind_of : (i : Insn) (u : ExecutionUnit) (slot : ℕ) → IsListed i → has_place (class_of i.op) u slot ≡ true → FitsUnit i u slot
kind_of i u slot (inl a) h = of_a i u slot a (rw (is_a i.qp i.op (row_a i a)) at h)
kind_of i u slot (inr (inl a)) h = of_i i u slot a (rw (is_i i.qp i.op (row_i i a)) at h)
kind_of i u slot (inr (inr (inl a))) h = of_m i u slot a (rw (is_m i.qp i.op (row_m i a)) at h)
kind_of i u slot (inr (inr (inr (inl a)))) h = of_b i u slot a h
kind_of i u slot (inr (inr (inr (inr (inl a))))) h = of_f i u slot a (rw (is_f i.qp i.op (row_f i a)) at h)
kind_of i u slot (inr (inr (inr (inr (inr a))))) h = of_x i u slot a (rw (is_x i.qp i.op (row_of_x i a).0) at h)

pub place_fits : (i : Insn) (u : ExecutionUnit) (slot : ℕ) → slot < 3 → IsListed i → IsTrue (has_place (class_of i.op) u slot)
    → Fits i u slot
place_fits i u slot less listed h = record { place = less; kind = kind_of i u slot listed h }

-- The class of an instruction that fits has this place.
from_kind : (i : Insn) (u : ExecutionUnit) (slot : ℕ) → FitsUnit i u slot → has_place (class_of i.op) u slot ≡ true
from_kind i units.M slot (inl a) = rw (is_a i.qp i.op (row_a i a)) refl
from_kind i units.M slot (inr a) = rw (is_m i.qp i.op (row_m i a)) refl
from_kind i units.I slot (inl a) = rw (is_a i.qp i.op (row_a i a)) refl
from_kind i units.I slot (inr a) = rw (is_i i.qp i.op (row_i i a)) refl
from_kind i units.F slot a = rw (is_f i.qp i.op (row_f i a)) refl
from_kind i units.B slot (a, k) = (branch_place i.qp i.op units.B slot (row_b i a)).1 (refl, k)
from_kind i units.L slot (a, k) = rw (is_x i.qp i.op (row_of_x i a).0) (eq-eqb slot 1 k)
from_kind i units.X slot (a, k) = rw (is_x i.qp i.op (row_of_x i a).0) (eq-eqb slot 1 k)

pub fits_place : (i : Insn) (u : ExecutionUnit) (slot : ℕ) → Fits i u slot → IsTrue (has_place (class_of i.op) u slot)
fits_place i u slot fits = from_kind i u slot fits.kind

-- Of a listed instruction, the places of its class are those that it fits.
pub place_is_fit : (i : Insn) (u : ExecutionUnit) (slot : ℕ) → slot < 3 → IsListed i → IsTrue (has_place (class_of i.op) u slot)
    ↔ Fits i u slot
place_is_fit i u slot less listed = (place_fits i u slot less listed, fits_place i u slot)
