-- The instructions of the stated programs fit their bundles.
use Rattle.std.proofs.Common.{◌≢◌, ℕ, ◌<◌, inl, inr, lit<, arith}
use Rattle.ia_insn.specs.declared.choices.AluFn.{AluFn}
use Rattle.ia_insn.specs.declared.choices.Unit.TheVariants.{M, I}
use Rattle.ia_insn.specs.declared.insn.Op.TheVariants.{Alu}
use Rattle.insn_rows.specs.Rows.{listed}
use Rattle.formats_a.specs.Listed.{rows as rows_a, IsListedA}
use Rattle.formats_a.proofs.Words.{of_row_a}
use Rattle.formats_i.specs.Listed.{rows as rows_i}
use Rattle.formats_i.proofs.Words.{of_row_i}
use Rattle.formats_m.specs.Listed.{rows as rows_m}
use Rattle.formats_m.proofs.Words.{of_row_m}
use Rattle.ia_program.specs.Fits.{Fits}
use Rattle.ia_program.specs.Bundles.{IsBundle}
use Rattle.trial_maker.specs.declared.draws.Trio.{Trio}
use Rattle.trial_maker.specs.Trials.{nop, compare, addition, operation, operation_of, mii, last_bundle}

alu_listed : (qp r1 r2 r3 : ℕ) (f : AluFn) → qp < 64 → r1 ≢ 0 → r1 < 128 → r2 < 128 → r3 < 128
    → IsListedA (record { qp = qp; op = Alu f r1 r2 r3 })
unfolding rows_a listed
alu_listed qp r1 r2 r3 f q some a b c = of_row_a _ (grind arith)

operation_fits : (qp target draw slot : ℕ) → qp < 64 → slot < 3 → Fits (operation qp target draw) I slot
operation_fits qp target draw slot q less =
    record { place = less; kind = inl (alu_listed qp _ _ _ (operation_of draw) q (omega arith) (omega arith) (omega arith) (omega arith)) }

nop_m_fits : Fits (nop M) M 0
unfolding rows_m listed
nop_m_fits = record { place = lit< tt; kind = inr (of_row_m _ (grind arith)) }

nop_i_fits : (slot : ℕ) → slot < 3 → Fits (nop I) I slot
unfolding rows_i listed
nop_i_fits slot less = record { place = less; kind = inr (of_row_i _ (grind arith)) }

pub sets_fit : (number : ℕ) (draws : Trio) → IsBundle (mii (compare draws.first) (addition number draws.second) (nop I))
unfolding rows_a listed
sets_fit number draws = (
  record { place = lit< tt; kind = inl (of_row_a _ (grind arith)) },
  record { place = lit< tt; kind = inl (of_row_a _ (grind arith)) },
  nop_i_fits 2 (lit< tt),
  λ e. cc,
)

pub changes_fit : (draws : Trio) → IsBundle (mii (nop M) (operation 6 draws.first draws.second) (operation 7 draws.first draws.third))
changes_fit draws = (
  nop_m_fits,
  operation_fits 6 draws.first draws.second 1 (lit< tt) (lit< tt),
  operation_fits 7 draws.first draws.third 2 (lit< tt) (lit< tt),
  λ e. cc,
)

pub last_fits : IsBundle last_bundle
unfolding rows_i listed
last_fits = (nop_m_fits, nop_i_fits 1 (lit< tt), record { place = lit< tt; kind = inr (of_row_i _ (grind arith)) }, λ e. cc)
