use Rattle.std.proofs.Common.{List, arith, subst, sym}
use Rattle.insn_rows.specs.declared.row.Row.{Row}
use Rattle.insn_rows.specs.Codes.{HasRow}
use Rattle.insn_rows.proofs.Families.{is_from, is_below, none_found}
use Rattle.insn_rows.proofs.family.Family.decode.Goals as goal

pub returns-clause-only : goal.returns-clause-only
returns-clause-only g c = λ i code.
    let P : List Row → Type 0 = λ rows. HasRow rows i c.args.word in
    c.decode_with.ensures.only i (subst P (sym c.rows.ensures) code)

pub returns-clause-beyond : goal.returns-clause-beyond
returns-clause-beyond g c = λ h.
    none_found c.decode_with.result c.args.word c.decode_with.ensures.found (λ i code.
    let P : List Row → Type 0 = λ rows. HasRow rows i c.args.word in
    let below = is_below c.is_family.ensures c.args.word i (subst P c.rows.ensures code) in
    omega (arith, h, below))

pub returns-clause-before : goal.returns-clause-before
returns-clause-before g c = λ h.
    none_found c.decode_with.result c.args.word c.decode_with.ensures.found (λ i code.
    let P : List Row → Type 0 = λ rows. HasRow rows i c.args.word in
    let from = is_from c.is_family.ensures c.args.word i (subst P c.rows.ensures code) in
    omega (arith, h, from))
