use Rattle.std.proofs.Common.{List, subst, sym}
use Rattle.insn_rows.specs.declared.row.Row.{Row}
use Rattle.insn_rows.specs.Codes.{HasRow}
use Rattle.insn_rows.proofs.family.Family.encode.Goals as goal

pub returns-clause-only : goal.returns-clause-only
returns-clause-only g c = λ w code.
    let P : List Row → Type 0 = λ rows. HasRow rows c.args.insn.now w in
    c.encode_with.ensures.only w (subst P (sym c.rows.ensures) code)
