use Rattle.std.proofs.Common.{sym, subst}
use Rattle.ia_insn.specs.declared.insn.Insn.{Insn}
use Rattle.insn_rows.specs.Codes.{HasRow}
use Rattle.formats_b.specs.ListedX.{rows}
use Rattle.formats_b.proofs.family_x.encode_x.Goals as goal

pub returns-in-None-clause-listed : goal.returns-in-None-clause-listed
returns-in-None-clause-listed c = (
  λ t. absurd (cc),
  λ l.
      let P : Insn → Type 0 = λ i. HasRow rows i l.0 in
      let e = c.encode.ensures.only l.0 (subst P (sym c.slot_part.ensures) l.1.code) in
      absurd (cc),
)
