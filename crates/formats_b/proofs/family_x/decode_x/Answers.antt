use Rattle.std.proofs.Common.{◌≡◌, Option, Some, sym, ap, ◌∙◌, subst, arith}
use Rattle.std.specs.Prelude.{IfSome}
use Rattle.ia_insn.specs.declared.insn.Insn.{Insn}
use Rattle.insn_rows.specs.Codes.{HasRow}
use Rattle.formats_b.specs.PartsX.{whole_op}
use Rattle.formats_b.specs.ListedX.{rows, slot_part, CodeX}
use Rattle.formats_b.proofs.WordsX.{whole_found, whole_only, part_below}
use Rattle.formats_b.proofs.family_x.decode_x.Goals as goal

pub returns-in-Some-clause-found : goal.returns-in-Some-clause-found
returns-in-Some-clause-found c =
    let P : Option Insn → Type 0 = λ r. IfSome r (λ i. HasRow rows i c.args.word) in
    let code : HasRow rows c.in-Some.part c.args.word = subst P c.in-Some.is c.decode.ensures.found in
    let R : Insn → Type 0 = λ i. CodeX i c.args.l c.args.word in
    subst R (sym c.whole.ensures) (whole_found c.in-Some.part c.args.l c.args.word (omega arith) code)

pub returns-in-Some-clause-only : goal.returns-in-Some-clause-only
returns-in-Some-clause-only c = λ i code.
    let e = c.decode.ensures.only (slot_part i) code.code in
    let same : c.in-Some.part ≡ slot_part i = cc in
    let whole : c.whole.result ≡ i =
    c.whole.ensures ∙ ap (λ (p : Insn). record { qp = p.qp; op = whole_op c.args.l p.op }) same
    ∙ whole_only i c.args.l c.args.word code in
    ap Some whole

pub returns-in-Some-clause-beyond_word : goal.returns-in-Some-clause-beyond_word
returns-in-Some-clause-beyond_word c = λ h.
    let P : Option Insn → Type 0 = λ r. IfSome r (λ i. HasRow rows i c.args.word) in
    let code : HasRow rows c.in-Some.part c.args.word = subst P c.in-Some.is c.decode.ensures.found in
    let below = part_below c.in-Some.part c.args.word code in
    absurd (omega (arith, below, h))

pub returns-in-None-clause-only : goal.returns-in-None-clause-only
returns-in-None-clause-only c = λ i code.
    let e = c.decode.ensures.only (slot_part i) code.code in
    absurd (cc)
