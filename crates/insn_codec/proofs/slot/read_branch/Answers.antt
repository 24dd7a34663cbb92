use Rattle.std.proofs.Common.{◌≡◌, sym, ◌∙◌, subst}
use Rattle.ia_insn.specs.declared.insn.Insn.{Insn}
use Rattle.ia_program.specs.Fits.{IsBranchSlot}
use Rattle.insn_codec.proofs.slot.read_branch.Goals as goal

pub returns-then-is_branch_slot-clause-only : goal.returns-then-is_branch_slot-clause-only
returns-then-is_branch_slot-clause-only c = λ i s. sym c.in-Some.is ∙ c.decode.ensures.only i s.code

pub returns-else-is_branch_slot-clause-only : goal.returns-else-is_branch_slot-clause-only
returns-else-is_branch_slot-clause-only c = λ i s.
    let e = sym c.in-Some.is ∙ c.decode.ensures.only i s.code in
    let same : i ≡ c.in-Some.insn = cc in
    let P : Insn → Type 0 = λ j. IsBranchSlot j.op c.args.slot in
    let t = c.is_branch_slot.ensures.1 (subst P same s.fits.kind.1) in
    let f = c.if-is_branch_slot.false in
    absurd (cc)

pub returns-in-None-clause-only : goal.returns-in-None-clause-only
returns-in-None-clause-only c = λ i s. sym c.in-None.is ∙ c.decode.ensures.only i s.code
