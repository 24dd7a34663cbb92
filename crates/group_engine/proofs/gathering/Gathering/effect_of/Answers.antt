use Rattle.std.proofs.Common.{sym, ap, ◌∙◌}
use Rattle.ia_meaning.specs.ParallelGroups.{now_of}
use Rattle.slot_table.specs.declared.slot.Slot.{Slot}
use Rattle.group_engine.specs.Groups.{gathered_of}
use Rattle.group_engine.proofs.TakingIn.{effect_is}
use Rattle.group_engine.proofs.Starts.{slot_of_insn, effect_of_plain}
use Rattle.group_engine.proofs.gathering.Gathering.effect_of.Goals as goal

pub returns-then-is_branch : goal.returns-then-is_branch
returns-then-is_branch c insn at =
    let p = c.args.table.now in
    let g = gathered_of c.args.self.now in
    let is = slot_of_insn p g c.args.slot.now insn c.requires.slot at in
    let action = ap (λ (s : Slot). s.action) is in
    let qp = ap (λ (s : Slot). s.qp) is in
    effect_is p g insn c.effect.result c.sight-sight.result
    (c.sight-sight.ensures insn (now_of g) action qp (sym (c.latest.ensures ∙ c.requires.latest)))
    (rw (action, qp, ← c.program.ensures) c.effect.ensures.value) c.effect.ensures.may

pub returns-else-is_branch : goal.returns-else-is_branch
returns-else-is_branch c insn at =
    rw c.branch_inputs.ensures
    (effect_of_plain c.args.table.now (gathered_of c.args.self.now) c.args.slot.now c.effect-else-is_branch.result c.requires.slot
    (sym c.if-is_branch.ensures)
    (rw (← c.program-else-is_branch.ensures, ← c.start-view.ensures.registers, ← c.start-view.ensures.in_order)
    c.effect-else-is_branch.ensures.value)
    (rw (← c.start-view.ensures.registers, ← c.start-view.ensures.in_order) c.effect-else-is_branch.ensures.may) insn at)
