use Rattle.group_engine.proofs.Sights.{sight_is}
use Rattle.group_engine.proofs.view.sight.Goals as goal

pub returns : goal.returns
returns c = λ insn now action_is qp_is latest_is.
    rw (c.see_pfs.ensures, c.see.ensures, c.see_target.ensures, c.predicate_index-place.ensures.value, c.branch_inputs.ensures)
    (sight_is insn now c.args.registers.now c.args.action.now c.args.qp c.args.latest.now c.requires action_is qp_is latest_is)
