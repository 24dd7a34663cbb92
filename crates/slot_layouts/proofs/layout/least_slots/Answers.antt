use Rattle.std.proofs.Common.{arith, refl, ◌∙◌}
use Rattle.std.proofs.lemmas.Grind.{common_steps}
use Rattle.slot_layouts.specs.Layouts.{is_layout}
use Rattle.slot_layouts.proofs.FirstLayouts.{passed, none_at_end, differ}
use Rattle.slot_layouts.proofs.layout.least_slots.Goals as goal

pub loop-slots-preserved : goal.loop-slots-preserved
loop-slots-preserved c =
    passed (is_layout c.args.template.now c.args.wanted.now c.args.end) c.loop-slots.slots-index _ c.if-is_layout.ensures
    (let less = c.loop-slots.auto.slots-index-end in grind (arith, common_steps)) ∙ c.loop-slots.invariant

pub returns-then-stop_follows-end : goal.returns-then-stop_follows-end
returns-then-stop_follows-end c =
    rw (none_at_end c.args.template.now c.args.wanted.now c.args.end (differ _ _ _ c.stop_follows.ensures c.if-stop_follows-end.true)) refl
