use Rattle.resource_sets.proofs.Summing.{apart}
use Rattle.resource_sets.proofs.masking.may_clash.Goals as goal

pub returns : goal.returns
returns c none =
    rw (← c.first.view_is, ← c.second.view_is) (apart _ _ c.first.inside.summary c.second.inside.summary c.first.invariant.sums
    c.second.invariant.sums (c.meets.ensures none))
