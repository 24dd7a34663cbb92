-- The items that are passed stand, and the order of the others with what is left of the number makes the whole one.
use Rattle.std.proofs.Common.{◌≡◌, length, ◌-◌, ◌++◌, take, drop}
use Rattle.ia_meaning.specs.WriteOrders.{arranged}
use Rattle.ia_meaning.specs.NumberedRuns.{order}
use Rattle.group_engine.proofs.arrange.arrange.Given as goal

abbrev pub invariant-loop-at : goal.invariant-loop-at
invariant-loop-at g l =
    take l.at l.items ++ arranged (order l.left (length l.fn.items - l.at)) (drop l.at l.items)
    ≡ arranged (order l.fn.number (length l.fn.items)) l.fn.items
