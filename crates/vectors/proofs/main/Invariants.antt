use Rattle.std.proofs.Common.{◌+◌, ◌≤◌}
use Rattle.vectors.proofs.main.Given as goal

-- No more rows differ than were read, which end.
abbrev pub invariant-loop-index : goal.invariant-loop-index
invariant-loop-index l =
    let remaining = (goal.iterator-loop-index).remaining in
    (goal.iterator-loop-index).can_next l.index-iterator ×
    (goal.iterator-loop-index).is_finite l.index-iterator ×
    (l.differing + remaining l.index-iterator ≤ remaining l.initial.index-iterator)
