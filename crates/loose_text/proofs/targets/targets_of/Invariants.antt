use Rattle.std.proofs.Common.{◌≡◌, ◌-◌, ◌++◌, map, drop, length}
use Rattle.loose_text.specs.declared.item.ItemLine.{ItemLine}
use Rattle.loose_text.specs.LooseReading.{unnamed_item, target_of}
use Rattle.loose_text.proofs.targets.targets_of.Given as goal

abbrev pub invariant-loop-n : goal.invariant-loop-n
invariant-loop-n l =
    (l.targets.items ++ map (λ (k : ItemLine). target_of l.declared.labels k.target) (drop l.n l.lines)
    ≡ map (λ (k : ItemLine). target_of l.declared.labels k.target) l.lines)
    × (unnamed_item l.declared.labels l.n (drop l.n l.lines) ≡ unnamed_item l.declared.labels 0 l.lines)

abbrev pub decreases-loop-n : goal.decreases-loop-n
decreases-loop-n l = length l.lines - l.n
