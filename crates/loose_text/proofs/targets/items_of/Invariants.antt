use Rattle.std.proofs.Common.{◌≡◌, ◌++◌, drop}
use Rattle.loose_text.specs.LooseParts.{items_of}
use Rattle.loose_text.proofs.targets.items_of.Given as goal

abbrev pub invariant-loop-line : goal.invariant-loop-line
invariant-loop-line l = l.items.items ++ items_of (drop l.line-index l.lines) ≡ items_of l.lines
