use Rattle.std.proofs.Common.{◌↔◌}
use Rattle.std.specs.List.{AllByRecursion}
use Rattle.std.specs.Map.{values_of}
use Rattle.asm_build.specs.Addresses.{IsInside}
use Rattle.asm_build.proofs.text_parts.TextParts.are_labels_below.Given as goal

abbrev pub invariant-loop-address : goal.invariant-loop-address
invariant-loop-address l =
    AllByRecursion (IsInside l.count) l.address-iterator ↔ AllByRecursion (IsInside l.count) (values_of l.self.labels)
