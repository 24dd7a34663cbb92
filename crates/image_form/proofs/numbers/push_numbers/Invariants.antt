use Rattle.std.proofs.Common.{◌≡◌, ◌++◌, take}
use Rattle.image_form.specs.Images.{number_bytes}
use Rattle.image_form.proofs.numbers.push_numbers.Given as goal

abbrev pub invariant-loop-number : goal.invariant-loop-number
invariant-loop-number l = l.bytes.items ≡ l.initial.bytes.items ++ number_bytes (take l.number-index l.numbers)
