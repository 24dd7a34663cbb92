use Rattle.std.proofs.Common.{◌-◌, length, drop}
use Rattle.image_form.specs.Images.{AreSpelled}
use Rattle.asm_build.proofs.Listed.{IsListedTo}
use Rattle.asm_build.proofs.listing.push_listed.Given as goal

abbrev pub invariant-loop-n : goal.invariant-loop-n
invariant-loop-n l = record {
  listed : IsListedTo l.bundles l.n l.fn.out.items l.out.items;
  spelled : AreSpelled (drop l.n l.bundles) l.rest;
}

abbrev pub decreases-loop-n : goal.decreases-loop-n
decreases-loop-n l = length l.bundles - l.n
