use Rattle.std.proofs.Common.{◌∙◌, refl}
use Rattle.predicate_rel.specs.Pairs.{pairs_of}
use Rattle.group_checker.proofs.Slots.{slot_past}
use Rattle.group_checker.proofs.moves.pass.Goals as goal

pub returns-clause-goes_on : goal.returns-clause-goes_on
returns-clause-goes_on c g has_stop j is = record {
  place = refl;
  clears = refl;
  accesses = refl;
  known = c.pass_known.ensures.known ∙ slot_past g has_stop j c.args.slot.now is (pairs_of c.args.earlier.now.known);
  written = refl;
}
