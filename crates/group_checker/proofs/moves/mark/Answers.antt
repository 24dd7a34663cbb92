use Rattle.std.proofs.Common.{◌∙◌, refl}
use Rattle.predicate_rel.specs.declared.edge.Edge.TheVariants.{Falls}
use Rattle.predicate_rel.specs.Pairs.{pairs_of}
use Rattle.predicate_rel.specs.Rules.{action_rule}
use Rattle.predicate_rel.proofs.PairLemmas.{pairs_kept}
use Rattle.group_checker.proofs.Slots.{slot_past}
use Rattle.group_checker.proofs.moves.mark.Goals as goal

pub returns : goal.returns
returns c g has_stop j is = record {
  place = refl;
  clears = refl;
  accesses = refl;
  known =
      pairs_kept c.args.earlier.now.known (action_rule c.args.slot.now.action Falls c.args.slot.now.qp) c.requires
      ∙ slot_past g has_stop j c.args.slot.now is (pairs_of c.args.earlier.now.known);
  written = refl;
}
