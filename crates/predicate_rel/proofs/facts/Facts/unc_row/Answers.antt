use Rattle.std.proofs.Common.{refl}
use Rattle.predicate_rel.specs.Rules.{always, is_target}
use Rattle.predicate_rel.proofs.BitLemmas.{has_bit_all}
use Rattle.predicate_rel.proofs.facts.Facts.unc_row.Goals as goal

pub returns : goal.returns
returns c = c.written_row.ensures (is_target c.args.p1 c.args.p2) (λ _ _. always) refl c.targets.ensures (λ y l. has_bit_all y l)
