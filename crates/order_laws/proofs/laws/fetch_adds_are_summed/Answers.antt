use Rattle.order_laws.proofs.FetchAdds.{adds_find_sums, adds_are_summed, adds_stand, two_are_added}
use Rattle.order_laws.proofs.laws.fetch_adds_are_summed.Goals as goal

pub returns-clause-values : goal.returns-clause-values
returns-clause-values c = adds_find_sums

pub returns-clause-memory : goal.returns-clause-memory
returns-clause-memory c = adds_are_summed

pub returns-clause-targets : goal.returns-clause-targets
returns-clause-targets c = adds_stand

pub returns-clause-example : goal.returns-clause-example
returns-clause-example c = two_are_added
