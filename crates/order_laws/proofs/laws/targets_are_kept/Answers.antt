use Rattle.order_laws.proofs.GatheredSlots.{slots_lead}
use Rattle.order_laws.proofs.TargetsStand.{targets_stand, next_targets_stand}
use Rattle.order_laws.proofs.laws.targets_are_kept.Goals as goal

pub returns-clause-slots : goal.returns-clause-slots
returns-clause-slots c = slots_lead

pub returns-clause-group : goal.returns-clause-group
returns-clause-group c = targets_stand

pub returns-clause-next : goal.returns-clause-next
returns-clause-next c = next_targets_stand
