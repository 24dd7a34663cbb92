use Rattle.order_laws.proofs.Falling.{falls_up, group_before}
use Rattle.group_checker.proofs.Slots.{slot_describes}
use Rattle.group_checker.proofs.Stops.{groups_agree, violations_agree, windows_agree}
use Rattle.group_checker.proofs.Windowing.{first_window, parted_window}
use Rattle.group_checker.proofs.laws.windows_begin_behind_stops.Goals as goal

pub returns-clause-first : goal.returns-clause-first
returns-clause-first c = first_window

pub returns-clause-parted : goal.returns-clause-parted
returns-clause-parted c g has_stop j next is stopped follows = parted_window g has_stop j next is follows (λ edge. stopped)

pub returns-clause-slots : goal.returns-clause-slots
returns-clause-slots c = slot_describes

pub returns-clause-falls : goal.returns-clause-falls
returns-clause-falls c = falls_up

pub returns-clause-rises : goal.returns-clause-rises
returns-clause-rises c = group_before

pub returns-clause-groups : goal.returns-clause-groups
returns-clause-groups c = groups_agree

pub returns-clause-violations : goal.returns-clause-violations
returns-clause-violations c = violations_agree

pub returns-clause-windows : goal.returns-clause-windows
returns-clause-windows c = windows_agree
