use Rattle.asm_reading.proofs.FaultOrder.{in_order, passed_in_order}
use Rattle.asm_reading.proofs.laws.faults_in_order.Goals as goal

pub returns-clause-fault : goal.returns-clause-fault
returns-clause-fault c = in_order

pub returns-clause-value : goal.returns-clause-value
returns-clause-value c = passed_in_order
