use Rattle.stop_placer.proofs.PlacedAnswers.{answers_placed, answers_placing_fault}
use Rattle.stop_placer.proofs.placing.place_stops.Goals as goal

pub returns-clause-only : goal.returns-clause-only
returns-clause-only c =
    answers_placed c.one_placed.ensures c.no_fault_where_placed.ensures c.args.text.now c.place.result c.place.ensures.found
    c.place.ensures.fault

pub returns-clause-only_fault : goal.returns-clause-only_fault
returns-clause-only_fault c =
    answers_placing_fault c.one_placing_fault.ensures c.no_fault_where_placed.ensures c.args.text.now c.place.result c.place.ensures.found
    c.place.ensures.fault
