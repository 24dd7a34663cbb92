use Rattle.predicate_rel.proofs.StepEdges.{goes_along}
use Rattle.predicate_rel.proofs.StepTruth.{keeps_apart}
use Rattle.predicate_rel.proofs.laws.facts_stay_true.Goals as goal

pub returns-clause-along : goal.returns-clause-along
returns-clause-along c p s program is goes = goes_along c.steps_keep_states.ensures p s program is goes

pub returns-clause-facts : goal.returns-clause-facts
returns-clause-facts c p s f program is goes edge a = keeps_apart p s f program is goes edge a
