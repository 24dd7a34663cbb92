use Rattle.ia_meaning.proofs.laws.progress_is_run.Goals as goal
use Rattle.ia_meaning.proofs.WholeRuns.{progress_is_run}
use Rattle.ia_meaning.proofs.GroupEvents.{event_is_of_group}
use Rattle.ia_meaning.proofs.GroupRests.{rest_of_group}
use Rattle.ia_meaning.proofs.RunEvents.{events_are_of_run, frames_are_of_run}

pub returns-clause-run : goal.returns-clause-run
returns-clause-run c = progress_is_run

pub returns-clause-event : goal.returns-clause-event
returns-clause-event c = event_is_of_group

pub returns-clause-rest : goal.returns-clause-rest
returns-clause-rest c = rest_of_group

pub returns-clause-events : goal.returns-clause-events
returns-clause-events c = events_are_of_run

pub returns-clause-frames : goal.returns-clause-frames
returns-clause-frames c = frames_are_of_run
