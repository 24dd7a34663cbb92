use Rattle.order_laws.proofs.Walked.{known_on_runs, steps_known, walks_group, run_is_traced, runs_keep_state, runs_are_known, solution_is_true}
use Rattle.order_laws.proofs.laws.runs_follow_walks.Goals as goal

pub returns-clause-known : goal.returns-clause-known
returns-clause-known c n p s program start = known_on_runs n p s program start

pub returns-clause-steps : goal.returns-clause-steps
returns-clause-steps c p s w program known goes = steps_known p s w program known goes

pub returns-clause-group : goal.returns-clause-group
returns-clause-group c p s w program known goes = walks_group p s w program known goes

pub returns-clause-run : goal.returns-clause-run
returns-clause-run c n p s = run_is_traced n p s

pub returns-clause-state : goal.returns-clause-state
returns-clause-state c n p s program start = runs_keep_state n p s program start

pub returns-clause-known_of_run : goal.returns-clause-known_of_run
returns-clause-known_of_run c n p s program start = runs_are_known n p s program start

pub returns-clause-table : goal.returns-clause-table
returns-clause-table c n p s table program start solution = solution_is_true n p s table program start solution
