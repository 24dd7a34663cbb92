use Rattle.ia64_top.proofs.Outputs.{if_ok}
use Rattle.ia64_top.proofs.Running.{run_of_trace}
use Rattle.ia64_top.proofs.runs.run_input.Goals as goal

pub returns : goal.returns
returns c = if_ok c.trace_input.result c.trace_input.ensures (λ x. run_of_trace c.args.groups c.args.input.now x.bytes.items x.status)
