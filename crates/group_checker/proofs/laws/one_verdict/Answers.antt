use Rattle.group_checker.proofs.Uniqueness.{same_verdict}
use Rattle.group_checker.proofs.laws.one_verdict.Goals as goal

pub returns : goal.returns
returns c = same_verdict
