use Rattle.std.proofs.Common.{sym}
use Rattle.group_checker.proofs.FirstFound.{first_violation_of}
use Rattle.group_checker.proofs.broken.Broken.first.Goals as goal

pub returns : goal.returns
returns c =
    rw (
      c.or-4.ensures,
      c.or-3.ensures,
      c.or-2.ensures,
      c.or.ensures,
      c.first_by.ensures,
      c.first_by-2.ensures,
      c.first_by-3.ensures,
      c.first_by-4.ensures,
      c.first_by-5.ensures,
    )
    (sym (first_violation_of c.args.first c.args.second c.args.self.now))
