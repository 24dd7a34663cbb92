use Rattle.std.proofs.Common.{arith}
use Rattle.group_checker.specs.declared.report.TheConstants.{SHOWN_LIMIT}
use Rattle.group_checker.proofs.Reporting.{shown_more, shown_full}
use Rattle.group_checker.proofs.report.show.Goals as goal

pub returns-in_ok-push : goal.returns-in_ok-push
returns-in_ok-push c =
    shown_more SHOWN_LIMIT c.args.shown.now.items c.push.new.self.items c.args.violation (omega (arith, c.len.ensures))
    c.in_ok-push.ensures.items

pub returns-else-len-lt-SHOWN_LIMIT : goal.returns-else-len-lt-SHOWN_LIMIT
returns-else-len-lt-SHOWN_LIMIT c = shown_full SHOWN_LIMIT c.args.shown.now.items c.args.violation c.requires (omega (arith, c.len.ensures))
