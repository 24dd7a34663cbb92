use Rattle.std.proofs.Common.{◌∙◌, refl, arith}
use Rattle.group_checker.specs.declared.report.TheConstants.{SHOWN_LIMIT}
use Rattle.group_checker.specs.Broken.{violations_by}
use Rattle.group_checker.proofs.Reporting.{shown_by, shown_over}
use Rattle.group_checker.proofs.report.show_set.Goals as goal

pub returns-in_ok-show_all : goal.returns-in_ok-show_all
returns-in_ok-show_all c =
    shown_by c.args.shown.now.items c.args.shown.now.items c.as_slice.result.now c.args.resources.now c.args.first c.args.second c.args.rule
    c.show_all.new.shown.items
    refl (c.as_slice.ensures.value ∙ c.resources-found.ensures) c.in_ok-show_all.ensures

pub returns-else-len-lt-SHOWN_LIMIT : goal.returns-else-len-lt-SHOWN_LIMIT
returns-else-len-lt-SHOWN_LIMIT c =
    shown_over SHOWN_LIMIT c.args.shown.now.items (violations_by c.args.first c.args.second c.args.rule c.args.resources.now) c.requires
    (omega (arith, c.len.ensures))
