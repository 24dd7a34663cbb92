use Rattle.group_checker.specs.declared.report.TheConstants.{SHOWN_LIMIT}
use Rattle.group_checker.specs.Broken.{violations_of}
use Rattle.group_checker.specs.Progress.{pair_bound}
use Rattle.group_checker.proofs.Reporting.{AreAdded, all_added, shown_short}
use Rattle.group_checker.proofs.report.Report.add_all.Goals as goal

pub add_by-requires-2-clause-shown : goal.add_by-requires-2-clause-shown
add_by-requires-2-clause-shown c = shown_short SHOWN_LIMIT _ _ c.in_ok-add_by.ensures.shown

pub add_by-requires-3-clause-shown : goal.add_by-requires-3-clause-shown
add_by-requires-3-clause-shown c = shown_short SHOWN_LIMIT _ _ c.in_ok-add_by-2.ensures.shown

pub add_by-requires-4-clause-shown : goal.add_by-requires-4-clause-shown
add_by-requires-4-clause-shown c = shown_short SHOWN_LIMIT _ _ c.in_ok-add_by-3.ensures.shown

pub add_by-requires-5-clause-shown : goal.add_by-requires-5-clause-shown
add_by-requires-5-clause-shown c = shown_short SHOWN_LIMIT _ _ c.in_ok-add_by-4.ensures.shown

-- What is reported of all five rules.
all : (c : goal.In_ok-add_by-5) → AreAdded c.args.self.now c.add_by-5.new.self (violations_of c.args.first c.args.second c.args.broken.now)
    pair_bound
all c =
    all_added c.args.first c.args.second c.args.broken.now c.args.self.now c.add_by.new.self c.add_by-2.new.self c.add_by-3.new.self
    c.add_by-4.new.self c.add_by-5.new.self
    (record { few = c.in_ok-add_by.ensures.few; total = c.in_ok-add_by.ensures.total; shown = c.in_ok-add_by.ensures.shown })
    (record { few = c.in_ok-add_by-2.ensures.few; total = c.in_ok-add_by-2.ensures.total; shown = c.in_ok-add_by-2.ensures.shown })
    (record { few = c.in_ok-add_by-3.ensures.few; total = c.in_ok-add_by-3.ensures.total; shown = c.in_ok-add_by-3.ensures.shown })
    (record { few = c.in_ok-add_by-4.ensures.few; total = c.in_ok-add_by-4.ensures.total; shown = c.in_ok-add_by-4.ensures.shown })
    (record { few = c.in_ok-add_by-5.ensures.few; total = c.in_ok-add_by-5.ensures.total; shown = c.in_ok-add_by-5.ensures.shown })

pub returns-clause-few : goal.returns-clause-few
returns-clause-few c = (all c).few

pub returns-clause-total : goal.returns-clause-total
returns-clause-total c = (all c).total

pub returns-clause-shown : goal.returns-clause-shown
returns-clause-shown c = (all c).shown
