use Rattle.std.proofs.Common.{◌∙◌, ◌++◌, List, take, ap, sym}
use Rattle.std.specs.Prelude.{map}
use Rattle.resource_sets.specs.declared.access.Resource.{Resource}
use Rattle.order_laws.specs.declared.violation.Violation.{Violation}
use Rattle.group_checker.specs.declared.report.TheConstants.{SHOWN_LIMIT}
use Rattle.group_checker.proofs.Reporting.{none_more, shown_again, map_more, shown_short}
use Rattle.group_checker.proofs.report.show_all.Goals as goal

pub loop-resource-init : goal.loop-resource-init
loop-resource-init c = record { shown = none_more SHOWN_LIMIT c.args.shown.now.items c.requires; short = c.requires }

pub loop-resource-preserved : goal.loop-resource-preserved
loop-resource-preserved c =
    let of : Resource → Violation = λ q. record { second = c.args.second; first = c.args.first; rule = c.args.rule; resource = q } in
    record {
      shown =
          shown_again SHOWN_LIMIT c.args.shown.now.items (map of (take c.loop-resource.resource-index c.args.resources.now)) _
          c.loop-resource.shown.items c.show.new.shown.items c.loop-resource.invariant.shown c.in_ok-show.ensures
          ∙ ap (λ (l : List Violation). take SHOWN_LIMIT (c.args.shown.now.items ++ l))
          (sym (map_more of c.args.resources.now c.loop-resource.resource-index _ c.loop-resource-test.true));
      short = shown_short SHOWN_LIMIT c.show.new.shown.items _ c.in_ok-show.ensures;
    }
