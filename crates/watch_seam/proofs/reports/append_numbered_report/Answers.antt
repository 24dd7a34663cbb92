use Rattle.std.proofs.Common.{rules}
use Rattle.std.specs.Prelude.{codes, decimal, ◌++◌}
use Rattle.std.proofs.lemmas.Result.{on_ok_weaker}
use Rattle.watch_seam.specs.Watchers.{line}
use Rattle.watch_seam.proofs.Showing.{appended}
use Rattle.watch_seam.proofs.reports.append_numbered_report.Goals as goal

pub returns : goal.returns
returns g c =
    on_ok_weaker c.append_report.result (λ e. appended c.args.out.now.items (line (codes "watch " ++ decimal c.args.number)) _
    c.extend_from_slice.new.self.items _ (search rules) e) c.append_report.ensures
