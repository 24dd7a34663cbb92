use Rattle.std.proofs.Common.{rules, ◌≡◌, sym, subst}
use Rattle.ia_meaning.specs.Progress.{advanced}
use Rattle.ia_meaning.specs.Runs.{IsUnderWay}
use Rattle.emulator.specs.Progress.{progress_of}
use Rattle.ia_meaning.proofs.GroupEnds.{advances_under_way}
use Rattle.ia_meaning.proofs.WholeRuns.{advanced_is}
use Rattle.emulator.proofs.CodeSlots.{number_below}
use Rattle.emulator.proofs.run.Run.advance.Goals as goal

pub open_group-requires-clause-small : goal.open_group-requires-clause-small
open_group-requires-clause-small c = number_below c.args.code.now c.args.self.now.number c.requires.program c.requires.under_way.place

pub returns-clause-under_way : goal.returns-clause-under_way
returns-clause-under_way c =
    let p = c.args.code.now in
    let now = progress_of c.args.self.now in
    let e : progress_of c.run_slot.new.self ≡ advanced p now = search (rules, advanced_is) in
    subst (IsUnderWay p) (sym e) (advances_under_way p now c.requires.program c.requires.under_way)
