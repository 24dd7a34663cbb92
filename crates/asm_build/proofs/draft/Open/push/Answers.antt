use Rattle.std.proofs.Common.{rules, ◌≢◌, sym}
use Rattle.asm_build.proofs.OpenBundles.{third_fits}
use Rattle.asm_build.proofs.draft.Open.push.Goals as goal

pub invariant_of-self-in_default : goal.invariant_of-self-in_default
invariant_of-self-in_default c =
    let o = c.self.inside in
    let room = rw (sym c.self.view_is) at c.requires.room in
    let fit = rw (sym c.self.view_is) at c.requires.fit in
    let unit = rw (sym c.self.view_is) at c.next_unit-unit.ensures in
    let some : o.count ≢ 0 = search rules in
    let more : o.count ≢ 1 = search rules in
    third_fits o.name o.count o.first o.second o.third _ some more c.self.invariant room (rw (c.put-in_default.ensures, unit) fit)
