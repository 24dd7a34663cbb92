use Rattle.std.proofs.Common.{◌≡◌, sym, ◌∙◌}
use Rattle.ia_meaning.specs.Loads.{invalidated}
use Rattle.nat_alat.proofs.Entries.{entered_when_full, entered_with_room}
use Rattle.nat_alat.proofs.alat.Alat.enter.Goals as goal
use Rattle.nat_alat.proofs.alat.Alat.enter.Goals.{then-is_full, else-is_full}

pub returns : goal.returns
returns c =
    let left = c.self.inside.entries.items in
    let gone : left ≡ invalidated c.args.self.now c.args.entry.key = c.self.view_is ∙ c.invalidate.ensures in
    elim c.if-is_full.branch [
      | then-is_full w ↦
          rw (c.push.ensures.items, w.self-inside-is, w.remove.ensures.items)
          (entered_when_full left c.args.self.now c.args.entry gone (sym c.is_full.ensures.value ∙ w.if-is_full.true))
      | else-is_full w ↦
          rw (c.push.ensures.items, w.self-inside-is)
          (entered_with_room left c.args.self.now c.args.entry gone c.is_full.ensures.fits
          (sym c.is_full.ensures.value ∙ w.if-is_full.false))
    ]
