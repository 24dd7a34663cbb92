-- Each write in the new order was among those before.
use Rattle.std.proofs.Common.{◌∙◌, length, rules, subst, sym}
use Rattle.std.specs.List.{All}
use Rattle.std.proofs.lemmas.List.{with_items_is}
use Rattle.ia_meaning.specs.NumberedRuns.{order}
use Rattle.group_engine.specs.Kept.{IsMakeable}
use Rattle.group_engine.proofs.Arranging.{all_arranged}
use Rattle.group_engine.proofs.kept.KeptWrites.arrange.Goals as goal

pub invariant_of-self : goal.invariant_of-self
invariant_of-self c =
    let old = c.self.inside.writes in
    let kept =
    all_arranged IsMakeable (order c.args.number (length old.items)) old.items c.arrange.new.items
    (rw c.deref_mut.ensures.value at c.arrange.ensures) c.self.invariant.makeable in
    record {
      makeable = subst (All IsMakeable) (sym (with_items_is old c.arrange.new.items (c.arrange.auto.items ∙ c.deref_mut.ensures.len))) kept;
      room = search rules;
    }
