use Rattle.std.proofs.Common.{rules, map, zip, sym, ◌∙◌, length-set}
use Rattle.watch_seam.proofs.Showing.{at_first, as_many_at, if_err, one_fewer, has_room, after_stay, after_full, given_up_before, given_up_after, at_end}
use Rattle.watch_seam.proofs.Groups.{still_room}
use Rattle.watch_seam.proofs.reports.Reports.show.Goals as goal

pub loop-at-init : goal.loop-at-init
loop-at-init g c = at_first _ _ _ _ _ c.requires.as_many c.requires.room

pub see-requires : goal.see-requires
see-requires g c = has_room _ _ _ _ _ _ _ _ _ _ c.loop-at.invariant (search rules) c.index_mut.ensures.value

pub returns-in_err-see-clause-cut_short : goal.returns-in_err-see-clause-cut_short
returns-in_err-see-clause-cut_short g c =
    if_err c.from_residual.result (given_up_before _ _ _ _ _ _ _ _ _ _ _ c.loop-at.invariant (search rules) c.index_mut.ensures.value
    c.in_err-see.ensures.err)

pub loop-at-smaller-in-Stay : goal.loop-at-smaller-in-Stay
loop-at-smaller-in-Stay g c = search rules

pub loop-at-preserved-in-Stay : goal.loop-at-preserved-in-Stay
loop-at-preserved-in-Stay g c =
    after_stay _ _ _ _ _ _ _ _ _ _ _ c.loop-at.invariant (search rules) c.index_mut.ensures.value c.in_ok-see.ensures.seen (search rules)

pub retire-requires-clause-as_many : goal.retire-requires-clause-as_many
retire-requires-clause-as_many g c = as_many_at _ _ _ _ _ _ _ _ _ c.loop-at.invariant ∙ sym (length-set _ _ _)

pub loop-at-smaller : goal.loop-at-smaller
loop-at-smaller g c = one_fewer _ _ _ _ (search rules) c.in_ok-retire-in-Full.ensures.watchers

pub loop-at-preserved : goal.loop-at-preserved
loop-at-preserved g c =
    after_full _ _ _ _ _ _ _ _ _ _ _ _ _ _ _ c.loop-at.invariant (search rules) c.index_mut.ensures.value c.in_ok-see.ensures.seen
    (search rules) c.in_ok-retire-in-Full.ensures.text c.in_ok-retire-in-Full.ensures.numbers c.in_ok-retire-in-Full.ensures.watchers

pub returns-in_err-retire-in-Full-clause-cut_short :
    goal.returns-in_err-retire-in-Full-clause-cut_short
returns-in_err-retire-in-Full-clause-cut_short g c =
    if_err c.from_residual-in_err-retire-in-Full.result
    (given_up_after _ _ _ _ _ _ _ _ _ _ _ _ c.loop-at.invariant (search rules) c.index_mut.ensures.value c.in_ok-see.ensures.seen
    c.in_err-retire-in-Full.ensures.err)

pub returns-clause-as_many : goal.returns-clause-as_many
returns-clause-as_many g c = as_many_at _ _ _ _ _ _ _ _ _ c.loop-at.invariant

pub returns-clause-text : goal.returns-clause-text
returns-clause-text g c = (at_end _ _ _ _ _ _ _ _ _ c.loop-at.invariant (search rules)).0

pub returns-clause-left : goal.returns-clause-left
returns-clause-left g c = (at_end _ _ _ _ _ _ _ _ _ c.loop-at.invariant (search rules)).1

pub returns-clause-still_room : goal.returns-clause-still_room
returns-clause-still_room g c =
    let ws = zip c.args.self.now.numbers (map (λ b. (goal.Watch-dyn g (b.vtable, b.value)).state b.value) c.args.watchers.now.items) in
    still_room _ c.args.event.now ws _ _ (as_many_at _ _ _ _ _ _ _ _ _ c.loop-at.invariant)
    (at_end _ _ _ _ _ _ _ _ _ c.loop-at.invariant (search rules)).1
