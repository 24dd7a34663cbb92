use Rattle.std.proofs.Common.{◌≡◌, List, ◌∙◌, sym, subst, refl}
use Rattle.predicate_rel.specs.Pairs.{pairs_of}
use Rattle.group_checker.specs.declared.window.EarlierSlot.{EarlierSlot}
use Rattle.group_checker.specs.Windows.{IsWindow, IsGuardMask}
use Rattle.group_checker.proofs.Slots.{slot_place, slot_clears, slot_joins, slot_parts}
use Rattle.group_checker.proofs.Windowing.{next_window, parted_window, unreached_window, advanced_with, is_slot_of, guard_mask}
use Rattle.group_checker.proofs.window.Window.move_on.Goals as goal

pub returns : goal.returns
returns c g has_stop next known u follows =
    let j = c.args.place in
    let s = c.args.slot.now in
    let f = pairs_of c.in-Some.here.now in
    let old = c.self.inside.slots.items in
    let was : old ≡ c.args.self.now = c.self.view_is in
    let mask = c.written_predicates-written.result in
    let all = advanced_with g j mask old _ _ (rw c.in_ok-push.ensures.items at (c.advance.ensures g has_stop j u.slot)) in
    rw all.is (next_window g has_stop j next f mask old all.others all.last
    (slot_joins g has_stop j s u.slot next (sym c.goes_on_in_group.ensures ∙ c.if-not-goes_on_in_group.false) follows)
    (rw c.in-Some.is at known)
    (subst (λ (es : List EarlierSlot). IsWindow g has_stop es j) (sym was) u.window)
    all.advanced
    (is_slot_of g j mask _ _ all.on refl (c.clears.ensures ∙ sym (slot_clears g has_stop j s u.slot)) u.accesses refl)
    (subst (IsGuardMask mask) u.accesses (guard_mask mask c.args.masks c.written_predicates-written.ensures)))

pub returns-in_default : goal.returns-in_default
returns-in_default c g has_stop next known u follows =
    rw c.clear.ensures.items (unreached_window g has_stop c.args.place next (slot_place g has_stop c.args.place c.args.slot.now u.slot)
    follows
    (rw c.in_default.is at known))

pub returns-then-not-goes_on_in_group : goal.returns-then-not-goes_on_in_group
returns-then-not-goes_on_in_group c g has_stop next known u follows =
    rw c.clear-then-not-goes_on_in_group.ensures.items (parted_window g has_stop c.args.place next
    (slot_place g has_stop c.args.place c.args.slot.now u.slot) follows
    (slot_parts g has_stop c.args.place c.args.slot.now u.slot next (sym c.goes_on_in_group.ensures ∙ c.if-not-goes_on_in_group.true)))
