use Rattle.std.proofs.Common.{◌≡◌, true, false, Some, refl, sym, ap, ◌∙◌}
use Rattle.std.proofs.lemmas.Bool.{true≢false}
use Rattle.ia_meaning.specs.Sequence.{is_stopped}
use Rattle.slot_table.proofs.SlotLaws.{not_place}
use Rattle.group_checker.proofs.Slots.{slot_describes}
use Rattle.stop_placer.specs.declared.packing.Cause.{Cause}
use Rattle.stop_placer.proofs.reasons.name_at.Goals as goal

pub unreachable-requires : goal.unreachable-requires
unreachable-requires c = not_place c.args.table.now.bundles c.args.place (sym c.in_default.ensures) c.requires.due.is

pub returns-then-not-slot : goal.returns-then-not-slot
returns-then-not-slot c =
    let slot = slot_describes c.args.table.now c.args.place c.in-Some.slot.now (sym c.in-Some.ensures) in
    let none : is_stopped c.args.table.now.bundles c.args.place ≡ false = sym slot.stop ∙ c.if-not-slot.true in
    record { unstopped = λ e. refl; stopped = λ e. absurd (true≢false (sym e ∙ none)) }

pub unreachable-requires-in_default-gap : goal.unreachable-requires-in_default-gap
unreachable-requires-in_default-gap c =
    let slot = slot_describes c.args.table.now c.args.place c.in-Some.slot.now (sym c.in-Some.ensures) in
    let due = c.requires.due.some (sym slot.stop ∙ c.if-not-slot.false) in
    c.in_default-gap.not-Some due.0 due.1

pub why-requires-clause-cut : goal.why-requires-clause-cut
why-requires-clause-cut c = λ pair.
    let slot = slot_describes c.args.table.now c.args.place c.in-Some.slot.now (sym c.in-Some.ensures) in
    c.requires.due.cut (sym slot.stop ∙ c.if-not-slot.false) (c.in-Some-gap.is ∙ ap (λ (x : Cause). Some x) pair)

pub returns : goal.returns
returns c =
    let slot = slot_describes c.args.table.now c.args.place c.in-Some.slot.now (sym c.in-Some.ensures) in
    let here : is_stopped c.args.table.now.bundles c.args.place ≡ true = sym slot.stop ∙ c.if-not-slot.false in
    record {
      unstopped = λ e. absurd (true≢false (sym here ∙ e));
      stopped =
          λ e. (
            record { after = c.args.place; why = c.in_ok-why.why },
            record { after = refl; cause = c.in-Some-gap.cause; is = c.in-Some-gap.is; reason = c.in_ok-why.ensures },
            c.in_ok-push.ensures.items,
          );
    }
