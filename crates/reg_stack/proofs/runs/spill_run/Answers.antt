use Rattle.std.proofs.Common.{◌≡◌, ◌+◌, ◌-◌, ◌*◌, ◌/◌, get_or, set, ap, subst, ◌∙◌, arith}
use Rattle.std.proofs.lemmas.List.{length-set}
use Rattle.ia_meaning.specs.State.{zero_cell}
use Rattle.reg_stack.specs.Layout.{resident_cell}
use Rattle.reg_stack.proofs.Places.{IsBitPut, IsPut, with_nats, in_run, place_in_turn, put_there}
use Rattle.reg_stack.proofs.Steps.{spill_free, spill_cell}
use Rattle.reg_stack.proofs.runs.spill_run.Goals as goal

pub loop-c-preserved : goal.loop-c-preserved
unfolding resident_cell
loop-c-preserved c =
    let ring = c.args.ring.now in
    let first = c.args.from in
    let at = c.loop-c.c in
    let word = at + first / 63 in
    let place = at - 96 * (first / 96) in
    let cell = get_or ring place zero_cell in
    let nats : IsBitPut c.loop-c.nats c.with_nat-nats.result (at - 63 * (first / 63)) cell.nat =
    record { this = c.with_nat-nats.ensures.this; others = c.with_nat-nats.ensures.others } in
    let old = with_nats c.loop-c.region first c.loop-c.nats in
    let new = with_nats (set c.loop-c.region word cell.value) first c.with_nat-nats.result in
    let written : IsPut old new at cell =
    put_there c.loop-c.region cell c.loop-c.nats c.with_nat-nats.result (in_run first at (omega arith)) (omega arith) nats in
    let seen : cell ≡ resident_cell ring at = ap (λ p. get_or ring p zero_cell) (place_in_turn at first (omega arith)) in
    let put : IsPut old new at (resident_cell ring at) = subst (λ x. IsPut old new at x) seen written in
    record {
      count = length-set c.loop-c.region word cell.value ∙ c.loop-c.invariant.count;
      cells = λ d. spill_cell ring old new at put d ∙ c.loop-c.invariant.cells d;
      free = spill_free old new at (resident_cell ring at) put c.loop-c.invariant.free;
    }
