use Rattle.std.proofs.Common.{◌≡◌, ◌+◌, ◌-◌, ◌*◌, ◌/◌, ◌%◌, get_or, set, ap, ◌∙◌, arith}
use Rattle.std.proofs.lemmas.List.{length-set}
use Rattle.ia_meaning.specs.declared.state.Cell.{Cell}
use Rattle.ia_meaning.specs.State.{zero_cell}
use Rattle.reg_stack.specs.Layout.{spilled_cell, held_cell, IsFreeFrom}
use Rattle.reg_stack.proofs.Places.{IsBitPut, IsPut, with_nats, in_run, place_in_turn, spilled_there, put_there}
use Rattle.reg_stack.proofs.Steps.{fill_free, fill_cell}
use Rattle.reg_stack.proofs.runs.fill_run.Goals as goal

pub loop-low-preserved : goal.loop-low-preserved
loop-low-preserved c =
    let ring = c.loop-low.ring in
    let region = c.loop-low.region in
    let last = c.args.to in
    let low = c.loop-low.low - 1 in
    let word = low + last / 63 in
    let place = low - 96 * (last / 96) in
    let cell : Cell = record { value = get_or region word 0; nat = c.nat_of.result } in
    let nats : IsBitPut c.loop-low.nats c.with_nat-nats.result (low - 63 * (last / 63)) zero_cell.nat =
    record { this = c.with_nat-nats.ensures.this; others = c.with_nat-nats.ensures.others } in
    let old = with_nats region last c.loop-low.nats in
    let new = with_nats (set region word 0) last c.with_nat-nats.result in
    let at = in_run last low (omega arith) in
    let put : IsPut old new low zero_cell = put_there region zero_cell c.loop-low.nats c.with_nat-nats.result at (omega arith) nats in
    let next : low + 1 ≡ c.loop-low.low = omega arith in
    let place_is : place ≡ low % 96 = place_in_turn low last (omega arith) in
    let seen : cell ≡ spilled_cell old low = rw c.nat_of.ensures (spilled_there region c.loop-low.nats at (omega arith)) in
    let filled : set ring place cell ≡ set ring (low % 96) (spilled_cell old low) =
    ap (λ p. set ring p cell) place_is ∙ ap (λ x. set ring (low % 96) x) seen in
    let free : IsFreeFrom old (low + 1) = rw next c.loop-low.invariant.free in
    record {
      order = omega arith;
      within = omega arith;
      size = length-set ring place cell ∙ c.loop-low.invariant.size;
      count = length-set region word 0 ∙ c.loop-low.invariant.count;
      cells = λ d h. ap (λ x. held_cell x new low d) filled
          ∙ fill_cell ring old new low d c.loop-low.invariant.size put (omega arith)
          ∙ ap (λ x. held_cell ring old x d) next
          ∙ c.loop-low.invariant.cells d h;
      free = fill_free old new low put free;
    }
