use Rattle.std.proofs.Common.{◌≡◌, ◌-◌, ◌*◌, ◌/◌, ◌%◌, set, ap, ◌∙◌, inl, inr, ⊎_elim, arith}
use Rattle.std.proofs.lemmas.List.{length-set}
use Rattle.std.proofs.lemmas.Bool.{cases_eq}
use Rattle.ia_meaning.specs.State.{zero_cell}
use Rattle.reg_stack.specs.Layout.{resident_cell}
use Rattle.reg_stack.proofs.Places.{place_in_turn}
use Rattle.reg_stack.proofs.Steps.{pad_kept, pad_zero}
use Rattle.reg_stack.proofs.runs.pad_run.Goals as goal

pub loop-c-preserved : goal.loop-c-preserved
loop-c-preserved c =
    let ring = c.loop-c.ring in
    let at = c.loop-c.c in
    let place = at - 96 * (c.args.from / 96) in
    let old = c.loop-c.invariant in
    let padded : set ring place c.zero_cell.result ≡ set ring (at % 96) zero_cell =
    ap (λ p. set ring p c.zero_cell.result) (place_in_turn at c.args.from (omega arith))
    ∙ ap (λ x. set ring (at % 96) x) c.zero_cell.ensures in
    record {
      size = length-set ring place c.zero_cell.result ∙ old.size;
      kept = λ d h k. ap (λ x. resident_cell x d) padded ∙ pad_kept ring at d (omega arith) (omega arith) ∙ old.kept d h k;
      zero = λ d h k. ap (λ x. resident_cell x d) padded ∙ pad_zero ring at d old.size (⊎_elim
          (λ (e : d ≡ at). inl e)
          (λ (e : d ≡ at → ⊥). inr (old.zero d h (omega arith)))
          (cases_eq d at));
    }
