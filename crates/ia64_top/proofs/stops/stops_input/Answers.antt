use Rattle.std.proofs.Common.{rules, refl}
use Rattle.ia_program.specs.Programs.{IsProgram}
use Rattle.ia64_top.specs.Readings.{as_loose}
use Rattle.ia64_top.specs.Stops.{IsPackedText}
use Rattle.ia64_top.proofs.Outputs.{if_ok, is_refusal}
use Rattle.ia64_top.proofs.stops.stops_input.Goals as goal

pub returns-in-Err : goal.returns-in-Err
returns-in-Err c =
    if_ok c.refuse_text.result c.refuse_text.ensures (λ x a. is_refusal as_loose (IsPackedText c.args.input.now) c.args.input.now
    x.bytes.items x.status (c.in-Err.error, c.in-Err.ensures.fault a.0, a.1) a.2)

pub returns-in_ok-packed_text-in-Ok : goal.returns-in_ok-packed_text-in-Ok
returns-in_ok-packed_text-in-Ok c =
    let k = c.in-Ok.packed in
    let placed = c.in-Ok.ensures.found in
    let valid : IsProgram k.program = search rules in (
      k.program,
      (k, placed, refl),
      record {
        packed = k;
        placed = placed;
        is = refl;
        valid = valid;
        free = c.in-Ok.ensures.accepted;
        keeps = c.in-Ok.ensures.keeps;
        printed = c.in_ok-packed_text-in-Ok.ensures;
      },
    )
