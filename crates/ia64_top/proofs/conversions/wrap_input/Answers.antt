use Rattle.image_form.specs.Images.{Written}
use Rattle.ia64_top.specs.Readings.{as_bundles}
use Rattle.ia64_top.proofs.Outputs.{if_ok, is_refusal}
use Rattle.ia64_top.proofs.conversions.wrap_input.Goals as goal

pub returns-in-Err : goal.returns-in-Err
returns-in-Err c =
    if_ok c.refuse.result c.refuse.ensures (λ x a. is_refusal as_bundles Written c.args.input.now x.bytes.items x.status
    (c.in-Err.fault, c.in-Err.ensures.fault a.0, a.1) a.2)
