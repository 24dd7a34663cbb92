use Rattle.std.proofs.Common.{rules}
use Rattle.image_form.specs.Images.{BeginsAsImage}
use Rattle.ia64_top.proofs.Outputs.{if_ok, image_taken, text_taken}
use Rattle.ia64_top.proofs.answer.take.Goals as goal

pub returns-then-is_image : goal.returns-then-is_image
returns-then-is_image c =
    let begins : BeginsAsImage c.args.input.now = search rules in
    if_ok c.take_image.result c.take_image.ensures (image_taken c.args.input.now begins)

pub returns-else-is_image : goal.returns-else-is_image
returns-else-is_image c =
    let begins : BeginsAsImage c.args.input.now → ⊥ = search rules in
    if_ok c.take_text.result c.take_text.ensures (text_taken c.args.input.now begins)
