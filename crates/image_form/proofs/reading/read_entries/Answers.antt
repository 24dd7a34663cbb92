use Rattle.std.proofs.Common.{◌∙◌, ◌/◌, length, ap, arith}
use Rattle.image_form.proofs.NumberBytes.{length-numbers}
use Rattle.image_form.proofs.reading.read_entries.Goals as goal

pub misplaced_entry-requires : goal.misplaced_entry-requires
misplaced_entry-requires c =
    let count =
    ap length (c.deref.ensures.value ∙ c.in_ok-entries.ensures) ∙ length-numbers (length c.args.bytes.now / 4) c.args.bytes.now in
    omega (arith, count, c.requires)
