use Rattle.vectors.proofs.bundle_texts.push_line.Goals as goal

pub print_slot-requires-clause-listed : goal.print_slot-requires-clause-listed
print_slot-requires-clause-listed c = c.is_listed.ensures.0 c.if-is_listed.true
