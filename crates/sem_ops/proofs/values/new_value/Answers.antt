use Rattle.std.proofs.Common.{subst}
use Rattle.sem_ops.proofs.Sizes.{HasSize, has_size}
use Rattle.sem_ops.proofs.values.new_value.Goals as goal

pub exchanged-requires : goal.exchanged-requires
exchanged-requires c = subst HasSize c.in-Xchg.is (has_size c.args.insn.now c.requires.listed)

pub exchanged-requires-in-FetchAdd : goal.exchanged-requires-in-FetchAdd
exchanged-requires-in-FetchAdd c = subst HasSize c.in-FetchAdd.is (has_size c.args.insn.now c.requires.listed)
