use Rattle.std.proofs.Common.{arith}
use Rattle.ia_meaning.proofs.DataAccesses.{is_access}
use Rattle.nat_alat.proofs.memory.offset_of.Goals as goal

pub overflow_sub-result : goal.overflow_sub-result
overflow_sub-result c = let access = is_access c.args.bytes.now c.args.address c.args.size c.requires in omega (arith, access.above)

pub returns : goal.returns
returns c =
    let access = is_access c.args.bytes.now c.args.address c.args.size c.requires in
    record { there = omega (arith, access.above); within = omega (arith, access.above, access.within) }
