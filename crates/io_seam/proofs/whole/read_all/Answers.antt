use Rattle.std.proofs.Common.{◌+◌, ◌≡◌, ◌≤◌, length, length-take, le_refl, refl, arith}
use Rattle.io_seam.proofs.Pieces.{LosesFirst-next, at_most, exactly_where}
use Rattle.io_seam.proofs.whole.read_all.Goals as goal

-- What came before and the piece that came now are one byte more than the limit.
pub returns-then-count-room-clause-too_long : goal.returns-then-count-room-clause-too_long
returns-then-count-room-clause-too_long g c =
    let old = g.S.Source.left c.args.source.now in
    let mid = g.S.Source.left c.loop-count.source in
    let new = g.S.Source.left c.take.new.self in
    let front = c.loop-count.bytes.items in
    let came = c.in-Ok.ensures in
    let all : length front + c.in-Ok.count ≡ c.args.limit + 1 =
    omega (arith, came.within, length-take (c.min-wanted.result + 1) c.loop-count.piece) in
    exactly_where old _ _ refl
    (LosesFirst-next old mid new front c.take.new.piece c.in-Ok.count (c.args.limit + 1) came.within all c.loop-count.invariant.so_far
    came.taken)

pub returns-then-count-room-clause-taken : goal.returns-then-count-room-clause-taken
returns-then-count-room-clause-taken g c =
    let old = g.S.Source.left c.args.source.now in
    let mid = g.S.Source.left c.loop-count.source in
    let new = g.S.Source.left c.take.new.self in
    let front = c.loop-count.bytes.items in
    let came = c.in-Ok.ensures in
    let all : length front + c.in-Ok.count ≡ c.args.limit + 1 =
    omega (arith, came.within, length-take (c.min-wanted.result + 1) c.loop-count.piece) in
    at_most old new (c.args.limit + 1) (c.args.limit + 1) (le_refl _)
    (LosesFirst-next old mid new front c.take.new.piece c.in-Ok.count (c.args.limit + 1) came.within all c.loop-count.invariant.so_far
    came.taken)

-- What came is within the limit, and there was no memory for it.
pub returns-in_err-map_err-clause-taken : goal.returns-in_err-map_err-clause-taken
returns-in_err-map_err-clause-taken g c =
    let old = g.S.Source.left c.args.source.now in
    let mid = g.S.Source.left c.loop-count.source in
    let new = g.S.Source.left c.take.new.self in
    let front = c.loop-count.bytes.items in
    let came = c.in-Ok.ensures in
    let count = length front + c.in-Ok.count in
    let within : count ≤ c.args.limit + 1 = omega arith in
    at_most old new count (c.args.limit + 1) within
    (LosesFirst-next old mid new front c.take.new.piece c.in-Ok.count count came.within refl c.loop-count.invariant.so_far came.taken)
