use Rattle.std.proofs.Common.{◌≤◌, length, take, drop, sym, ap, ◌∙◌, arith}
use Rattle.io_seam.proofs.Copied.{copied-rest, to_end}
use Rattle.io_seam.proofs.memory.MemSourceSource.take.Goals as goal

pub returns-clause-taken : goal.returns-clause-taken
returns-clause-taken c =
    let bytes = c.self.inside.bytes.items in
    let at = c.self.inside.position in
    let n = c.min-count.result in
    let left = to_end bytes c.deref.result.now at c.deref.ensures.value in
    let within : n ≤ length (drop at bytes) = omega (arith, ap length left) in
    ap (λ s. s.left) (sym c.self.view_is) ∙ copied-rest bytes c.args.piece.now c.copy_from_slice.new.self at n within
    (c.copy_from_slice.ensures.after ∙ ap (take n) left)
