-- The writes of a turn of a loop, one part after another.
use Rattle.std.proofs.Common.{ℕ, ◌≡◌, Bool, true, false, Option, [], arith}
use Rattle.ia_meaning.specs.declared.turn.Turn.{Turn}
use Rattle.ia_meaning.specs.State.{Registers}
use Rattle.ia_meaning.specs.declared.write.Write.TheVariants.{SetPredicate, SetLc, SetEc, SetFrame}
use Rattle.ia_meaning.specs.declared.write.FrameCause.TheVariants.{Renamed}
use Rattle.ia_meaning.specs.Writes.{apply, put}
use Rattle.ia_meaning.specs.Names.{predicate_index}
use Rattle.ia_meaning.specs.Frames.{rotated}
use Rattle.ia_meaning.specs.Loops.{written, turn_writes}

-- The registers with the new counts.
abbrev counted : Option ℕ → Option ℕ → Registers → Registers
counted lc ec r = apply (written SetEc ec []) (apply (written SetLc lc []) r)

-- The registers with the new counts and p63, which is written before a rotation.
abbrev unturned : Option ℕ → Option ℕ → Option Bool → Registers → Registers
unturned lc ec p63 r = apply (written (SetPredicate (predicate_index (counted lc ec r).frame 63)) p63 []) (counted lc ec r)

pub turned : (t : Turn) (r : Registers) → t.rotates ≡ true → put (SetFrame Renamed (rotated (unturned t.lc t.ec t.p63 r).frame))
    (unturned t.lc t.ec t.p63 r) ≡ apply (turn_writes t r.frame) r
turned t r e = grind arith

pub still : (t : Turn) (r : Registers) → t.rotates ≡ false → unturned t.lc t.ec t.p63 r ≡ apply (turn_writes t r.frame) r
still t r e = grind arith
