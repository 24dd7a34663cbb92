use Rattle.std.proofs.Common.{◌≡◌, ◌+◌, ◌-◌, ◌≤◌, length}
use Rattle.ia_meaning.specs.Moves.{masked_writes, predicate_writes}
use Rattle.group_engine.specs.Kept.{keeping}
use Rattle.group_engine.proofs.kept.KeptWrites.keep_places.Given as goal

abbrev pub invariant-loop-n : goal.invariant-loop-n
invariant-loop-n l = record {
  value : keeping (masked_writes (64 - l.n) l.n l.mask l.word) l.self ≡ keeping (predicate_writes l.mask l.word) l.fn.self;
  few : length l.self.writes + 1 ≤ length l.fn.self.writes + l.n;
}
