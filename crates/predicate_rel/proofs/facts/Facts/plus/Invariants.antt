use Rattle.std.proofs.Common.{◌≡◌, ℕ, ◌<◌, ◌||◌, length}
use Rattle.predicate_rel.specs.Pairs.{pairs_of, truth, is_same_pair, other_of}
use Rattle.predicate_rel.proofs.facts.Facts.plus.Given as goal

abbrev pub invariant-loop-row : goal.invariant-loop-row
invariant-loop-row l =
    record {
      sized : length l.rows ≡ 64;
      done : (k m : ℕ) → k < l.row → m < 64
          → truth l.rows k m ≡ (pairs_of l.self k m || is_same_pair l.fn.x (other_of l.fn.x l.fn.y) k (other_of k m));
    }
