-- How many of the latest bundles want no stop.
use Rattle.std.specs.Prelude.{ℕ, ◌+◌, if◌then◌else◌, List, [], ◌∷◌}
use Rattle.bundling.specs.Chunk.{Chunk}
use Rattle.bundling.specs.Chunks.{is_quiet}

-- How many there are, from the latest on, before one that wants a stop.
abbrev pub quiet_count : List Chunk → ℕ
quiet_count [] = 0
quiet_count (c ∷ cs) = if is_quiet c then quiet_count cs + 1 else 0
