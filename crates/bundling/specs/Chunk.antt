-- What a bundle is to hold.
use Rattle.std.specs.Prelude.{Bool, List}
use Rattle.slot_layouts.specs.declared.layout.Wanted.{Wanted}

-- The instructions of a bundle, and whether a stop is wanted after it.
pub record Chunk : Type 0 where
  pub wanted : List Wanted
  pub end : Bool
