-- What contracts see of a packed text.
use Rattle.std.specs.Prelude.{List}
use Rattle.ia_program.specs.declared.place.Place.{Place}
use Rattle.ia_program.specs.Programs.{Program}
use Rattle.stop_placer.specs.declared.packed.StopWhy.{StopWhy}

-- The program, the place of each instruction of the text, and the program's stops with their reasons, in order.
pub record Packed : Type 0 where
  pub program : Program
  pub places : List Place
  pub stops : List StopWhy
