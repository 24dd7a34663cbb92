-- What is true of a table of slots.
use Rattle.std.specs.Prelude.{◌≡◌, ℕ, None, slice_index_or}
use Rattle.ia_program.specs.Places.{place_at}
use Rattle.ia_program.specs.Programs.{IsProgram}
use Rattle.slot_table.specs.declared.table.SlotTable.TheInside.{Inside}
use Rattle.slot_table.specs.Slots.{slot_at}

-- It is the table of a program: the entry of a place, by its number, is what the definitions say of the place.
pub record IsTable (table : Inside) : Type 0 where
  pub program : IsProgram table.program.now
  pub entries : (number : ℕ) → slice_index_or table.slots.items number None ≡ slot_at table.program.now.bundles (place_at number)
