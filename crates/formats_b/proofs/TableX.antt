-- The rows are a family's: a table, and each stands at the index of its opcode.
use Rattle.std.proofs.Common.{◌≡◌, refl, true, arith}
use Rattle.insn_rows.specs.declared.opcode.Opcode.{Opcode}
use Rattle.insn_rows.specs.Rows.{listed}
use Rattle.insn_rows.specs.WellMade.{is_well_made, is_table}
use Rattle.insn_rows.specs.Codes.{IsRowIndexOf}
use Rattle.insn_rows.specs.Families.{IsFamily}
use Rattle.insn_rows.proofs.RowIndexes.{stand_from, Stands, is_row_index}
use Rattle.formats_b.specs.ListedX.{rows}
use Rattle.formats_b.specs.RowIndexesX.{row_index_of}

pub are_table : is_table rows ≡ true
unfolding is_table is_well_made listed rows
are_table = refl

stand : stand_from row_index_of 0 rows ≡ true
unfolding rows
stand = refl

stands : (c : Opcode) → Stands rows (row_index_of c) c
unfolding rows
stands c = grind arith

pub is_row_index_of : (c : Opcode) → IsRowIndexOf rows (row_index_of c) c
is_row_index_of = is_row_index rows row_index_of stand stands

pub is_family : IsFamily rows row_index_of 0 41
unfolding rows listed
is_family = record { table = are_table; reach = refl; stay = refl; row_indexes = is_row_index_of }
