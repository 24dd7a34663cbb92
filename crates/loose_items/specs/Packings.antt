-- Which bundle each instruction of a loose text is in, where they are packed in order.
use Rattle.std.specs.Prelude.{Bool, false, not, ◌&&◌, if◌then◌else◌, List, [], ◌∷◌, ◌++◌, is_some}
use Rattle.ia_meaning.specs.Landings.{is_call}
use Rattle.slot_layouts.specs.declared.layout.Wanted.{Wanted}
use Rattle.slot_layouts.specs.Classes.{class_of}
use Rattle.slot_layouts.specs.Layouts.{laid_out}
use Rattle.loose_items.specs.declared.item.Item.{Item}

-- What an item wants of the layout of its bundle, where a stop is wanted between it and the one before it or not.
abbrev pub wanted_as : Item → Bool → Wanted
wanted_as item gap = record { class = class_of item.insn.op; gap = gap }

-- An item joins the bundle that holds these, the last of them the item before it: no label of text and no relation
-- stands between the two, the one before isn't a call, and they have a layout together.
abbrev pub joins : List Wanted → Item → Item → Bool → Bool
joins current before item gap =
    not item.breaks && (not (is_call before.insn.op) && is_some (laid_out (current ++ wanted_as item gap ∷ []) false))

-- The plain packing, as if no stop were wanted: what each bundle holds, from the one on that holds these so far, the
-- last of them the item before.
abbrev pub plain_on : List Wanted → Item → List Item → List (List Wanted)
plain_on current before [] = current ∷ []
plain_on current before (item ∷ items) =
    if joins current before item false then plain_on (current ++ wanted_as item false ∷ []) item items
    else current ∷ plain_on (wanted_as item false ∷ []) item items

abbrev pub plain_of : List Item → List (List Wanted)
plain_of [] = []
plain_of (item ∷ items) = plain_on (wanted_as item false ∷ []) item items
