-- What is known of the bundles of a loose text's instructions, from what is known of layouts.
use Rattle.ia_meaning.proofs.Sequences.{stop_decides}
use Rattle.slot_layouts.proofs.Families.{place_is_fit}
use Rattle.slot_layouts.proofs.Fillings.{filled_is_bundle}
use Rattle.slot_layouts.proofs.FirstLayouts.{laid_out_is_layout}
use Rattle.slot_layouts.proofs.LaidOut.{holds_in_order, has_stops_as_wanted, first_in_slot_0, stop_right_before_m, last_b_last, next_right_behind_b}
use Rattle.bundling.specs.Bundled.{bundle_of}
use Rattle.bundling.specs.Laws.{BundledIsProgram, QuietIsShort, BundledIsSpread, BundledHasInstructions, BundledHasStops, BundledHasOneStop, BundledHasLastStop, BundledKeepsSlotRules}
use Rattle.bundling.proofs.Leading.{is_spread}
use Rattle.bundling.proofs.Locating.{AreLayouts}
use Rattle.bundling.proofs.Neighbours.{AreStopLaws}
use Rattle.bundling.proofs.Programs.{are_program}
use Rattle.bundling.proofs.Quiet.{runs_short}
use Rattle.bundling.proofs.SlotRules.{ArePlaceLaws, keeps_slot_rules}
use Rattle.bundling.proofs.Stopping.{has_stops, has_one_stop, has_last_stop}
use Rattle.bundling.proofs.Targeting.{has_instructions}

pub layouts : AreLayouts
layouts = record { is_layout = laid_out_is_layout; holds = holds_in_order }

stop_laws : AreStopLaws
stop_laws = record { layouts = layouts; stops = has_stops_as_wanted }

place_laws : ArePlaceLaws
place_laws =
    record { stops = stop_laws; first = first_in_slot_0; stop_before = stop_right_before_m; last = last_b_last; next = next_right_behind_b }

pub bundled_is_program : BundledIsProgram
bundled_is_program s cs loose are runs =
    are_program s cs (record { laws = layouts; places = place_is_fit; filled = filled_is_bundle; loose = loose; are = are }) runs

pub quiet_is_short : QuietIsShort
quiet_is_short s cs loose are quiet = runs_short layouts has_stops_as_wanted stop_decides s cs are quiet

pub bundled_is_spread : BundledIsSpread
bundled_is_spread = is_spread layouts

pub bundled_has_instructions : BundledHasInstructions
bundled_has_instructions s cs n loose are inside = has_instructions layouts s cs (bundle_of cs) n loose are.chunks inside

pub bundled_has_stops : BundledHasStops
bundled_has_stops = has_stops stop_laws

pub bundled_has_one_stop : BundledHasOneStop
bundled_has_one_stop = has_one_stop stop_laws

pub bundled_has_last_stop : BundledHasLastStop
bundled_has_last_stop = has_last_stop stop_laws

pub bundled_keeps_slot_rules : BundledKeepsSlotRules
bundled_keeps_slot_rules = keeps_slot_rules place_laws
