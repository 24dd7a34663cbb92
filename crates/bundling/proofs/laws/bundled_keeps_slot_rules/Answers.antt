use Rattle.bundling.proofs.SlotRules.{ArePlaceLaws, keeps_slot_rules}
use Rattle.bundling.proofs.laws.bundled_keeps_slot_rules.Goals as goal

place_laws : goal.After-laid_out_places → ArePlaceLaws
place_laws c = record {
  stops = record {
    layouts = record { is_layout = c.laid_out_is_layout.ensures; holds = c.laid_out_bundles.ensures.holds };
    stops = c.laid_out_bundles.ensures.stops;
  };
  first = c.laid_out_places.ensures.first;
  stop_before = c.laid_out_places.ensures.stop_before;
  last = c.laid_out_places.ensures.last;
  next = c.laid_out_places.ensures.next;
}

pub returns : goal.returns
returns c = keeps_slot_rules (place_laws c)
