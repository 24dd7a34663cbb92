-- The text has as many instructions as there are places.
use Rattle.std.proofs.Common.{◌≡◌, List, length}
use Rattle.loose_items.specs.declared.item.Item.{Item}
use Rattle.bundling.specs.Bundled.{places_of}
use Rattle.bundling.specs.Chunk.{Chunk}
use Rattle.bundling.specs.Chunks.{AreChunks}
use Rattle.bundling.proofs.Locating.{length-places}
use Rattle.stop_placer.proofs.BundleLaws.{layouts}

pub places_counted : (cs : List Chunk) (items : List Item) → AreChunks cs items → length (places_of cs) ≡ length items
places_counted cs items are = length-places layouts cs items 0 are
