use Rattle.std.proofs.Common.{◌≡◌, ◌/◌, length, vec_capacity}
use Rattle.image_form.proofs.Spelled.{IsReadTo}
use Rattle.image_form.proofs.bundles.read_bundles.Given as goal

abbrev pub invariant-loop-chunk : goal.invariant-loop-chunk
invariant-loop-chunk l = IsReadTo l.bytes l.bundles.items l.rest × (vec_capacity l.bundles ≡ length l.bytes / 16)

abbrev pub decreases-loop-chunk : goal.decreases-loop-chunk
decreases-loop-chunk l = length l.rest
