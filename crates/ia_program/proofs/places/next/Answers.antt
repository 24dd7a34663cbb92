use Rattle.std.proofs.Common.{rules, ◌≡◌, ◌≤◌, ◌<◌, ◌+◌, length}
use Rattle.std.specs.Prelude.{slice_get, Some, None}
use Rattle.ia_program.specs.Bundles.{last_slot}
use Rattle.ia_program.proofs.InOrder.{next_slot, next_bundle, no_next, none_beyond}
use Rattle.ia_program.proofs.places.next.Goals as goal

pub returns-in_default : goal.returns-in_default
returns-in_default c =
    let none : slice_get c.args.bundles.now c.args.place.bundle ≡ None = search rules in
    none_beyond c.args.bundles.now c.args.place none

pub returns-then-place-last : goal.returns-then-place-last
returns-then-place-last c =
    let is : slice_get c.args.bundles.now c.args.place.bundle ≡ Some c.in-Some.bundle.now = search rules in
    let within : c.args.place.slot < last_slot c.in-Some.bundle.now.slots = search rules in
    next_slot c.args.bundles.now c.args.place c.in-Some.bundle.now is within

pub returns-then-place-bundles : goal.returns-then-place-bundles
returns-then-place-bundles c =
    let is : slice_get c.args.bundles.now c.args.place.bundle ≡ Some c.in-Some.bundle.now = search rules in
    let last : last_slot c.in-Some.bundle.now.slots ≤ c.args.place.slot = search rules in
    let inside : c.args.place.bundle + 1 < length c.args.bundles.now = search rules in
    next_bundle c.args.bundles.now c.args.place c.in-Some.bundle.now is last inside

pub returns : goal.returns
returns c =
    let is : slice_get c.args.bundles.now c.args.place.bundle ≡ Some c.in-Some.bundle.now = search rules in
    let last : last_slot c.in-Some.bundle.now.slots ≤ c.args.place.slot = search rules in
    let end : length c.args.bundles.now ≤ c.args.place.bundle + 1 = search rules in
    no_next c.args.bundles.now c.args.place c.in-Some.bundle.now is last end
