use Rattle.std.proofs.Common.{arith, ◌≡◌, ◌<◌, ◌∙◌, sym, ap, subst, length, List, Option, None}
use Rattle.std.specs.Prelude.{IfSome, slice_index_or, option_map}
use Rattle.asm_build.specs.declared.address.Address.{Address}
use Rattle.asm_build.specs.Addresses.{IsReachable}
use Rattle.loose_items.specs.declared.item.Item.{Item}
use Rattle.bundling.specs.Bundled.{relocated, bundle_in}
use Rattle.bundling.proofs.Making.{target_within, moved_within}
use Rattle.bundling.proofs.program.bundle_insns.Goals as goal

pub put_in-requires-clause-there : goal.put_in-requires-clause-there
put_in-requires-clause-there c =
    let s = c.args.text.now in
    let f = bundle_in c.args.places.now in
    let items : c.items-items.result.now ≡ s.items = c.items-items.ensures in
    let targets : c.targets-targets.result.now ≡ s.targets = c.targets-targets.ensures in
    let inside : c.loop-n.n < length c.items-items.result.now = omega (arith, c.loop-n-test.true) in
    let within = target_within s c.loop-n.n c.is_loose.ensures (subst (λ (xs : List Item). c.loop-n.n < length xs) items inside) in
    let is : c.relocated-target.result ≡ option_map (relocated f) (slice_index_or s.targets c.loop-n.n None) =
    c.relocated-target.ensures ∙ ap (λ (xs : List (Option Address)). option_map (relocated f) (slice_index_or xs c.loop-n.n None))
    targets in
    subst (λ (o : Option Address). IfSome o IsReachable) (sym is)
    (moved_within f (slice_index_or s.targets c.loop-n.n None) c.requires within)
