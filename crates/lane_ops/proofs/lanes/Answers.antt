use Rattle.std.proofs.Common.{◌≡◌, ℕ, ◌∙◌, refl, sym, ap, arith}
use Rattle.ia_meaning.specs.Lanes.{lanes}
use Rattle.lane_ops.proofs.LaneDigits.{by_lanes, by_single_bytes}
use Rattle.lane_ops.proofs.lanes.Goals as goal
use Rattle.lane_ops.proofs.lanes.Goals.{in-1, in-2, in_default}

pub returns : goal.returns
returns c =
    let of_size = λ (s : ℕ). lanes c.args.f s c.args.a c.args.b in
    elim c.match-size.branch [
      | in-1 w ↦ c.from_le_bytes.ensures ∙ by_single_bytes c.args.f c.args.a c.args.b _ _ c.match-size.bytes c.ranges.a.fits c.ranges.b.fits
          c.to_le_bytes-a.ensures c.to_le_bytes-b.ensures (w.bytes-is ∙ w.on_bytes-bytes.ensures) ∙ ap of_size (sym w.in-1.is)
      | in-2 w ↦ c.from_le_bytes.ensures ∙ by_lanes c.args.f 16 4 c.args.a c.args.b _ _ w.on_two_bytes.result c.match-size.bytes
          c.ranges.a.fits c.ranges.b.fits refl c.to_le_bytes-a.ensures c.to_le_bytes-b.ensures w.on_two_bytes.ensures w.bytes-is
          ∙ ap of_size (sym w.in-2.is)
      | in_default w ↦
          let four : c.args.size ≡ 4 = grind (arith, c.requires.size, w.in_default) in
          c.from_le_bytes.ensures ∙ by_lanes c.args.f 32 2 c.args.a c.args.b _ _ w.on_four_bytes.result c.match-size.bytes c.ranges.a.fits
          c.ranges.b.fits refl c.to_le_bytes-a.ensures c.to_le_bytes-b.ensures w.on_four_bytes.ensures w.bytes-is
          ∙ ap of_size (sym four)
    ]
