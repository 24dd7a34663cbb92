use Rattle.std.proofs.Common.{◌∙◌, refl, eqb, ◌^◌}
use mir.Syntax.{w32}
use Rattle.lane_ops.proofs.LaneLists.{compared, differences, greater}
use Rattle.lane_ops.proofs.lanewise.on_four_bytes.Goals as goal
use Rattle.lane_ops.proofs.lanewise.on_four_bytes.Goals.{in-Padd, in-Psub, in-PcmpEq, in-PcmpGt}

pub returns : goal.returns
returns c = elim c.match-f.branch [
  | in-Padd w ↦ w.result-is ∙ rw (w.in-Padd.is) refl
  | in-Psub w ↦ w.result-is ∙ rw (w.in-Psub.is) (differences w32 c.args.a c.args.b c.fits-a.1 c.fits-b.1)
  | in-PcmpEq w ↦ w.result-is ∙ rw (w.in-PcmpEq.is) (compared w32 eqb 2 c.args.a c.args.b c.fits-a.0 c.fits-b.0)
  | in-PcmpGt w ↦ w.result-is ∙ rw (w.in-PcmpGt.is) (greater w32 (2 ^ 31) 2 c.args.a c.args.b refl c.fits-a c.fits-b)
]
