use Rattle.std.proofs.Common.{◌∙◌, refl, eqb, ◌^◌}
use mir.Syntax.{w8}
use Rattle.lane_ops.proofs.LaneLists.{compared, differences, greater}
use Rattle.lane_ops.proofs.lanewise.on_bytes.Goals as goal
use Rattle.lane_ops.proofs.lanewise.on_bytes.Goals.{in-Padd, in-Psub, in-PcmpEq, in-PcmpGt}

pub returns : goal.returns
returns c = elim c.match-f.branch [
  | in-Padd w ↦ w.result-is ∙ rw (w.in-Padd.is) refl
  | in-Psub w ↦ w.result-is ∙ rw (w.in-Psub.is) (differences w8 c.args.a c.args.b c.fits-a.1 c.fits-b.1)
  | in-PcmpEq w ↦ w.result-is ∙ rw (w.in-PcmpEq.is) (compared w8 eqb 8 c.args.a c.args.b c.fits-a.0 c.fits-b.0)
  | in-PcmpGt w ↦ w.result-is ∙ rw (w.in-PcmpGt.is) (greater w8 (2 ^ 7) 8 c.args.a c.args.b refl c.fits-a c.fits-b)
]
