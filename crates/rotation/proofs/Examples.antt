-- Worked examples.
use Rattle.std.proofs.Common.{◌≡◌, refl}
use Rattle.ia_meaning.specs.declared.state.FrameShape.{FrameShape}
use Rattle.ia_meaning.specs.Names.{frame_index, predicate_index}
use Rattle.ia_meaning.specs.Frames.{rotated}

-- 20 registers, of which 16 rotate and are turned by 13.
turned : FrameShape
turned = record { base = 0; sof = 20; sol = 20; sor = 2; rrbs = record { gr = 13; fr = 95; pr = 47 } }

-- r34 and r35.
last_place : frame_index turned 2 ≡ 15
unfolding frame_index turned
last_place = refl

first_place : frame_index turned 3 ≡ 0
unfolding frame_index turned
first_place = refl

-- r48 stands past the rotating part.
still : frame_index turned 16 ≡ 16
unfolding frame_index turned
still = refl

-- p15, p16 and p17.
still_predicate : predicate_index turned 15 ≡ 15
unfolding predicate_index turned
still_predicate = refl

last_predicate : predicate_index turned 16 ≡ 63
unfolding predicate_index turned
last_predicate = refl

first_predicate : predicate_index turned 17 ≡ 16
unfolding predicate_index turned
first_predicate = refl

-- A rotation of bases that are 0.
unturned : FrameShape
unturned = record { base = 0; sof = 20; sol = 20; sor = 2; rrbs = record { gr = 0; fr = 0; pr = 0 } }

after_rotation : (rotated unturned).rrbs ≡ record { gr = 15; fr = 95; pr = 47 }
unfolding rotated unturned
after_rotation = refl
