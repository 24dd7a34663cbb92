-- The worked values of a seed.
use Rattle.std.proofs.Common.{◌≡◌, refl, false, [], ◌∷◌}
use Rattle.std.specs.Prelude.{pos}
use Rattle.ia_insn.specs.declared.insn.Op.TheVariants.{Alu, AddImm14, Cmp, Nop, Break}
use Rattle.ia_insn.specs.declared.choices.AluFn.TheVariants.{Sub, And}
use Rattle.ia_insn.specs.declared.choices.Rel.TheVariants.{Lt}
use Rattle.ia_insn.specs.declared.choices.CmpKind.TheVariants.{Normal}
use Rattle.ia_insn.specs.declared.choices.Unit.TheVariants.{M, I}
use Rattle.trial_maker.specs.Draws.{state_before, draws_of}
use Rattle.trial_maker.specs.Trials.{always, mii, first_bundles, trial_program}

-- The draws of seed 0.
first_draws : draws_of 0 0 ≡ record { first = 167951807; second = 218396424; third = 1299921937 }
unfolding state_before
first_draws = refl

second_draws : draws_of 0 1 ≡ record { first = 861605236; second = 823830125; third = 1204436891 }
unfolding state_before
second_draws = refl

-- the program of seed 0 with three bundles:
-- cmp.lt p6,p7=r15,r15; adds r16=3809,r8; nop.i 0;;
-- nop.m 0; (p6) and r12=r13,r21; (p7) sub r12=r11,r19;;
-- nop.m 0; nop.i 0; break.i 0;;
three_bundles : (trial_program 0 3).bundles ≡ mii (always (Cmp false Lt Normal 6 7 15 15)) (always (AddImm14 false 16 (pos 3809) 8))
    (always (Nop I 0)) ∷ mii (always (Nop M 0)) (record { qp = 6; op = Alu And 12 13 21 })
    (record { qp = 7; op = Alu Sub 12 11 19 }) ∷ mii (always (Nop M 0)) (always (Nop I 0)) (always (Break I 0)) ∷ []
unfolding first_bundles state_before
three_bundles = refl
