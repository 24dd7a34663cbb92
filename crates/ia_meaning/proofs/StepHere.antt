-- A step is that of the instruction at the state's place.
use Rattle.std.proofs.Common.{◌≡◌, Option, Some, None, refl, sym, ap, subst}
use Rattle.std.specs.Prelude.{IsSome}
use Rattle.ia_insn.specs.declared.insn.Insn.{Insn}
use Rattle.ia_program.specs.Places.{insn_at, IsPlaceOf}
use Rattle.ia_program.specs.Programs.{Program}
use Rattle.ia_meaning.specs.State.{State}
use Rattle.ia_meaning.specs.Steps.{Step, step_of, seq_step}

pub step_here : (p : Program) (s : State) (insn : Insn) → insn_at p.bundles s.place ≡ Some insn → seq_step p s ≡ step_of p s (Some insn)
unfolding seq_step
step_here p s insn here = ap (step_of p s) here

-- A place of the program has an instruction.
pub insn_here : (p : Program) (s : State) → IsPlaceOf p.bundles s.place → (insn : Insn) × (insn_at p.bundles s.place ≡ Some insn)
insn_here p s is = of (insn_at p.bundles s.place) refl is
  where
    of : (o : Option Insn) → insn_at p.bundles s.place ≡ o → IsSome o → (insn : Insn) × (insn_at p.bundles s.place ≡ Some insn)
    of None e is = absurd (cc)
    of (Some insn) e is = (insn, e)

-- What holds of its step holds of the state's.
pub by_insn : (Q : Step → Type 0) (p : Program) (s : State) → IsPlaceOf p.bundles s.place
    → ((insn : Insn) → insn_at p.bundles s.place ≡ Some insn → Q (step_of p s (Some insn))) → Q (seq_step p s)
by_insn Q p s is each = of (insn_here p s is)
  where
    of : (insn : Insn) × (insn_at p.bundles s.place ≡ Some insn) → Q (seq_step p s)
    of (insn, here) = subst Q (sym (step_here p s insn here)) (each insn here)
