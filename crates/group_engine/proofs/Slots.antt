-- One slot of a group.
use Rattle.std.proofs.Common.{◌≡◌, ℕ, suc, Bool, true, false, ◌&&◌, Option, Some, None, refl}
use Rattle.ia_insn.specs.declared.insn.Insn.{Insn}
use Rattle.ia_program.specs.declared.ending.End.TheVariants.{Break, Fault}
use Rattle.ia_program.specs.declared.ending.FaultKind.{FaultKind}
use Rattle.ia_program.specs.declared.ending.FaultKind.TheVariants.{FellOff}
use Rattle.ia_program.specs.declared.place.Place.{Place}
use Rattle.ia_program.specs.Places.{insn_at}
use Rattle.ia_program.specs.Programs.{Program}
use Rattle.ia_meaning.specs.declared.next.Next.TheVariants.{Falls, Goes, Breaks, Faults}
use Rattle.ia_meaning.specs.Actions.{insn_action, is_alloc}
use Rattle.ia_meaning.specs.Outcomes.{Outcome}
use Rattle.ia_meaning.specs.Effects.{site, effect}
use Rattle.ia_meaning.specs.Sequence.{first_of, next_of, is_stopped}
use Rattle.ia_meaning.specs.Steps.{settled, place_after}
use Rattle.ia_meaning.specs.Views.{view}
use Rattle.ia_meaning.specs.ParallelGroups.{Gathered, GatheredGroup, now_of, gathers, gathered_by}
use Rattle.group_engine.specs.Groups.{rest_of, HasGathered, HasRestOf}

module _ (p : Program) (begins : Bool) (g : Gathered) (insn : Insn) (o : Outcome) (at : insn_at p.bundles g.place ≡ Some insn)
    (is : effect (site p g.place.bundle) insn (view insn (now_of g) g.base) g.memory g.unat ≡ o) where
  abbrev first : Bool
  first = begins && is_alloc (insn_action insn)

  abbrev rest : Outcome → ℕ → GatheredGroup
  rest o most = rest_of most p false (gathers first g o (place_after g.place (next_of p.bundles g.place)))

  abbrev whole : Outcome → ℕ → GatheredGroup
  whole o most = gathered_by p first g o o.next (rest o most)

  -- A group is its next slot and its rest.
  stepped : (most : ℕ) → rest_of (suc most) p begins g ≡ whole (settled (next_of p.bundles g.place) g.memory o.next o) most
  unfolding rest_of
  stepped most = rw (at, is) refl

  -- A slot that falls through where there is no next place is a fault.
  pub fell : (most : ℕ) → o.next ≡ Falls → next_of p.bundles g.place ≡ None
      → HasGathered (rest_of (suc most) p begins g) g (Some (Fault FellOff g.place))
  fell most falls none = rw (stepped most, none, falls) (record { all = refl; end = refl; over = refl })

  -- A slot that falls through to a stop ends the group.
  pub stops : (most : ℕ) (next : Place) → o.next ≡ Falls → next_of p.bundles g.place ≡ Some next → is_stopped p.bundles g.place ≡ true
      → HasGathered (rest_of (suc most) p begins g) (gathers first g o next) None
  stops most next falls to stop = rw (stepped most, to, falls, stop, to) (record { all = refl; end = refl; over = refl })

  -- After a slot that falls through without a stop the group goes on.
  pub goes_on : (most : ℕ) (next : Place) → o.next ≡ Falls → next_of p.bundles g.place ≡ Some next → is_stopped p.bundles g.place ≡ false
      → HasRestOf (rest_of (suc most) p begins g) (rest_of most p false (gathers first g o next))
  goes_on most next falls to stop = rw (stepped most, to, falls, stop) (record { all = refl; end = refl; how = refl })

  -- A branch that is taken ends the group.
  pub goes : (most bundle : ℕ) → o.next ≡ Goes bundle → HasGathered (rest_of (suc most) p begins g)
      (gathers first g o (first_of bundle)) None
  goes most bundle taken = of (next_of p.bundles g.place) refl
    where
      of : (next : Option Place) → next_of p.bundles g.place ≡ next
          → HasGathered (rest_of (suc most) p begins g) (gathers first g o (first_of bundle)) None
      of None to = rw (stepped most, to, taken) (record { all = refl; end = refl; over = refl })
      of (Some next) to = rw (stepped most, to, taken) (record { all = refl; end = refl; over = refl })

  -- A `break` ends the group, and the run.
  pub breaks_off : (most imm : ℕ) → o.next ≡ Breaks imm → HasGathered (rest_of (suc most) p begins g) g (Some (Break imm g.place))
  breaks_off most imm stop = of (next_of p.bundles g.place) refl
    where
      of : (next : Option Place) → next_of p.bundles g.place ≡ next
          → HasGathered (rest_of (suc most) p begins g) g (Some (Break imm g.place))
      of None to = rw (stepped most, to, stop) (record { all = refl; end = refl; over = refl })
      of (Some next) to = rw (stepped most, to, stop) (record { all = refl; end = refl; over = refl })

  -- A fault ends the group, and the run.
  pub faulted : (most : ℕ) (kind : FaultKind) → o.next ≡ Faults kind
      → HasGathered (rest_of (suc most) p begins g) g (Some (Fault kind g.place))
  faulted most kind fault = of (next_of p.bundles g.place) refl
    where
      of : (next : Option Place) → next_of p.bundles g.place ≡ next
          → HasGathered (rest_of (suc most) p begins g) g (Some (Fault kind g.place))
      of None to = rw (stepped most, to, fault) (record { all = refl; end = refl; over = refl })
      of (Some next) to = rw (stepped most, to, fault) (record { all = refl; end = refl; over = refl })
