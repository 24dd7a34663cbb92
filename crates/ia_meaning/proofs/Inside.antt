-- The place that a step leaves a state at, and the one to which a slot falls through.
use Rattle.std.proofs.Common.{◌≡◌, ℕ, ◌<◌, Bool, true, false, List, length, Option, Some, None, take, refl, subst, inl, inr, arith}
use Rattle.std.specs.Prelude.{ℤ, IfSome, IsSome}
use Rattle.ia_insn.specs.declared.insn.Insn.{Insn}
use Rattle.ia_insn.specs.Displacements.{displacement}
use Rattle.ia_program.specs.declared.place.Place.{Place}
use Rattle.ia_program.specs.Bundles.{Bundle}
use Rattle.ia_program.specs.Places.{insn_at, IsPlaceOf, IsNext}
use Rattle.ia_program.specs.Programs.{Program, IsProgram}
use Rattle.ia_program.specs.Runs.{IsLeaving, EndsRun}
use Rattle.ia_program.specs.Targets.{IsBundleAt, IsTargetInside}
use Rattle.ia_program.proofs.InOrder.{is_place, get_some}
use Rattle.ia_meaning.specs.declared.next.Next.{Next}
use Rattle.ia_meaning.specs.declared.next.Next.TheVariants.{Falls, Goes}
use Rattle.ia_meaning.specs.State.{Registers, Memory, State}
use Rattle.ia_meaning.specs.Outcomes.{Outcome}
use Rattle.ia_meaning.specs.Effects.{site, effect}
use Rattle.ia_meaning.specs.Sequence.{first_of, next_of, is_stopped}
use Rattle.ia_meaning.specs.Steps.{Step, outcome_of, step_by, step_of, seq_step, how_falling, place_after}
use Rattle.ia_meaning.specs.ParallelGroups.{outcome_from}
use Rattle.ia_meaning.proofs.GoesOn.{IsGoodNext, IsGoodWay, IsGoodTarget, effect_on, settled_on, falls_to, effect_leaves}
use Rattle.ia_meaning.proofs.Follows.{arrival_small, target_small, next_is, not_stopped}

-- The number is that of a bundle of the program.
abbrev pub IsBundleOf : Program → ℕ → Type 0
IsBundleOf p bundle = bundle < length p.bundles

target_good : (p : Program) (place : Place) (insn : Insn) → IsTargetInside p.bundles place → insn_at p.bundles place ≡ Some insn
    → IsGoodTarget (IsBundleOf p) place.bundle (displacement insn.op)
target_good p place insn inside e =
    let here : IfSome (displacement insn.op) (IsBundleAt (length p.bundles) place.bundle) = rw e at inside in
    of (displacement insn.op) here
  where
    of : (o : Option ℤ) → IfSome o (IsBundleAt (length p.bundles) place.bundle) → IsGoodTarget (IsBundleOf p) place.bundle o
    of None h = tt
    of (Some disp) h = target_small (length p.bundles) place.bundle disp h

-- An instruction of a program goes to its bundles alone.
effect_good : (p : Program) (place : Place) (insn : Insn) (r : Registers) (m : Memory) (unat : ℕ) → IsTargetInside p.bundles place
    → insn_at p.bundles place ≡ Some insn → IsGoodWay (IsBundleOf p) (effect (site p place.bundle) insn r m unat)
effect_good p place insn r m unat inside e =
    effect_on (IsBundleOf p) (site p place.bundle) insn r m unat (arrival_small p (take 16 r.predicates))
    (target_good p place insn inside e)

outcome_good : (p : Program) (s : State) (insn : Insn) → IsTargetInside p.bundles s.place → insn_at p.bundles s.place ≡ Some insn
    → IsGoodWay (IsBundleOf p) (outcome_of p s insn)
outcome_good p s insn inside e =
    settled_on (IsBundleOf p) (next_of p.bundles s.place) s.memory
    (effect (site p s.place.bundle) insn s.registers s.memory s.registers.unat)
    (effect_good p s.place insn s.registers s.memory s.registers.unat inside e)

pub first_is_place : (bundles : List Bundle) (n : ℕ) → n < length bundles → IsPlaceOf bundles (first_of n)
first_is_place bundles n h = let s = get_some bundles n h in is_place bundles (first_of n) s.0 s.1 (omega arith)

-- The place that a branch of a program goes to is one of the program, whatever the instruction reads.
pub goes_inside : (p : Program) (place : Place) (insn : Insn) (r : Registers) (m : Memory) (unat bundle : ℕ) → IsProgram p
    → IsPlaceOf p.bundles place → insn_at p.bundles place ≡ Some insn → (effect (site p place.bundle) insn r m unat).next ≡ Goes bundle
    → IsPlaceOf p.bundles (first_of bundle)
goes_inside p place insn r m unat bundle program is e goes =
    first_is_place p.bundles bundle (subst (IsGoodNext (IsBundleOf p)) goes
    (effect_good p place insn r m unat (program.targets place is) e))

after_is_place : (bundles : List Bundle) (place : Place) (next : Option Place) → next_of bundles place ≡ next → IsPlaceOf bundles place
    → IsPlaceOf bundles (place_after place next)
after_is_place bundles place None e is = is
after_is_place bundles place (Some next) e is = let n = next_is bundles place next e in n.is

step_inside : (p : Program) (s : State) (o : Outcome) (way : Next) → IsPlaceOf p.bundles s.place → IsGoodNext (IsBundleOf p) way
    → IsPlaceOf p.bundles (step_by p s o way).state.place
step_inside p s o Falls is good = after_is_place p.bundles s.place (next_of p.bundles s.place) refl is
step_inside p s o (Goes bundle) is good = first_is_place p.bundles bundle good
step_inside p s o way is good = is

-- A step leaves the state at a place of the program.
pub stays_inside : (p : Program) (s : State) → IsProgram p → IsPlaceOf p.bundles s.place → IsPlaceOf p.bundles (seq_step p s).state.place
unfolding seq_step
stays_inside p s program is = of (insn_at p.bundles s.place) refl
  where
    of : (o : Option Insn) → insn_at p.bundles s.place ≡ o → IsPlaceOf p.bundles (step_of p s o).state.place
    of None e = is
    of (Some insn) e =
        step_inside p s (outcome_of p s insn) (outcome_of p s insn).next is (outcome_good p s insn (program.targets s.place is) e)

falling_on : (stopped : Bool) → how_falling stopped ≡ None → stopped ≡ false
falling_on true e = absurd cc
falling_on false e = refl

-- There is a next place, and no run of slots ends here.
pub record FallsOn (p : Program) (place : Place) : Type 0 where
  pub next : IsNext p.bundles place (place_after place (next_of p.bundles place))
  pub on : ¬ EndsRun p.bundles place

falls_on_to : (p : Program) (place next : Place) → next_of p.bundles place ≡ Some next → ¬ EndsRun p.bundles place → FallsOn p place
falls_on_to p place next e on = record { next = rw e (next_is p.bundles place next e); on = on }

-- Where an instruction falls through, whatever it reads, and no stop follows, no run ends.
run_goes_on : (p : Program) (place : Place) (insn : Insn) (r : Registers) (m : Memory) (unat : ℕ) → insn_at p.bundles place ≡ Some insn
    → is_stopped p.bundles place ≡ false → (effect (site p place.bundle) insn r m unat).next ≡ Falls → EndsRun p.bundles place → ⊥
run_goes_on p place insn r m unat e runs falls (inl stop) = not_stopped p.bundles place runs stop
run_goes_on p place insn r m unat e runs falls (inr leaving) =
    let h : (insn.qp ≡ 0) × IsLeaving insn.op = rw e at leaving in
    effect_leaves (site p place.bundle) insn r m unat h.0 h.1 falls

-- An instruction that falls through, whatever it reads, goes on to the next place where no stop follows.
pub slot_falls_on : (p : Program) (place : Place) (insn : Insn) (r : Registers) (m : Memory) (unat : ℕ)
    → insn_at p.bundles place ≡ Some insn → is_stopped p.bundles place ≡ false → (outcome_from p place insn r m unat).next ≡ Falls
    → FallsOn p place
slot_falls_on p place insn r m unat e runs falls =
    let f = falls_to (next_of p.bundles place) m (effect (site p place.bundle) insn r m unat) falls in
    falls_on_to p place f.place f.is (run_goes_on p place insn r m unat e runs f.falls)

-- A step that ends no group: the instruction falls through to the next place, and no run of slots ends there.
pub record Continues (p : Program) (s : State) (step : Step) : Type 0 where
  pub next : IsNext p.bundles s.place step.state.place
  pub on : ¬ EndsRun p.bundles s.place
  pub end : step.end ≡ None

continues_by : (p : Program) (s : State) (o : Outcome) (way : Next)
    → (is_stopped p.bundles s.place ≡ false → way ≡ Falls → FallsOn p s.place) → (step_by p s o way).how ≡ None
    → Continues p s (step_by p s o way)
continues_by p s o Falls falls e =
    let f = falls (falling_on (is_stopped p.bundles s.place) e) refl in record { next = f.next; on = f.on; end = refl }
continues_by p s o way falls e = absurd cc

-- A step that ends no group continues.
pub step_continues : (p : Program) (s : State) → IsPlaceOf p.bundles s.place → (seq_step p s).how ≡ None → Continues p s (seq_step p s)
unfolding seq_step
step_continues p s is h = of (insn_at p.bundles s.place) refl is h
  where
    of : (o : Option Insn) → insn_at p.bundles s.place ≡ o → IsSome o → (step_of p s o).how ≡ None → Continues p s (step_of p s o)
    of None e is h = absurd cc
    of (Some insn) e is h =
        continues_by p s (outcome_of p s insn) (outcome_of p s insn).next
        (slot_falls_on p s.place insn s.registers s.memory s.registers.unat e) h
