-- A group that begins at a place of a program is over within its RUN_LIMIT slots.
use Rattle.std.proofs.Common.{◌≡◌, ℕ, zero, suc, ◌+◌, ◌≤◌, Bool, true, false, ◌&&◌, List, [], ◌∷◌, length, Option, Some, None, refl, sym, subst, arith, if◌then◌else◌}
use Rattle.std.specs.Prelude.{IsSome}
use Rattle.ia_insn.specs.declared.insn.Insn.{Insn}
use Rattle.ia_program.specs.declared.limits.TheConstants.{RUN_LIMIT}
use Rattle.ia_program.specs.declared.place.Place.{Place}
use Rattle.ia_program.specs.declared.ending.How.{How}
use Rattle.ia_program.specs.declared.ending.How.TheVariants as how
use Rattle.ia_program.specs.Places.{insn_at, IsPlaceOf}
use Rattle.ia_program.specs.Programs.{Program, IsProgram}
use Rattle.ia_program.specs.Runs.{StandBefore}
use Rattle.ia_meaning.specs.declared.next.Next.{Next}
use Rattle.ia_meaning.specs.declared.next.Next.TheVariants.{Falls}
use Rattle.ia_meaning.specs.State.{State}
use Rattle.ia_meaning.specs.Actions.{allocates}
use Rattle.ia_meaning.specs.Outcomes.{Outcome}
use Rattle.ia_meaning.specs.Sequence.{next_of, is_stopped}
use Rattle.ia_meaning.specs.Steps.{place_after, Step, seq_step, Group, group_by, group_within, seq_group}
use Rattle.ia_meaning.specs.Views.{view}
use Rattle.ia_meaning.specs.ParallelGroups.{Gathered, gathered_from, now_of, slot_outcome, gathers, GatheredGroup, ends_with, one_more, gathered_by, gathered_within, par_group}
use Rattle.ia_meaning.proofs.Inside.{FallsOn, slot_falls_on, step_continues}

-- A place of the program with slots of a run of slots before it.
pub record StandsAfter (p : Program) (before : List Place) (place : Place) : Type 0 where
  pub is : IsPlaceOf p.bundles place
  pub stand : StandBefore p.bundles before place

-- Fewer than RUN_LIMIT slots stand before it.
no_more : (p : Program) (before : List Place) (place : Place) → IsProgram p → StandsAfter p before place → RUN_LIMIT ≤ length before + 0 → ⊥
no_more p before place program at enough = let few = program.runs place at.is before at.stand in omega arith

falls_after : (p : Program) (before : List Place) (place : Place) → StandsAfter p before place → FallsOn p place
    → StandsAfter p (place ∷ before) (place_after place (next_of p.bundles place))
falls_after p before place at f = let n = f.next in record { is = n.is; stand = (at.is, n, f.on, at.stand) }

-- The group is over, or its rest is.
step_over : (p : Program) (s : State) (step : Step) (rest : Group) (h : Option How) → (h ≡ None → IsSome rest.how)
    → IsSome (group_by p s step h rest).how
step_over p s step rest (Some how) over = refl
step_over p s step rest None over = over refl

group_over : (most : ℕ) (p : Program) (s : State) (before : List Place) → IsProgram p → StandsAfter p before s.place
    → RUN_LIMIT ≤ length before + most → IsSome (group_within most p s).how
group_over zero p s before program at enough = absurd (no_more p before s.place program at enough)
group_over (suc most) p s before program at enough =
    step_over p s (seq_step p s) (group_within most p (seq_step p s).state) (seq_step p s).how
    (λ e.
    let c = step_continues p s at.is e in
    let n = c.next in
    group_over most p (seq_step p s).state (s.place ∷ before) program
    (record { is = n.is; stand = (at.is, n, c.on, at.stand) })
    (omega arith))

-- A sequential group is over.
pub seq_group_ends : (p : Program) (s : State) → IsProgram p → IsPlaceOf p.bundles s.place → IsSome (seq_group p s).how
seq_group_ends p s program is = group_over RUN_LIMIT p s [] program (record { is = is; stand = tt }) (omega arith)

-- The group is over, or its rest is.
slot_over : (p : Program) (first : Bool) (g : Gathered) (o : Outcome) (way : Next) (rest : GatheredGroup)
    → (is_stopped p.bundles g.place ≡ false → way ≡ Falls → IsSome rest.how) → IsSome (gathered_by p first g o way rest).how
slot_over p first g o Falls rest over = of (is_stopped p.bundles g.place) refl
  where
    of : (b : Bool) → is_stopped p.bundles g.place ≡ b → IsSome (if b then ends_with
        (gathers first g o (place_after g.place (next_of p.bundles g.place))) g.place how.Falls None else one_more rest).how
    of true e = refl
    of false e = over e refl
slot_over p first g o way rest over = refl

-- The group's next slot goes on to the next place where it falls through and no stop follows.
next_slot_falls_on : (p : Program) (g : Gathered) → IsPlaceOf p.bundles g.place → is_stopped p.bundles g.place ≡ false
    → (slot_outcome p g (insn_at p.bundles g.place)).next ≡ Falls → FallsOn p g.place
next_slot_falls_on p g is runs = of (insn_at p.bundles g.place) refl is
  where
    of : (o : Option Insn) → insn_at p.bundles g.place ≡ o → IsSome o → (slot_outcome p g o).next ≡ Falls → FallsOn p g.place
    of None e is falls = absurd cc
    of (Some insn) e is falls = slot_falls_on p g.place insn (view insn (now_of g) g.base) g.memory g.unat e runs falls

gathers_place : (first : Bool) (g : Gathered) (o : Outcome) (place : Place) → (gathers first g o place).place ≡ place
gathers_place true g o place = refl
gathers_place false g o place = refl

gathered_over : (most : ℕ) (p : Program) (begins : Bool) (g : Gathered) (before : List Place) → IsProgram p → StandsAfter p before g.place
    → RUN_LIMIT ≤ length before + most → IsSome (gathered_within most p begins g).how
gathered_over zero p begins g before program at enough = absurd (no_more p before g.place program at enough)
gathered_over (suc most) p begins g before program at enough =
    let insn = insn_at p.bundles g.place in
    let o = slot_outcome p g insn in
    let first = begins && allocates insn in
    let next = place_after g.place (next_of p.bundles g.place) in
    slot_over p first g o o.next (gathered_within most p false (gathers first g o next))
    (λ runs falls.
    let f = next_slot_falls_on p g at.is runs falls in
    gathered_over most p false (gathers first g o next) (g.place ∷ before) program
    (subst (StandsAfter p (g.place ∷ before)) (sym (gathers_place first g o next)) (falls_after p before g.place at f))
    (omega arith))

-- A group all at once is over.
pub par_group_ends : (p : Program) (code : List ℕ) (s : State) → IsProgram p → IsPlaceOf p.bundles s.place → IsSome (par_group p code s).how
par_group_ends p code s program is =
    gathered_over RUN_LIMIT p true (gathered_from s) [] program (record { is = is; stand = tt }) (omega arith)
