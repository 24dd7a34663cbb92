-- Groups of the engine come to where whole runs leave off.
use Rattle.std.proofs.Common.{◌≡◌, ℕ, zero, suc, ◌+◌, ◌-◌, ◌<◌, Bool, true, false, length, Option, Some, None, refl, sym, ap, ◌∙◌, subst, arith, ◌&&◌, if◌then◌else◌}
use Rattle.std.specs.Prelude.{⊤}
use Rattle.std.specs.Option.{is_some}
use Rattle.ia_program.specs.declared.limits.TheConstants.{RUN_LIMIT}
use Rattle.ia_program.specs.declared.ending.End.{End}
use Rattle.ia_program.specs.declared.ending.End.TheVariants.{Break, Limit, Fault}
use Rattle.ia_program.specs.declared.ending.How.TheVariants as how
use Rattle.ia_program.specs.declared.ending.GroupEvent.{GroupEvent}
use Rattle.ia_program.specs.Places.{insn_at}
use Rattle.ia_program.specs.Programs.{Program}
use Rattle.ia_meaning.specs.declared.next.Next.{Next}
use Rattle.ia_meaning.specs.declared.next.Next.TheVariants.{Falls, Goes, Breaks, Faults}
use Rattle.ia_meaning.specs.State.{State}
use Rattle.ia_meaning.specs.Actions.{allocates}
use Rattle.ia_meaning.specs.Outcomes.{Outcome}
use Rattle.ia_meaning.specs.ResidentRange.{range_of}
use Rattle.ia_meaning.specs.Sequence.{next_of, is_stopped}
use Rattle.ia_meaning.specs.Steps.{place_after, Group, Run, event_of, run_by, run_from}
use Rattle.ia_meaning.specs.ParallelGroups.{Gathered, GatheredGroup, gathered_from, gathers, gathered_by, gathered_within, slot_outcome, ends_with, one_more}
use Rattle.ia_meaning.specs.NumberedRuns.{numbered_group, numbered_run}
use Rattle.ia_meaning.proofs.WholeRuns.{range_appended}
use Rattle.group_engine.specs.Engine.{Engine, lasting, after_run, after_group, unless_ended, groups_further, end_of}

-- An end that is no limit.
abbrev IsNoLimit : Option End → Type 0
IsNoLimit (Some (Limit place)) = ⊥
IsNoLimit end = ⊤

slot_no_limit : (p : Program) (first : Bool) (g : Gathered) (o : Outcome) (way : Next) (rest : GatheredGroup) → IsNoLimit rest.end
    → IsNoLimit (gathered_by p first g o way rest).end
slot_no_limit p first g o Falls rest h = of (is_stopped p.bundles g.place)
  where
    of : (b : Bool) → IsNoLimit (if b then ends_with (gathers first g o (place_after g.place (next_of p.bundles g.place))) g.place how.Falls
        None else one_more rest).end
    of true = tt
    of false = h
slot_no_limit p first g o (Goes bundle) rest h = tt
slot_no_limit p first g o (Breaks imm) rest h = tt
slot_no_limit p first g o (Faults kind) rest h = tt

within_no_limit : (most : ℕ) (p : Program) (begins : Bool) (g : Gathered) → IsNoLimit (gathered_within most p begins g).end
within_no_limit zero p begins g = tt
within_no_limit (suc most) p begins g =
    let insn = insn_at p.bundles g.place in
    let o = slot_outcome p g insn in
    let first = begins && allocates insn in
    slot_no_limit p first g o o.next (gathered_within most p false (gathers first g o (place_after g.place (next_of p.bundles g.place))))
    (within_no_limit most p false (gathers first g o (place_after g.place (next_of p.bundles g.place))))

-- No group ends a run by a limit.
group_no_limit : (number : ℕ) (p : Program) (s : State) → IsNoLimit (numbered_group number p s).end
unfolding numbered_group
group_no_limit number p s = within_no_limit RUN_LIMIT p true (gathered_from s)

-- An end that isn't the limit lasts.
lasts : (end : End) → IsNoLimit (Some end) → lasting end ≡ Some end
lasts (Break imm place) h = refl
lasts (Limit place) h = absurd h
lasts (Fault kind place) h = refl

-- After an end nothing changes any more.
pub further_ended : (n number : ℕ) (e : Engine) (end : End) → e.end ≡ Some end → groups_further n number e ≡ e
further_ended zero number e end is = refl
further_ended (suc n) number e end is = rw is refl

-- Where there is none, one group is run, and the rest.
pub further_on : (left number : ℕ) (e : Engine) → e.end ≡ None → 0 < left
    → groups_further left number e ≡ groups_further (left - 1) number (after_group (numbered_group number e.program e.state) e)
further_on zero number e none some = absurd (omega (arith, some))
further_on (suc n) number e none some =
    let less : suc n - 1 ≡ n = omega arith in
    rw (none, less) refl

-- The engine has come to where a run leaves off.
record HasRest (e after : Engine) (run : Run) : Type 0 where
  program : after.program ≡ e.program
  state : after.state ≡ run.state
  end : after.end ≡ lasting run.end
  ends : end_of after ≡ run.end
  groups : after.groups ≡ e.groups + length run.events
  range : after.range ≡ range_of e.range run.frames

ends_at : (e : Engine) (end : End) → e.end ≡ Some end → end_of e ≡ end
ends_at e end is = rw is refl

-- A group, and the rest of the run.
group_step : (n number : ℕ) (e : Engine) (g : Group) (event : GroupEvent) (rest : Run)
    → (g.end ≡ None → HasRest (after_group g e) (groups_further n number (after_group g e)) rest) → (end : Option End) → g.end ≡ end
    → IsNoLimit end
    → HasRest e (groups_further n number (after_group g e)) (run_by g event end rest)
group_step n number e g event rest goes (Some end) is limit =
    subst (λ (x : Engine). HasRest e x (run_by g event (Some end) rest)) (sym (further_ended n number (after_group g e) end is))
    (record {
      program = refl;
      state = refl;
      end = is ∙ sym (lasts end limit);
      ends = ends_at (after_group g e) end is;
      groups = refl;
      range = refl;
    })
group_step n number e g event rest goes None is limit =
    let h = goes is in
    record {
      program = h.program;
      state = h.state;
      end = h.end;
      ends = h.ends;
      groups = omega (arith, h.groups);
      range = h.range ∙ range_appended e.range g.frames rest.frames;
    }

rest_is : (n number at : ℕ) (e : Engine) → e.end ≡ None → HasRest e (groups_further n number e)
    (run_from (λ each s. numbered_group number e.program s) at n e.state)
rest_is zero number at e none = record { program = refl; state = refl; end = none; ends = rw none refl; groups = omega arith; range = refl }
rest_is (suc n) number at e none =
    let g = numbered_group number e.program e.state in
    let step =
    group_step n number e g (event_of at e.state.place g) (run_from (λ each s. numbered_group number e.program s) (suc at) n g.state)
    (λ goes. rest_is n number (suc at) (after_group g e) goes) g.end refl (group_no_limit number e.program e.state) in
    subst (λ (x : Engine). HasRest e x (run_from (λ each s. numbered_group number e.program s) at (suc n) e.state))
    (sym (ap (λ end. unless_ended end e (groups_further n number (after_group g e))) none)) step

after_is_run : (e after : Engine) (run : Run) → HasRest e after run → after ≡ after_run run e
after_is_run e after run h = rw (← h.program, ← h.state, ← h.end, ← h.groups, ← h.range) refl

-- Going n groups further leaves what the run of n groups leaves.
pub further_is_run : (n number : ℕ) (e : Engine) → e.end ≡ None
    → groups_further n number e ≡ after_run (numbered_run e.program n number e.state) e
further_is_run n number e none =
    after_is_run e (groups_further n number e) (numbered_run e.program n number e.state) (rest_is n number 1 e none)

-- Going n groups further ends as the run of n groups.
pub further_ends : (n number : ℕ) (e : Engine) → e.end ≡ None → end_of (groups_further n number e)
    ≡ (numbered_run e.program n number e.state).end
further_ends n number e none = let h = rest_is n number 1 e none in h.ends

-- A test that finds no end.
pub runs_on : (end : Option End) → is_some end ≡ false → end ≡ None
runs_on None e = refl
runs_on (Some end) e = absurd (cc)
