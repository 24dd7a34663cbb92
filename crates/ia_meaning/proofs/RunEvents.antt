-- The events and the frame changes of runs under way are those of whole runs.
use Rattle.std.proofs.Common.{◌≡◌, ℕ, zero, suc, ◌+◌, List, [], ◌∷◌, ◌++◌, Option, Some, None, refl, ap, ◌∙◌, subst, append-nil, arith}
use Rattle.ia_program.specs.declared.limits.TheConstants.{RUN_LIMIT}
use Rattle.ia_program.specs.declared.ending.End.{End}
use Rattle.ia_program.specs.declared.ending.How.{How}
use Rattle.ia_program.specs.declared.ending.GroupEvent.{GroupEvent}
use Rattle.ia_program.specs.Places.{IsPlaceOf}
use Rattle.ia_program.specs.Programs.{Program, IsProgram}
use Rattle.ia_meaning.specs.State.{State}
use Rattle.ia_meaning.specs.Steps.{Step, seq_step, Group, group_by, group_within, seq_group, event_of, Run, run_by, run_from, seq_run}
use Rattle.ia_meaning.specs.Progress.{Progress, begun, opened, stepped, advanced, group_further}
use Rattle.ia_meaning.specs.Runs.{IsUnderWay, event_further, frames_by, frames_to_group_end, group_frames, unless_ended, events_further, frames_further}
use Rattle.ia_meaning.proofs.GroupEnds.{begun_under_way, group_under_way, group_comes_to_end}
use Rattle.ia_meaning.proofs.WholeRuns.{HasGroup, group_is, opened_between, advanced_is, step_goes_on}
use Rattle.ia_meaning.proofs.GroupEvents.{event_is_of_group}

-- The changes of one slot, and those of the rest of its group.
step_frames : (p : Program) (s : State) (step : Step) (changes : List (ℕ × ℕ)) (rest : Group) (h : Option How)
    → (h ≡ None → changes ≡ rest.frames) → frames_by h step.frames changes ≡ (group_by p s step h rest).frames
step_frames p s step changes rest (Some how) same = refl
step_frames p s step changes rest None same = ap (λ (more : List (ℕ × ℕ)). step.frames ++ more) (same refl)

frames_to_end : (most : ℕ) (p : Program) (m : Progress) → m.end ≡ None → frames_to_group_end most p m ≡ (group_within most p m.state).frames
frames_to_end zero p m none = refl
frames_to_end (suc most) p m none =
    step_frames p m.state (seq_step p m.state) (frames_to_group_end most p (advanced p m)) (group_within most p (seq_step p m.state).state)
    (seq_step p m.state).how
    (λ e. ap (frames_to_group_end most p) (advanced_is p m none) ∙ frames_to_end most p (stepped (opened m) (seq_step p m.state))
    (step_goes_on p m.state e))

-- Between two groups they are those of the next group.
frames_are_of_group : (p : Program) (m : Progress) → m.end ≡ None → group_frames p m ≡ (seq_group p m.state).frames
unfolding group_frames
frames_are_of_group p m none = frames_to_end RUN_LIMIT p m none

-- After an end there are none.
events_ended : (n : ℕ) (p : Program) (m : Progress) (e : End) → m.end ≡ Some e → events_further n p m ≡ []
events_ended zero p m e is = refl
events_ended (suc n) p m e is = rw is refl

frames_ended : (n : ℕ) (p : Program) (m : Progress) (e : End) → m.end ≡ Some e → frames_further n p m ≡ []
frames_ended zero p m e is = refl
frames_ended (suc n) p m e is = rw is refl

goes_further : {X : Type 0} (e : Option End) (xs : List X) → e ≡ None → unless_ended e xs ≡ xs
goes_further e xs none = rw none refl

-- The first group of a run, and the rest.
events_by : (told event : GroupEvent) (more : List GroupEvent) (group : Group) (rest : Run) → told ≡ event → (e : Option End)
    → ((x : End) → e ≡ Some x → more ≡ []) → (e ≡ None → more ≡ rest.events) → told ∷ more ≡ (run_by group event e rest).events
events_by told event more group rest same (Some x) ended goes = let none = ended x refl in cc
events_by told event more group rest same None ended goes = let others = goes refl in cc

run_frames_by : (changes more : List (ℕ × ℕ)) (group : Group) (event : GroupEvent) (rest : Run) → changes ≡ group.frames → (e : Option End)
    → ((x : End) → e ≡ Some x → more ≡ []) → (e ≡ None → more ≡ rest.frames) → changes ++ more ≡ (run_by group event e rest).frames
run_frames_by changes more group event rest same (Some x) ended goes = rw (same, ended x refl, append-nil) refl
run_frames_by changes more group event rest same None ended goes = let others = goes refl in cc

-- A group further the run is between two groups again.
pub record IsNextGroup (p : Program) (m next : Progress) : Type 0 where
  pub under_way : IsUnderWay p next
  pub slots : next.slots ≡ 0
  pub state : next.state ≡ (seq_group p m.state).state
  pub end : next.end ≡ (seq_group p m.state).end
  pub groups : next.groups ≡ m.groups + 1

next_group : (p : Program) (m : Progress) → IsProgram p → IsUnderWay p m → m.end ≡ None → m.slots ≡ 0 → IsNextGroup p m (group_further p m)
next_group p m program u none slots =
    let has = subst (λ (o : Progress). HasGroup o (group_further p m) (seq_group p m.state)) (opened_between m slots) (group_is p m none) in
    record {
      under_way = group_under_way p m program u;
      slots = group_comes_to_end p m program u none;
      state = has.state;
      end = has.end;
      groups = has.groups;
    }

-- The events of n groups further, from between two groups, are those of the run of n groups.
rest_events : (n number : ℕ) (p : Program) (m : Progress) → IsProgram p → IsUnderWay p m → m.end ≡ None → m.slots ≡ 0
    → m.groups + 1 ≡ number → events_further n p m ≡ (run_from (λ k s. seq_group p s) number n m.state).events
rest_events zero number p m program u none slots count = refl
rest_events (suc n) number p m program u none slots count =
    let next = next_group p m program u none slots in
    let group = seq_group p m.state in
    goes_further m.end (event_further p m ∷ events_further n p (group_further p m)) none
    ∙ events_by (event_further p m) (event_of number m.state.place group)
    (events_further n p (group_further p m)) group (run_from (λ k s. seq_group p s) (suc number) n group.state)
    (event_is_of_group p m none slots ∙ ap (λ (k : ℕ). event_of k m.state.place group) count) group.end
    (λ e is. events_ended n p (group_further p m) e (next.end ∙ is))
    (λ goes. subst (λ (s : State). events_further n p (group_further p m) ≡ (run_from (λ k t. seq_group p t) (suc number) n s).events)
    next.state
    (rest_events n (suc number) p (group_further p m) program next.under_way (next.end ∙ goes) next.slots (omega (arith, next.groups))))

-- The frame changes of n groups further, from between two groups, are those of the run of n groups.
rest_frames : (n number : ℕ) (p : Program) (m : Progress) → IsProgram p → IsUnderWay p m → m.end ≡ None → m.slots ≡ 0
    → frames_further n p m ≡ (run_from (λ k s. seq_group p s) number n m.state).frames
rest_frames zero number p m program u none slots = refl
rest_frames (suc n) number p m program u none slots =
    let next = next_group p m program u none slots in
    let group = seq_group p m.state in
    goes_further m.end (group_frames p m ++ frames_further n p (group_further p m)) none
    ∙ run_frames_by (group_frames p m) (frames_further n p (group_further p m)) group (event_of number m.state.place group)
    (run_from (λ k s. seq_group p s) (suc number) n group.state)
    (frames_are_of_group p m none) group.end
    (λ e is. frames_ended n p (group_further p m) e (next.end ∙ is))
    (λ goes. subst (λ (s : State). frames_further n p (group_further p m) ≡ (run_from (λ k t. seq_group p t) (suc number) n s).frames)
    next.state
    (rest_frames n (suc number) p (group_further p m) program next.under_way (next.end ∙ goes) next.slots))

pub events_are_of_run : (n : ℕ) (p : Program) (s : State) → IsProgram p → IsPlaceOf p.bundles s.place
    → events_further n p (begun s) ≡ (seq_run p n s).events
events_are_of_run n p s program is = rest_events n 1 p (begun s) program (begun_under_way p s is) refl refl (omega arith)

pub frames_are_of_run : (n : ℕ) (p : Program) (s : State) → IsProgram p → IsPlaceOf p.bundles s.place
    → frames_further n p (begun s) ≡ (seq_run p n s).frames
frames_are_of_run n p s program is = rest_frames n 1 p (begun s) program (begun_under_way p s is) refl refl
