-- Runs under way come to where whole runs leave off.
use Rattle.std.proofs.Common.{◌≡◌, ℕ, zero, suc, ◌+◌, Bool, true, false, List, [], ◌∷◌, ◌++◌, length, Option, Some, None, refl, sym, ap, ◌∙◌, subst, add-one, arith, if◌then◌else◌, ◌-◌}
use Rattle.std.proofs.lemmas.Bool.Decides.{nat_tests}
use Rattle.std.specs.Prelude.{◌==◌}
use Rattle.ia_insn.specs.declared.insn.Insn.{Insn}
use Rattle.ia_program.specs.declared.limits.TheConstants.{RUN_LIMIT}
use Rattle.ia_program.specs.declared.ending.End.{End}
use Rattle.ia_program.specs.declared.ending.How.{How}
use Rattle.ia_program.specs.declared.ending.GroupEvent.{GroupEvent}
use Rattle.ia_program.specs.Places.{insn_at, IsPlaceOf}
use Rattle.ia_program.specs.Programs.{Program, IsProgram}
use Rattle.ia_meaning.specs.declared.next.Next.{Next}
use Rattle.ia_meaning.specs.declared.state.Rse.{Rse}
use Rattle.ia_meaning.specs.State.{State}
use Rattle.ia_meaning.specs.Outcomes.{Outcome}
use Rattle.ia_meaning.specs.ResidentRange.{range_after, range_of}
use Rattle.ia_meaning.specs.Steps.{Step, step_by, step_of, seq_step, outcome_of, Group, and_then, group_by, group_within, seq_group, event_of, Run, run_by, run_from, seq_run}
use Rattle.ia_meaning.specs.Progress.{Progress, begun, opened, slots_after, stepped, advanced, rest_by, to_group_end, group_further, groups_further, end_of}
use Rattle.ia_meaning.specs.Runs.{IsUnderWay, HasRun, run_text, progress_text}
use Rattle.ia_meaning.proofs.GroupEnds.{begun_under_way, group_under_way, group_comes_to_end, groups_ended}

-- The range after frame changes and more of them.
pub range_appended : (r : Rse) (changes more : List (ℕ × ℕ)) → range_of (range_of r changes) more ≡ range_of r (changes ++ more)
range_appended r [] more = refl
range_appended r (change ∷ changes) more = range_appended (range_after r change) changes more

pub opened_between : (m : Progress) → m.slots ≡ 0 → opened m ≡ record m { groups = m.groups + 1; first = m.state.place }
opened_between m e = rw e refl

pub opened_within : (m : Progress) (k : ℕ) → m.slots ≡ suc k → opened m ≡ m
opened_within m k e = of (m.slots == 0) refl
  where
    of : (b : Bool) → (m.slots == 0) ≡ b → (if b then record m { groups = m.groups + 1; first = m.state.place } else m) ≡ m
    of false f = refl
    of true f = absurd (grind (arith, nat_tests))

pub advanced_is : (p : Program) (m : Progress) → m.end ≡ None → advanced p m ≡ stepped (opened m) (seq_step p m.state)
unfolding advanced
advanced_is p m none = rw none refl

ends_no_run : (p : Program) (s : State) (o : Outcome) (way : Next) → (step_by p s o way).how ≡ None → (step_by p s o way).end ≡ None
ends_no_run p s o way e = grind arith

-- A step that ends no group ends no run.
pub step_goes_on : (p : Program) (s : State) → (seq_step p s).how ≡ None → (seq_step p s).end ≡ None
unfolding seq_step
step_goes_on p s = of (insn_at p.bundles s.place)
  where
    of : (i : Option Insn) → (step_of p s i).how ≡ None → (step_of p s i).end ≡ None
    of None e = refl
    of (Some insn) e = ends_no_run p s (outcome_of p s insn) (outcome_of p s insn).next e

rest_more : (k : ℕ) (next rest : Progress) → rest_by (k + 1) next rest ≡ rest
rest_more k next rest = rw add-one refl

-- A run under way has come from within a group to its end.
pub record HasGroup (m after : Progress) (group : Group) : Type 0 where
  pub state : after.state ≡ group.state
  pub end : after.end ≡ group.end
  pub groups : after.groups ≡ m.groups
  pub range : after.range ≡ range_of m.range group.frames

-- What a lemma says of a group under way and a bound on its slots.
abbrev pub ComesToEnd : ℕ → Program → Type 0
ComesToEnd most p =
    (m : Progress) → m.end ≡ None → (k : ℕ) → m.slots ≡ suc k → HasGroup m (to_group_end most p m) (group_within most p m.state)

step_group : (p : Program) (s : State) (m : Progress) (step : Step) (after : Progress) (rest : Group) (h : Option How)
    → (h ≡ None → HasGroup (stepped m step) after rest) → HasGroup m (rest_by (slots_after m.slots h) (stepped m step) after)
    (group_by p s step h rest)
step_group p s m step after rest (Some how) has = record { state = refl; end = refl; groups = refl; range = refl }
step_group p s m step after rest None has =
    let h = has refl in
    subst (λ (x : Progress). HasGroup m x (and_then step rest)) (sym (rest_more m.slots (stepped m step) after))
    (record { state = h.state; end = h.end; groups = h.groups; range = h.range ∙ range_appended m.range step.frames rest.frames })

pub after_step : (k : ℕ) (h : Option How) → h ≡ None → slots_after k h ≡ suc k
after_step k h e = rw e (omega arith)

stepped_comes_to_end : (most : ℕ) (p : Program) (m : Progress) (s : State) → ComesToEnd most p
    → HasGroup m (rest_by (stepped m (seq_step p s)).slots (stepped m (seq_step p s)) (to_group_end most p (stepped m (seq_step p s))))
    (group_within (suc most) p s)
stepped_comes_to_end most p m s comes =
    step_group p s m (seq_step p s) (to_group_end most p (stepped m (seq_step p s))) (group_within most p (seq_step p s).state)
    (seq_step p s).how
    (λ e. comes (stepped m (seq_step p s)) (step_goes_on p s e) m.slots (after_step m.slots (seq_step p s).how e))

-- One slot more at the front.
next_comes_to_end : (most : ℕ) (p : Program) (m : Progress) → m.end ≡ None → ComesToEnd most p
    → HasGroup (opened m) (to_group_end (suc most) p m) (group_within (suc most) p m.state)
next_comes_to_end most p m none comes =
    subst (λ (a : Progress). HasGroup (opened m) (rest_by a.slots a (to_group_end most p a)) (group_within (suc most) p m.state))
    (sym (advanced_is p m none))
    (stepped_comes_to_end most p (opened m) m.state comes)

comes_to_end : (most : ℕ) (p : Program) → ComesToEnd most p
comes_to_end zero p = λ m none k e. record { state = refl; end = none; groups = refl; range = refl }
comes_to_end (suc most) p = λ m none k e.
    subst (λ (o : Progress). HasGroup o (to_group_end (suc most) p m) (group_within (suc most) p m.state)) (opened_within m k e)
    (next_comes_to_end most p m none (comes_to_end most p))

-- One group further is the group.
pub group_is : (p : Program) (m : Progress) → m.end ≡ None → HasGroup (opened m) (group_further p m) (seq_group p m.state)
unfolding group_further
group_is p m none = next_comes_to_end (RUN_LIMIT - 1) p m none (comes_to_end (RUN_LIMIT - 1) p)

-- A run under way has come from between two groups to where a run leaves off.
pub record HasRest (m after : Progress) (run : Run) : Type 0 where
  pub state : after.state ≡ run.state
  pub end : end_of after ≡ run.end
  pub groups : after.groups ≡ m.groups + length run.events
  pub range : after.range ≡ range_of m.range run.frames

ends_at : (m : Progress) (e : End) → m.end ≡ Some e → end_of m ≡ e
ends_at m e is = rw is refl

-- The first group of a run, and the rest.
run_step : (m next after : Progress) (group : Group) (event : GroupEvent) (rest : Run)
    → HasGroup (record m { groups = m.groups + 1; first = m.state.place }) next group → ((e : End) → next.end ≡ Some e → after ≡ next)
    → (next.end ≡ None → HasRest next after rest) → (e : Option End) → group.end ≡ e → HasRest m after (run_by group event e rest)
run_step m next after group event rest has ended goes (Some e) is =
    let at : next.end ≡ Some e = has.end ∙ is in
    subst (λ (x : Progress). HasRest m x (run_by group event (Some e) rest)) (sym (ended e at))
    (record { state = has.state; end = ends_at next e at; groups = has.groups; range = has.range })
run_step m next after group event rest has ended goes None is =
    let h = goes (has.end ∙ is) in
    record {
      state = h.state;
      end = h.end;
      groups = omega (arith, h.groups, has.groups);
      range = h.range ∙ ap (λ (r : Rse). range_of r rest.frames) has.range ∙ range_appended m.range group.frames rest.frames;
    }

-- Going n groups further, from between two groups, comes to the run of n groups.
pub rest_is : (n number : ℕ) (p : Program) (m : Progress) → IsProgram p → IsUnderWay p m → m.end ≡ None → m.slots ≡ 0
    → HasRest m (groups_further n p m) (run_from (λ k s. seq_group p s) number n m.state)
rest_is zero number p m program u none slots = record { state = refl; end = rw none refl; groups = omega arith; range = refl }
rest_is (suc n) number p m program u none slots =
    let has = subst (λ (o : Progress). HasGroup o (group_further p m) (seq_group p m.state)) (opened_between m slots) (group_is p m none) in
    run_step m (group_further p m) (groups_further n p (group_further p m)) (seq_group p m.state)
    (event_of number m.state.place (seq_group p m.state)) (run_from (λ k s. seq_group p s) (suc number) n (seq_group p m.state).state)
    has (groups_ended n p (group_further p m))
    (λ goes. subst (λ (s : State). HasRest (group_further p m) (groups_further n p (group_further p m))
    (run_from (λ k t. seq_group p t) (suc number) n s)) has.state
    (rest_is n (suc number) p (group_further p m) program (group_under_way p m program u) goes (group_comes_to_end p m program u none)))
    (seq_group p m.state).end refl

pub progress_is_run : (n : ℕ) (p : Program) (s : State) → IsProgram p → IsPlaceOf p.bundles s.place
    → HasRun (groups_further n p (begun s)) (seq_run p n s)
progress_is_run n p s program is =
    let h = rest_is n 1 p (begun s) program (begun_under_way p s is) refl refl in
    record { state = h.state; end = h.end; groups = omega (arith, h.groups); range = h.range }

same_text : (m : Progress) (run : Run) → HasRun m run → progress_text m ≡ run_text run
same_text m run h = let e = h.state in let f = h.end in let g = h.groups in let k = h.range in cc

pub progress_text_is_run_text : (n : ℕ) (p : Program) (s : State) → IsProgram p → IsPlaceOf p.bundles s.place
    → progress_text (groups_further n p (begun s)) ≡ run_text (seq_run p n s)
progress_text_is_run_text n p s program is =
    same_text (groups_further n p (begun s)) (seq_run p n s) (progress_is_run n p s program is)
