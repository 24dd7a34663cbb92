-- The walk of a run, and what is known on it.
use Rattle.std.proofs.Common.{◌≡◌, ℕ, zero, suc, ◌+◌, ◌⊎◌, inl, inr, Bool, true, false, if◌then◌else◌, List, [], Option, Some, None, refl, sym, ap, ◌∙◌, subst, arith}
use Rattle.std.specs.Prelude.{IsSomeAnd, MatchOption}
use Rattle.ia_insn.specs.declared.insn.Insn.{Insn}
use Rattle.ia_program.specs.declared.limits.TheConstants.{RUN_LIMIT}
use Rattle.ia_program.specs.declared.ending.End.{End}
use Rattle.ia_program.specs.declared.ending.How.{How}
use Rattle.ia_program.specs.declared.ending.How.TheVariants as how
use Rattle.ia_program.specs.declared.place.Place.{Place}
use Rattle.ia_program.specs.Places.{insn_at}
use Rattle.ia_program.specs.Programs.{Program, IsProgram}
use Rattle.ia_meaning.specs.declared.action.Action.{Action}
use Rattle.ia_meaning.specs.declared.action.Action.TheVariants.{JumpIndirect, Call, Return}
use Rattle.ia_meaning.specs.declared.action.CallTarget.TheVariants.{Indirect}
use Rattle.ia_meaning.specs.declared.next.Next.{Next}
use Rattle.ia_meaning.specs.declared.next.Next.TheVariants as next
use Rattle.ia_meaning.specs.State.{Registers, State, IsState, IsStart}
use Rattle.ia_meaning.specs.Outcomes.{Outcome}
use Rattle.ia_meaning.specs.Actions.{insn_action, is_indirect}
use Rattle.ia_meaning.specs.Sequence.{first_of, is_stopped}
use Rattle.ia_meaning.specs.Steps.{Step, outcome_of, how_falling, step_by, step_of, seq_step, Group, group_by, group_within, seq_group, event_of, Run, run_by, run_from}
use Rattle.ia_meaning.proofs.WholeRuns.{step_goes_on}
use Rattle.predicate_rel.specs.declared.edge.Edge.TheVariants.{Taken}
use Rattle.predicate_rel.specs.Pairs.{FactRows, Pairs, pairs_of, IsSubset}
use Rattle.predicate_rel.specs.Truth.{AreNeverBothOne}
use Rattle.predicate_rel.specs.Edges.{displacement_of, target_at, edge_of, edge_end, HasEdge, pairs_past}
use Rattle.flow_facts.specs.Walks.{Walk, begins, goes_on, end_of, facts_on, earlier_in_group, Known, known_at, NoWalk, IsMeet, IsSolution}
use Rattle.predicate_rel.specs.Steps.{edge_by, IsIndirect, FollowsEdge, LandsOnEntry}
use Rattle.order_laws.specs.Traces.{is_landing, walk_after, Trace, trace_begun, trace_by, trace_unless, trace_on, trace_further, traced, IsKnown, KnownOnRuns, StepsKnown, group_after, WalksGroup, RunIsTraced, RunsKeepState, RunsAreKnown, IsTrueAt, SolutionIsTrue}
use Rattle.state_laws.proofs.StateKept.{keeps_state}
use Rattle.ia_meaning.proofs.StepHere.{step_here, insn_here}
use Rattle.predicate_rel.proofs.StepEdges.{goes_along}
use Rattle.predicate_rel.proofs.StepTruth.{keeps_apart}
use Rattle.order_laws.proofs.Promised.{promised_apart}

-- An indirect branch has no taken edge.
no_target : (f : Action) (bundle : ℕ) (to : Place) → is_indirect f ≡ true → target_at bundle (displacement_of f) ≡ Some to → ⊥
no_target (JumpIndirect b2) bundle to h e = cc
no_target (Call b1 (Indirect b2)) bundle to h e = cc
no_target (Return b2) bundle to h e = cc
no_target f bundle to h e = cc

-- A step that lands follows no edge.
landed : (p : Program) (from to : Place) (o : Option Insn) (h : Option How) → insn_at p.bundles from ≡ o → is_landing o h ≡ true
    → HasEdge p from (edge_by h) to → ⊥
unfolding edge_end
landed p from to None h here l edge = cc
landed p from to (Some insn) None here l edge = cc
landed p from to (Some insn) (Some how.Falls) here l edge = cc
landed p from to (Some insn) (Some how.Ends) here l edge = cc
landed p from to (Some insn) (Some how.Taken) here l edge =
    let leads : edge_of p.bundles from (Some insn) Taken ≡ Some to =
    sym (ap (λ (o : Option Insn). edge_of p.bundles from o Taken) here) ∙ edge.leads in
    no_target (insn_action insn) from.bundle to l leads

-- One that lands on an entry is found to land.
lands_by : (o : Option Insn) (h : Option How) → IsSomeAnd o IsIndirect → h ≡ Some how.Taken → is_landing o h ≡ true
lands_by None h i e = absurd i
lands_by (Some insn) h i e = rw e i

same_place : (p : Place) → p.slot ≡ 0 → first_of p.bundle ≡ p
same_place p e = rw e

module _ (p : Program) (s : State) (w : Walk) (program : IsProgram p) (known : IsKnown p s w) (goes : (seq_step p s).end ≡ None) where
  along : FollowsEdge p s → IsKnown p (seq_step p s).state (goes_on w (edge_by (seq_step p s).how) (seq_step p s).state.place)
  along edge =
      let at : end_of w ≡ s.place = known.ends.ends in
      record {
        state = keeps_state p s program known.state;
        ends = record {
          walks =
              (known.ends.walks, subst (λ (q : Place). HasEdge p q (edge_by (seq_step p s).how) (seq_step p s).state.place) (sym at) edge);
          ends = refl;
        };
        apart =
            subst (λ (q : Place). AreNeverBothOne (pairs_past p q (edge_by (seq_step p s).how) (facts_on p w))
            (seq_step p s).state.registers) (sym at)
            (keeps_apart p s (facts_on p w) program known.state goes edge known.apart);
      }

  anew : IsStart p (seq_step p s).state → IsKnown p (seq_step p s).state (begins (seq_step p s).state.place.bundle)
  anew start = record {
    state = start.state;
    ends = record { walks = start.entry; ends = same_place (seq_step p s).state.place start.slot };
    apart = promised_apart p (seq_step p s).state.registers (seq_step p s).state.place.bundle program start.promised;
  }

  step_known : IsKnown p (seq_step p s).state (walk_after p s w (seq_step p s))
  step_known = of (is_landing (insn_at p.bundles s.place) (seq_step p s).how) refl (goes_along keeps_state p s program known.state goes)
    where
      of : (b : Bool) → is_landing (insn_at p.bundles s.place) (seq_step p s).how ≡ b → FollowsEdge p s ⊎ LandsOnEntry p s
          → IsKnown p (seq_step p s).state (if b then begins (seq_step p s).state.place.bundle else goes_on w (edge_by (seq_step p s).how)
          (seq_step p s).state.place)
      of true l (inl edge) = absurd (landed p s.place (seq_step p s).state.place (insn_at p.bundles s.place) (seq_step p s).how refl l edge)
      of true l (inr lands) = anew lands.start
      of false l (inl edge) = along edge
      of false l (inr lands) = let t = lands_by (insn_at p.bundles s.place) (seq_step p s).how lands.indirect lands.taken in absurd (cc)

pub steps_known : StepsKnown
steps_known p s w program known goes = step_known p s w program known goes

-- A step that ends the run leaves its state.
ended_by : (p : Program) (s : State) (o : Outcome) (way : Next) (e : End) → (step_by p s o way).end ≡ Some e → (step_by p s o way).state ≡ s
ended_by p s o next.Falls e h = absurd (cc)
ended_by p s o (next.Goes bundle) e h = absurd (cc)
ended_by p s o (next.Breaks imm) e h = refl
ended_by p s o (next.Faults kind) e h = refl

ended_stays : (p : Program) (s : State) (e : End) → (seq_step p s).end ≡ Some e → (seq_step p s).state ≡ s
unfolding seq_step
ended_stays p s e h = of (insn_at p.bundles s.place) h
  where
    of : (o : Option Insn) → (step_of p s o).end ≡ Some e → (step_of p s o).state ≡ s
    of None h = refl
    of (Some insn) h = ended_by p s (outcome_of p s insn) (outcome_of p s insn).next e h

-- What holds of a trace.
abbrev IsTraceKnown : Program → Trace → Type 0
IsTraceKnown p t = IsKnown p t.state t.walk

trace_known : (p : Program) (t : Trace) → IsProgram p → IsTraceKnown p t → IsTraceKnown p (trace_on p t)
unfolding trace_on
trace_known p t program known = of t.end
  where
    by_end : (e : Option End) → (seq_step p t.state).end ≡ e → IsTraceKnown p (trace_by p t (seq_step p t.state) e)
    by_end None is = steps_known p t.state t.walk program known is
    by_end (Some e) is = subst (λ (x : State). IsKnown p x t.walk) (sym (ended_stays p t.state e is)) known

    of : (e : Option End) → IsTraceKnown p (trace_unless e p t)
    of None = by_end (seq_step p t.state).end refl
    of (Some e) = known

traces_known : (n : ℕ) (p : Program) (t : Trace) → IsProgram p → IsTraceKnown p t → IsTraceKnown p (trace_further n p t)
traces_known zero p t program known = known
traces_known (suc n) p t program known = traces_known n p (trace_on p t) program (trace_known p t program known)

start_known : (p : Program) (s : State) → IsProgram p → IsStart p s → IsTraceKnown p (trace_begun s)
start_known p s program start = record {
  state = start.state;
  ends = record { walks = start.entry; ends = same_place s.place start.slot };
  apart = promised_apart p s.registers s.place.bundle program start.promised;
}

pub known_on_runs : KnownOnRuns
known_on_runs n p s program start = traces_known n p (trace_begun s) program (start_known p s program start)

-- The group of a walk after a step.
fallen_group : (p : Program) (w : Walk) (place to : Place) (stopped : Bool) → end_of w ≡ place → is_stopped p.bundles place ≡ stopped
    → earlier_in_group p (goes_on w (edge_by (how_falling stopped)) to) ≡ group_after (how_falling stopped) place (earlier_in_group p w)
fallen_group p w place to true at e = let s : is_stopped p.bundles (end_of w) ≡ true = ap (is_stopped p.bundles) at ∙ e in rw s refl
fallen_group p w place to false at e = let s : is_stopped p.bundles (end_of w) ≡ false = ap (is_stopped p.bundles) at ∙ e in rw (s, at) refl

group_by_way : (p : Program) (s : State) (w : Walk) (insn : Insn) (o : Outcome) (way : Next) → end_of w ≡ s.place
    → insn_at p.bundles s.place ≡ Some insn → (step_by p s o way).end ≡ None
    → earlier_in_group p (walk_after p s w (step_by p s o way)) ≡ group_after (step_by p s o way).how s.place (earlier_in_group p w)
group_by_way p s w insn o next.Falls at here goes = rw here (of (is_stopped p.bundles s.place) refl)
  where
    of : (stopped : Bool) → is_stopped p.bundles s.place ≡ stopped
        → earlier_in_group p (if is_landing (Some insn) (how_falling stopped) then begins
        (step_by p s o next.Falls).state.place.bundle else goes_on w (edge_by (how_falling stopped))
        (step_by p s o next.Falls).state.place)
        ≡ group_after (how_falling stopped) s.place (earlier_in_group p w)
    of true e = fallen_group p w s.place (step_by p s o next.Falls).state.place true at e
    of false e = fallen_group p w s.place (step_by p s o next.Falls).state.place false at e
group_by_way p s w insn o (next.Goes bundle) at here goes = of (is_landing (insn_at p.bundles s.place) (Some how.Taken))
  where
    of : (b : Bool) → earlier_in_group p (if b then begins bundle else goes_on w Taken (first_of bundle)) ≡ []
    of true = refl
    of false = refl
group_by_way p s w insn o (next.Breaks imm) at here goes = absurd (cc)
group_by_way p s w insn o (next.Faults kind) at here goes = absurd (cc)

pub walks_group : WalksGroup
walks_group p s w program known goes = of (insn_here p s known.state.place)
  where
    of : (insn : Insn) × (insn_at p.bundles s.place ≡ Some insn) → earlier_in_group p (walk_after p s w (seq_step p s))
        ≡ group_after (seq_step p s).how s.place (earlier_in_group p w)
    of (insn, here) =
        let same = step_here p s insn here in
        subst (λ (x : Step). earlier_in_group p (walk_after p s w x) ≡ group_after x.how s.place (earlier_in_group p w)) (sym same)
        (group_by_way p s w insn (outcome_of p s insn) (outcome_of p s insn).next known.ends.ends here
        (subst (λ (x : Step). x.end ≡ None) same goes))

-- A trace further and further.
further : (a b : ℕ) (p : Program) (t : Trace) → trace_further (a + b) p t ≡ trace_further b p (trace_further a p t)
further zero b p t = ap (λ n. trace_further n p t) (let e : 0 + b ≡ b = omega arith in e)
further (suc a) b p t = ap (λ n. trace_further n p t) (let e : suc a + b ≡ suc (a + b) = omega arith in e) ∙ further a b p (trace_on p t)

-- A trace comes to a state with this end.
record ComesTo (p : Program) (t : Trace) (s : State) (e : Option End) : Type 0 where
  count : ℕ
  state : (trace_further count p t).state ≡ s
  end : (trace_further count p t).end ≡ e

stepped : (p : Program) (t : Trace) → t.end ≡ None → ((trace_on p t).state ≡ (seq_step p t.state).state)
    × ((trace_on p t).end ≡ (seq_step p t.state).end)
unfolding trace_on
stepped p t none = rw none (of (seq_step p t.state).end)
  where
    of : (e : Option End) → ((trace_by p t (seq_step p t.state) e).state ≡ (seq_step p t.state).state)
        × ((trace_by p t (seq_step p t.state) e).end ≡ e)
    of None = (refl, refl)
    of (Some e) = (refl, refl)

comes_later : (p : Program) (t : Trace) (s : State) (e : Option End) → ComesTo p (trace_on p t) s e → ComesTo p t s e
comes_later p t s e c = record { count = suc c.count; state = c.state; end = c.end }

group_comes : (most : ℕ) (p : Program) (t : Trace) → t.end ≡ None
    → ComesTo p t (group_within most p t.state).state (group_within most p t.state).end
group_comes zero p t none = record { count = 0; state = refl; end = none }
group_comes (suc most) p t none = of (seq_step p t.state).how refl (λ goes. group_comes most p (trace_on p t) goes)
  where
    of : (h : Option How) → (seq_step p t.state).how ≡ h
        → ((trace_on p t).end ≡ None → ComesTo p (trace_on p t) (group_within most p (trace_on p t).state).state
        (group_within most p (trace_on p t).state).end)
        → ComesTo p t (group_by p t.state (seq_step p t.state) h (group_within most p (seq_step p t.state).state)).state
        (group_by p t.state (seq_step p t.state) h (group_within most p (seq_step p t.state).state)).end
    of (Some h) is rest = let s = stepped p t none in record { count = 1; state = s.0; end = s.1 }
    of None is rest =
        let s = stepped p t none in
        let c = rest (s.1 ∙ step_goes_on p t.state is) in
        comes_later p t _ _ (subst (λ (x : State). ComesTo p (trace_on p t) (group_within most p x).state (group_within most p x).end) s.0
        c)

abbrev Seq : Program → ℕ → State → Group
Seq p number s = seq_group p s

-- The state of a run.
run_comes : (n number : ℕ) (p : Program) (t : Trace) → t.end ≡ None
    → (k : ℕ) × ((trace_further k p t).state ≡ (run_from (Seq p) number n t.state).state)
run_comes zero number p t none = (0, refl)
run_comes (suc n) number p t none =
    of (seq_group p t.state).end (group_comes RUN_LIMIT p t none) (λ t goes. run_comes n (suc number) p t goes)
  where
    of : (e : Option End) → ComesTo p t (seq_group p t.state).state e
        → ((t : Trace) → t.end ≡ None → (k : ℕ) × ((trace_further k p t).state ≡ (run_from (Seq p) (suc number) n t.state).state))
        → (k : ℕ) × ((trace_further k p t).state ≡ (run_by (seq_group p t.state)
        (event_of number t.state.place (seq_group p t.state)) e
        (run_from (Seq p) (suc number) n (seq_group p t.state).state)).state)
    of (Some e) c rest = (c.count, c.state)
    of None c rest =
        let more = rest (trace_further c.count p t) c.end in
        let same : run_from (Seq p) (suc number) n (trace_further c.count p t).state ≡ run_from (Seq p)
        (suc number) n (seq_group p t.state).state = ap (run_from (Seq p) (suc number) n) c.state in
        (c.count + more.0, ap (λ (x : Trace). x.state) (further c.count more.0 p t) ∙ more.1 ∙ ap (λ (x : Run). x.state) same)

pub run_is_traced : RunIsTraced
run_is_traced n p s = run_comes n 1 p (trace_begun s) refl

-- A state of a run is one of the program.
pub runs_keep_state : RunsKeepState
runs_keep_state n p s program start =
    let k = run_is_traced n p s in
    let known = known_on_runs k.0 p s program start in
    subst (IsState p) k.1 known.state

-- What is known on a walk to a state of a run is true of the state.
pub runs_are_known : RunsAreKnown
runs_are_known n p s program start =
    let k = run_is_traced n p s in
    let t = traced k.0 p s in
    (t.walk, subst (λ x. IsKnown p x t.walk) k.1 (known_on_runs k.0 p s program start))

-- What is true of a larger set is true of a smaller one.
within_apart : (f g : Pairs) (r : Registers) → IsSubset f g → AreNeverBothOne g r → AreNeverBothOne f r
within_apart f g r w a = record { apart = λ x y m h k. a.apart x y (w.each x y m) h k }

true_at : (p : Program) (table : List Known) (s : State) (w : Walk) → IsSolution p table → IsKnown p s w → IsTrueAt table s
true_at p table s w solution known = of (known_at table s.place) refl (solution s.place)
  where
    of : (o : Option FactRows) → known_at table s.place ≡ o → MatchOption o (NoWalk p s.place) (λ rows. IsMeet p s.place (pairs_of rows))
        → IsTrueAt table s
    of None e none = absurd (none w known.ends)
    of (Some rows) e meet =
        record {
          rows = rows;
          known = e;
          apart = within_apart (pairs_of rows)
              (facts_on p w) s.registers (meet.sound w known.ends) known.apart;
        }

pub solution_is_true : SolutionIsTrue
solution_is_true n p s table program start solution =
    true_at p table (traced n p s).state (traced n p s).walk solution (known_on_runs n p s program start)
