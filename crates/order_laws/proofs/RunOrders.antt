-- A program without violations leaves the same in all orders, for any number of groups.
use Rattle.std.proofs.Common.{◌≡◌, ℕ, zero, suc, List, Option, Some, None, refl, ◌∙◌, ap, ◌-◌}
use Rattle.ia_program.specs.declared.limits.TheConstants.{RUN_LIMIT}
use Rattle.ia_program.specs.declared.ending.End.{End}
use Rattle.ia_program.specs.declared.ending.How.{How}
use Rattle.ia_program.specs.Programs.{Program, IsProgram}
use Rattle.ia_meaning.specs.State.{State}
use Rattle.ia_meaning.specs.Steps.{seq_step, Group, group_by, group_within, seq_group, seq_run, event_of, run_by, run_from}
use Rattle.ia_meaning.proofs.WholeRuns.{step_goes_on}
use Rattle.flow_facts.specs.Walks.{Walk, begins}
use Rattle.order_laws.specs.Violations.{HasNoViolation}
use Rattle.order_laws.specs.Traces.{walk_after, IsKnown}
use Rattle.order_laws.proofs.Walked.{steps_known, known_on_runs, runs_are_known}
use Rattle.ia_meaning.specs.ParallelGroups.{par_group, code_of}
use Rattle.ia_meaning.specs.OrderIndependence.{IsOrderIndependent}
use Rattle.order_laws.specs.OrderLaws.{GroupIsOrdered, NextGroupIsOrdered, FreeIsOrderIndependent}
use Rattle.order_laws.proofs.FirstSlots.{whole}

pub group_ordered : GroupIsOrdered
group_ordered p code s w program free known = whole p program free code (RUN_LIMIT - 1) s w known

-- The next group of a run leaves the same in all orders.
pub next_group_ordered : NextGroupIsOrdered
next_group_ordered n p code s program free start =
    let k = runs_are_known n p s program start in group_ordered p code (seq_run p n s).state k.0 program free k.1

-- A walk to a state on which what is known is true.
abbrev Reached : Program → State → Type 0
Reached p s = (w : Walk) × IsKnown p s w

-- A group that doesn't end the run leaves such a state.
group_reached : (most : ℕ) (p : Program) (s : State) (w : Walk) → IsProgram p → IsKnown p s w → (group_within most p s).end ≡ None
    → Reached p (group_within most p s).state
group_reached zero p s w program known e = (w, known)
group_reached (suc most) p s w program known e =
    go (seq_step p s).how refl (λ k. group_reached most p (seq_step p s).state (walk_after p s w (seq_step p s)) program k) e
  where
    go : (h : Option How) → (seq_step p s).how ≡ h
        → (IsKnown p (seq_step p s).state (walk_after p s w (seq_step p s)) → (group_within most p (seq_step p s).state).end ≡ None
        → Reached p (group_within most p (seq_step p s).state).state)
        → (group_by p s (seq_step p s) h (group_within most p (seq_step p s).state)).end ≡ None
        → Reached p (group_by p s (seq_step p s) h (group_within most p (seq_step p s).state)).state
    go (Some h) is again e = (walk_after p s w (seq_step p s), steps_known p s w program known e)
    go None is again e = again (steps_known p s w program known (step_goes_on p s is)) e

-- A group of the run in the order of its code, and slot by slot.
abbrev Par : Program → List (List ℕ) → ℕ → State → Group
Par p codes number s = par_group p (code_of codes number) s

abbrev Seq : Program → ℕ → State → Group
Seq p number s = seq_group p s

runs_ordered : (n number : ℕ) (p : Program) (codes : List (List ℕ)) (s : State) (w : Walk) → IsProgram p → HasNoViolation p → IsKnown p s w
    → run_from (Par p codes) number n s ≡ run_from (Seq p) number n s
runs_ordered zero number p codes s w program free known = refl
runs_ordered (suc n) number p codes s w program free known =
    ap (λ (x : Group). run_by x (event_of number s.place x) x.end (run_from (Par p codes) (suc number) n x.state))
    (group_ordered p (code_of codes number) s w program free known)
    ∙ go (seq_group p s).end (group_reached RUN_LIMIT p s w program known)
    (λ x k. runs_ordered n (suc number) p codes (seq_group p s).state x program free k)
  where
    go : (e : Option End) → (e ≡ None → Reached p (seq_group p s).state)
        → ((x : Walk) → IsKnown p (seq_group p s).state x → run_from (Par p codes) (suc number) n (seq_group p s).state ≡ run_from (Seq p)
        (suc number) n (seq_group p s).state)
        → run_by (seq_group p s) (event_of number s.place (seq_group p s)) e (run_from (Par p codes) (suc number) n (seq_group p s).state)
        ≡ run_by (seq_group p s) (event_of number s.place (seq_group p s)) e (run_from (Seq p) (suc number) n (seq_group p s).state)
    go (Some e) reached again = refl
    go None reached again =
        let r = reached refl in
        ap (run_by (seq_group p s) (event_of number s.place (seq_group p s)) None) (again r.0 r.1)

pub free_order_independent : FreeIsOrderIndependent
free_order_independent p program free n codes s start =
    runs_ordered n 1 p codes s (begins s.place.bundle) program free (known_on_runs 0 p s program start)
