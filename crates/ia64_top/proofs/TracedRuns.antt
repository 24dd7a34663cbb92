-- A run that is told group by group.
use Rattle.std.proofs.Common.{◌≡◌, ℕ, zero, suc, ◌+◌, ◌-◌, ◌^◌, ◌<◌, ◌≤◌, ◌⊎◌, inl, inr, List, [], ◌∷◌, ◌++◌, flat_map, Option, Some, None, refl, sym, ap, ◌∙◌, subst, arith}
use Rattle.std.proofs.lemmas.List.{append_assoc, append-nil}
use Rattle.std.proofs.Math.Seq.{drop-append_seam}
use Rattle.ia_program.specs.declared.ending.End.{End}
use Rattle.ia_program.specs.declared.ending.GroupEvent.{GroupEvent}
use Rattle.ia_program.specs.Programs.{Program, IsProgram}
use Rattle.ia_meaning.specs.State.{zero_state}
use Rattle.ia_meaning.specs.Steps.{Run}
use Rattle.ia_meaning.specs.StateText.{state_text}
use Rattle.ia_meaning.specs.Progress.{Progress, begun, group_further, groups_further, end_of}
use Rattle.ia_meaning.specs.Runs.{ProgressIsRun, EventsAreOfRun, event_further, events_further, run_text}
use Rattle.ia_meaning.proofs.GroupEnds.{zero_is_place, group_ended, groups_ended}
use Rattle.emulator.specs.Execution.{Execution}
use Rattle.emulator.proofs.Groups.{over_groups, no_further}
use Rattle.watch_seam.specs.Watchers.{line, event_text}
use Rattle.ia64_top.specs.Runs.{run_of, further_events, traced_groups, trace_text}
use Rattle.ia64_top.proofs.Running.{text_of_progress}
use Rattle.ia64_top.proofs.WatchedRuns.{one_group}

-- A run that is n + 1 groups further is one group further than after n.
one_more : (n : ℕ) (p : Program) (m : Progress) → groups_further (suc n) p m ≡ group_further p (groups_further n p m)
one_more zero p m = refl
one_more (suc n) p m = one_more n p (group_further p m)

-- A run that is n groups further, and then m, is n + m groups further.
add_up : (n more : ℕ) (p : Program) (m : Progress) → groups_further more p (groups_further n p m) ≡ groups_further (n + more) p m
add_up zero more p m = let none : 0 + more ≡ more = omega arith in rw none refl
add_up (suc n) more p m = let one : suc n + more ≡ suc (n + more) = omega arith in rw one (add_up n more p (group_further p m))

-- Of a run that goes on the events are that of the next group and then the others; of one that has ended there are none.
opens : (n : ℕ) (p : Program) (m : Progress) → m.end ≡ None → events_further (suc n) p m
    ≡ event_further p m ∷ events_further n p (group_further p m)
opens n p m running = rw running refl

none_opens : (n : ℕ) (p : Program) (m : Progress) (e : End) → m.end ≡ Some e → events_further (suc n) p m ≡ []
none_opens n p m e is = rw is refl

-- The events of n + 1 groups are those of n, and then that of the next one.
one_event_more : (n : ℕ) (p : Program) (m : Progress) → events_further (suc n) p m
    ≡ events_further n p m ++ events_further 1 p (groups_further n p m)
one_event_more n p m = by_end m.end n m refl
  where
    by_end : (e : Option End) (n : ℕ) (m : Progress) → m.end ≡ e → events_further (suc n) p m
        ≡ events_further n p m ++ events_further 1 p (groups_further n p m)
    by_end e zero m is = refl
    by_end (Some e) (suc n) m is = rw (groups_ended (suc n) p m e is, is) refl
    by_end None (suc n) m is =
        opens (suc n) p m is
        ∙ ap (λ es. event_further p m ∷ es) (by_end (group_further p m).end n (group_further p m) refl)
        ∙ ap (λ es. es ++ events_further 1 p (groups_further (suc n) p m)) (sym (opens n p m is))

-- What is printed of the state of a run under way.
abbrev pub told : Progress → List ℕ
told m = state_text (end_of m) m.groups m.range m.state

-- What is printed of at most n groups of a run under way.
abbrev group_told : List GroupEvent → Progress → List ℕ
group_told events m = flat_map (λ event. line (event_text event) ++ told m) events

abbrev pub groups_told : ℕ → Program → Progress → List ℕ
groups_told zero p m = []
groups_told (suc n) p m = group_told (events_further 1 p m) (group_further p m) ++ groups_told n p (group_further p m)

-- After an end there is none.
none_told : (n : ℕ) (p : Program) (m : Progress) (e : End) → m.end ≡ Some e → groups_told n p m ≡ []
none_told zero p m e is = refl
none_told (suc n) p m e is =
    ap (λ es. group_told es (group_further p m) ++ groups_told n p (group_further p m)) (none_opens 0 p m e is)
    ∙ ap (groups_told n p) (group_ended p m e is)
    ∙ none_told n p m e is

-- What is printed of a run under way is what is printed of the whole runs.
same_group : (es : List GroupEvent) (m : Progress) (run : Run) → told m ≡ run_text run
    → group_told es m ≡ flat_map (λ event. line (event_text event) ++ run_text run) es
same_group es m run same = ap (λ text. flat_map (λ event. line (event_text event) ++ text) es) same

further_is : EventsAreOfRun → (k : ℕ) (p : Program) → IsProgram p
    → further_events (run_of p) k ≡ events_further 1 p (groups_further k p (begun (zero_state p)))
further_is events k p program =
    let now : (run_of p k).events ≡ events_further k p (begun (zero_state p)) =
    sym (events k p (zero_state p) program (zero_is_place p program)) in
    let next : (run_of p (suc k)).events ≡ events_further (suc k) p (begun (zero_state p)) =
    sym (events (suc k) p (zero_state p) program (zero_is_place p program)) in
    rw (now, next, one_event_more k p (begun (zero_state p))) (drop-append_seam (events_further k p (begun (zero_state p)))
    (events_further 1 p (groups_further k p (begun (zero_state p)))))

state_told : ProgressIsRun → (k : ℕ) (p : Program) → IsProgram p → told (groups_further k p (begun (zero_state p))) ≡ run_text (run_of p k)
state_told run k p program = text_of_progress run k p (groups_further k p (begun (zero_state p))) _ program refl refl

groups_are_told : ProgressIsRun → EventsAreOfRun → (more k : ℕ) (p : Program) → IsProgram p
    → groups_told more p (groups_further k p (begun (zero_state p))) ≡ traced_groups (run_of p) k more
groups_are_told run events zero k p program = refl
groups_are_told run events (suc more) k p program =
    let next = one_more k p (begun (zero_state p)) in
    rw (sym next, further_is events k p program, sym (groups_are_told run events more (suc k) p program))
    (ap (λ text. text ++ groups_told more p (groups_further (suc k) p (begun (zero_state p))))
    (same_group (events_further 1 p (groups_further k p (begun (zero_state p)))) (groups_further (suc k) p (begun (zero_state p)))
    (run_of p (suc k)) (state_told run (suc k) p program)))

-- The machine has n groups left, and this is the text that it is to print.
pub record IsTraced (p : Program) (groups : ℕ) (text : List ℕ) (now : Execution) (left : ℕ) (bytes : List ℕ) : Type 0 where
  pub program : now.program ≡ p
  pub few : now.progress.groups + left < 2 ^ 64
  pub rest : groups_further left p now.progress ≡ groups_further groups p (begun (zero_state p))
  pub printed : bytes ++ groups_told left p now.progress ≡ text

-- In n groups at most n more have begun.
few_groups : (n : ℕ) (p : Program) (m : Progress) → (groups_further n p m).groups ≤ m.groups + n
few_groups zero p m = omega arith
few_groups (suc n) p m =
    let more = one_group p m in let rest = few_groups n p (group_further p m) in omega (arith, more, rest)

-- The machine of a program behind its first groups.
abbrev pub machine_after : ℕ → Program → Execution
machine_after first p = record { program = p; progress = groups_further first p (begun (zero_state p)) }

pub starts : (p : Program) (first : ℕ) (opened now : Execution) → opened ≡ machine_after 0 p
    → (now ≡ record opened { progress = groups_further first opened.program opened.progress }) ⊎ ((first ≡ 0) × (now ≡ opened))
    → now ≡ machine_after first p
starts p first opened now is (inl ran) = ran ∙ ap (λ (m : Execution). record m { progress = groups_further first m.program m.progress }) is
starts p first opened now is (inr none) = rw none.0 (none.1 ∙ is)

pub begins : ProgressIsRun → EventsAreOfRun → (p : Program) (first count : ℕ) (m : Execution) (bytes : List ℕ) → IsProgram p
    → m ≡ machine_after first p → first + count < 2 ^ 64 → bytes ≡ told m.progress
    → IsTraced p (first + count) (trace_text first count (run_of p) (first + count)) m count bytes
begins run events p first count m bytes program is few printed =
    let came : m.progress ≡ groups_further first p (begun (zero_state p)) = ap (λ (x : Execution). x.progress) is in
    let began : m.progress.groups ≤ 0 + first =
    subst (λ (x : Progress). x.groups ≤ 0 + first) (sym came) (few_groups first p (begun (zero_state p))) in
    record {
      program = ap (λ (x : Execution). x.program) is;
      few = omega (arith, began, few);
      rest = ap (groups_further count p) came ∙ add_up first count p (begun (zero_state p));
      printed = rw (printed, came, state_told run first p program, groups_are_told run events count first p program) refl;
    }

-- The next group, and then the rest.
told_on : (left : ℕ) (p : Program) (m : Progress) → 0 < left → m.end ≡ None
    → groups_told left p m ≡ line (event_text (event_further p m)) ++ told (group_further p m) ++ groups_told (left - 1) p
    (group_further p m)
told_on zero p m some running = absurd (omega (arith, some))
told_on (suc n) p m some running =
    let less : suc n - 1 ≡ n = omega arith in
    rw less
    (ap (λ es. group_told es (group_further p m) ++ groups_told n p (group_further p m)) (opens 0 p m running)
    ∙ ap (λ text. text ++ groups_told n p (group_further p m)) (append-nil
    (line (event_text (event_further p m)) ++ told (group_further p m))))

told_before : (bytes event state rest : List ℕ) → bytes ++ event ++ state ++ rest ≡ bytes ++ (event ++ state ++ rest)
told_before bytes event state rest = ap (λ text. text ++ rest) (append_assoc bytes event state) ∙ append_assoc bytes (event ++ state) rest

pub goes_on : (p : Program) (groups : ℕ) (text : List ℕ) (now next : Execution) (left : ℕ) (bytes lined printed : List ℕ) (e : GroupEvent)
    → IsTraced p groups text now left bytes → 0 < left → now.progress.end ≡ None
    → next ≡ record now { progress = group_further now.program now.progress } → e ≡ event_further now.program now.progress
    → lined ≡ bytes ++ line (event_text e) → printed ≡ lined ++ told next.progress → IsTraced p groups text next (left - 1) printed
goes_on p groups text now next left bytes lined printed e t some running is_next is_event with_event with_state =
    let its : next.program ≡ p = ap (λ (x : Execution). x.program) is_next ∙ t.program in
    let came : next.progress ≡ group_further p now.progress =
    ap (λ (x : Execution). x.progress) is_next ∙ ap (λ q. group_further q now.progress) t.program in
    let event : e ≡ event_further p now.progress = is_event ∙ ap (λ q. event_further q now.progress) t.program in
    let more : next.progress.groups ≤ now.progress.groups + 1 =
    subst (λ (x : Progress). x.groups ≤ now.progress.groups + 1) (sym came) (one_group p now.progress) in
    record {
      program = its;
      few = omega (arith, more, some, t.few);
      rest = over_groups p now.progress next.progress left some came ∙ t.rest;
      printed =
          rw (with_state, with_event, event, came) (told_before bytes (line (event_text (event_further p now.progress)))
          (told (group_further p now.progress)) (groups_told (left - 1) p (group_further p now.progress))
          ∙ ap (λ rest. bytes ++ rest) (sym (told_on left p now.progress some running)) ∙ t.printed);
    }

-- Where the machine has come to the end, or no group is left.
pub record HasBeenTraced (p : Program) (groups : ℕ) (text : List ℕ) (now : Execution) (bytes : List ℕ) : Type 0 where
  pub came : now.progress ≡ groups_further groups p (begun (zero_state p))
  pub printed : bytes ≡ text

nothing_told : (left : ℕ) (p : Program) (m : Progress) → (left ≡ 0) ⊎ ((e : End) × (m.end ≡ Some e)) → groups_told left p m ≡ []
nothing_told left p m (inl none) = rw none refl
nothing_told left p m (inr over) = none_told left p m over.0 over.1

pub comes_to_end : (p : Program) (groups : ℕ) (text : List ℕ) (now : Execution) (left : ℕ) (bytes : List ℕ)
    → IsTraced p groups text now left bytes → (left ≡ 0) ⊎ ((e : End) × (now.progress.end ≡ Some e))
    → HasBeenTraced p groups text now bytes
comes_to_end p groups text now left bytes t over = record {
  came = sym (no_further left p now.progress over) ∙ t.rest;
  printed = sym (append-nil bytes) ∙ ap (λ rest. bytes ++ rest) (sym (nothing_told left p now.progress over)) ∙ t.printed;
}
