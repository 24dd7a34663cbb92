-- A run under way that watchers see.
use Rattle.std.proofs.Common.{◌≡◌, ◌≢◌, ℕ, zero, suc, ◌+◌, ◌-◌, ◌<◌, ◌≤◌, ◌^◌, ◌==◌, true, false, List, [], ◌∷◌, ◌++◌, length, map, zip, Option, Some, None, refl, sym, ap, ◌∙◌, subst, arith, inl, inr}
use Rattle.std.specs.Prelude.{flat_map, ◌⊎◌, if◌then◌else◌}
use Rattle.std.specs.List.{range_with_len}
use Rattle.ia_program.specs.declared.limits.TheConstants.{RUN_LIMIT}
use Rattle.ia_program.specs.declared.ending.End.{End}
use Rattle.ia_program.specs.declared.ending.GroupEvent.{GroupEvent}
use Rattle.ia_program.specs.Programs.{Program, IsProgram}
use Rattle.ia_meaning.specs.Progress.{Progress, begun, opened, advanced, advanced_unless, rest_by, to_group_end, group_further, groups_further}
use Rattle.ia_meaning.specs.Runs.{EventsAreOfRun, event_further, events_further}
use Rattle.ia_meaning.specs.State.{zero_state}
use Rattle.ia64_top.specs.Runs.{run_of}
use Rattle.ia_meaning.proofs.GroupEnds.{zero_is_place}
use Rattle.emulator.specs.Execution.{Execution}
use Rattle.emulator.proofs.Groups.{over_groups, no_further}
use Rattle.watch_seam.specs.Watchers.{WatchState}
use Rattle.watch_seam.specs.Watching.{AwaitGroups, IsAmidGroup, IsCutShort, left_after, numbered, numbered_report, reports, reports_after, staying}
use Rattle.watch_seam.proofs.Groups.{IsWatched, at_beginning, one_further, cut_amid, cut_between, cut_at_end, at_last}

-- A step opens one group at most, and none within a group.
opened_groups : (m : Progress) → (opened m).groups ≤ m.groups + 1
opened_groups m =
    elim (m.slots == 0) as (λ t. (if t then record m { groups = m.groups + 1; first = m.state.place } else m).groups ≤ m.groups + 1)
    [ true ↦ omega arith | false ↦ omega arith ]

within_groups : (m : Progress) → m.slots ≢ 0 → (opened m).groups ≡ m.groups
within_groups m within = grind (arith, within)

unless_groups : (e : Option End) (p : Program) (m : Progress) → (advanced_unless e p m).groups ≤ m.groups + 1
unless_groups (Some e) p m = omega arith
unless_groups None p m = opened_groups m

unless_within : (e : Option End) (p : Program) (m : Progress) → m.slots ≢ 0 → (advanced_unless e p m).groups ≡ m.groups
unless_within (Some e) p m within = refl
unless_within None p m within = within_groups m within

advanced_groups : (p : Program) (m : Progress) → (advanced p m).groups ≤ m.groups + 1
unfolding advanced
advanced_groups p m = unless_groups m.end p m

advanced_within : (p : Program) (m : Progress) → m.slots ≢ 0 → (advanced p m).groups ≡ m.groups
unfolding advanced
advanced_within p m within = unless_within m.end p m within

by_slots : (slots : ℕ) (next rest : Progress) → (slots ≢ 0 → rest.groups ≡ next.groups) → (rest_by slots next rest).groups ≡ next.groups
by_slots zero next rest more = refl
by_slots (suc slots) next rest more = more (λ none. omega (arith, none))

rest_within : (most : ℕ) (p : Program) (next : Progress) → (next.slots ≢ 0 → (to_group_end most p next).groups ≡ next.groups)
    → (rest_by next.slots next (to_group_end most p next)).groups ≡ next.groups
rest_within most p next more = by_slots next.slots next (to_group_end most p next) more

end_within : (most : ℕ) (p : Program) (m : Progress) → m.slots ≢ 0 → (to_group_end most p m).groups ≡ m.groups
end_within zero p m within = refl
end_within (suc most) p m within = rest_within most p (advanced p m) (end_within most p (advanced p m)) ∙ advanced_within p m within

end_groups : (most : ℕ) (p : Program) (m : Progress) → (to_group_end most p m).groups ≤ m.groups + 1
end_groups zero p m = omega arith
end_groups (suc most) p m =
    let rest = rest_within most p (advanced p m) (end_within most p (advanced p m)) in omega (arith, rest, advanced_groups p m)

-- One group further, at most one more began.
pub one_group : (p : Program) (m : Progress) → (group_further p m).groups ≤ m.groups + 1
unfolding group_further
one_group p m = end_groups RUN_LIMIT p m

-- The events from there on.
events_are : (left : ℕ) (p : Program) (m : Progress) → 0 < left → m.end ≡ None
    → events_further left p m ≡ event_further p m ∷ events_further (left - 1) p (group_further p m)
events_are zero p m some running = absurd (omega (arith, some))
events_are (suc n) p m some running = let less : suc n - 1 ≡ n = omega arith in rw (less, running) refl

no_events : (left : ℕ) (p : Program) (m : Progress) → (left ≡ 0) ⊎ ((e : End) × (m.end ≡ Some e)) → events_further left p m ≡ []
no_events left p m (inl none) = rw none refl
no_events zero p m (inr over) = refl
no_events (suc n) p m (inr over) = rw over.1 refl

-- The machine began so, and n groups are left of those that it was to run. A function says what watchers in boxes have seen.
pub record IsUnderWatch {B : Type 0} (seen : B → WatchState) (start : Execution) (groups : ℕ) (old : List WatchState) (now : Execution)
    (left : ℕ) (text numbers : List ℕ) (list : List B) : Type 0 where
  pub program : now.program ≡ start.program
  pub few : now.progress.groups + left < 2 ^ 64
  pub rest : groups_further left start.program now.progress ≡ groups_further groups start.program start.progress
  pub watched : IsWatched seen (events_further groups start.program start.progress) old (events_further left start.program now.progress)
      text numbers list

pub begins : {B : Type 0} (seen : B → WatchState) (m : Execution) (groups : ℕ) (text numbers : List ℕ) (list : List B)
    → m.progress.groups + groups < 2 ^ 64 → AwaitGroups (map seen list) → text ≡ [] → numbers ≡ range_with_len 0 (length list)
    → IsUnderWatch seen m groups (map seen list) m groups text numbers list
begins seen m groups text numbers list few room none from_0 =
    record {
      program = refl;
      few = few;
      rest = refl;
      watched = at_beginning seen (events_further groups m.program m.progress) text numbers list room none from_0;
    }

-- What is watched from there on, the next group first.
next_group : {B : Type 0} (seen : B → WatchState) (start : Execution) (groups : ℕ) (old : List WatchState) (now : Execution) (left : ℕ)
    (text numbers : List ℕ) (list : List B) (e : GroupEvent)
    → IsUnderWatch seen start groups old now left text numbers list → 0 < left → now.progress.end ≡ None
    → e ≡ event_further now.program now.progress
    → IsWatched seen (events_further groups start.program start.progress) old
    (e ∷ events_further (left - 1) start.program (group_further start.program now.progress)) text numbers list
next_group seen start groups old now left text numbers list e u some running is =
    let event : e ≡ event_further start.program now.progress = is ∙ ap (λ p. event_further p now.progress) u.program in
    let are =
    events_are left start.program now.progress some running ∙ ap
    (λ x. x ∷ events_further (left - 1) start.program (group_further start.program now.progress)) (sym event) in
    subst (λ events. IsWatched seen (events_further groups start.program start.progress) old events text numbers list) are u.watched

pub goes_on : {B : Type 0} (seen : B → WatchState) (start : Execution) (groups : ℕ) (old : List WatchState) (now : Execution) (left : ℕ)
    (text numbers : List ℕ) (list : List B) (e : GroupEvent) (next : Execution) (text_1 numbers_1 : List ℕ) (list_1 : List B)
    → IsUnderWatch seen start groups old now left text numbers list → 0 < left → now.progress.end ≡ None
    → next ≡ record now { progress = group_further now.program now.progress } → e ≡ event_further now.program now.progress
    → length numbers_1 ≡ length list_1 → text_1 ≡ text ++ reports_after e (zip numbers (map seen list))
    → zip numbers_1 (map seen list_1) ≡ left_after e (zip numbers (map seen list))
    → IsUnderWatch seen start groups old next (left - 1) text_1 numbers_1 list_1
goes_on seen start groups old now left text numbers list e next text_1 numbers_1 list_1 u some running is_next is_event as_many reported
    stay =
    let program : next.program ≡ start.program = ap (λ (x : Execution). x.program) is_next ∙ u.program in
    let came : next.progress ≡ group_further start.program now.progress =
    ap (λ (x : Execution). x.progress) is_next ∙ ap (λ p. group_further p now.progress) u.program in
    let more : next.progress.groups ≤ now.progress.groups + 1 =
    subst (λ (x : Progress). x.groups ≤ now.progress.groups + 1) (sym came) (one_group start.program now.progress) in
    let watched =
    one_further seen (events_further groups start.program start.progress) old e
    (events_further (left - 1) start.program (group_further start.program now.progress)) text numbers list text_1 numbers_1 list_1
    (next_group seen start groups old now left text numbers list e u some running is_event) as_many reported stay in
    record {
      program = program;
      few = omega (arith, more, some, u.few);
      rest = over_groups start.program now.progress next.progress left some came ∙ u.rest;
      watched =
          subst (λ m. IsWatched seen (events_further groups start.program start.progress) old (events_further (left - 1) start.program m)
          text_1 numbers_1 list_1) (sym came) watched;
    }

-- Where the group couldn't be shown to all watchers.
pub given_up : {B : Type 0} (seen : B → WatchState) (start : Execution) (groups : ℕ) (old : List WatchState) (now : Execution) (left : ℕ)
    (text numbers : List ℕ) (list : List B) (e : GroupEvent) (later : List WatchState)
    → IsUnderWatch seen start groups old now left text numbers list → 0 < left → now.progress.end ≡ None
    → e ≡ event_further now.program now.progress → IsAmidGroup (e ∷ []) 0 (map seen list) later
    → IsCutShort (events_further groups start.program start.progress) old later
given_up seen start groups old now left text numbers list e later u some running is amid =
    cut_amid seen (events_further groups start.program start.progress) old e
    (events_further (left - 1) start.program (group_further start.program now.progress)) text numbers list later
    (next_group seen start groups old now left text numbers list e u some running is) amid

-- Where it was given up between two groups.
pub given_up_between : {B : Type 0} (seen : B → WatchState) (start : Execution) (groups : ℕ) (old : List WatchState) (now : Execution)
    (left : ℕ) (text numbers : List ℕ) (list : List B)
    → IsUnderWatch seen start groups old now left text numbers list
    → IsCutShort (events_further groups start.program start.progress) old (map seen list)
given_up_between seen start groups old now left text numbers list u =
    cut_between seen (events_further groups start.program start.progress) old (events_further left start.program now.progress) text numbers
    list u.watched

-- Where the machine has come to the end.
pub record HasBeenWatched {B : Type 0} (seen : B → WatchState) (start : Execution) (groups : ℕ) (old : List WatchState) (now : Execution)
    (text numbers : List ℕ) (list : List B) : Type 0 where
  pub machine : now ≡ record start { progress = groups_further groups start.program start.progress }
  pub reported : text ++ flat_map numbered_report (zip numbers (map seen list))
      ≡ reports (events_further groups start.program start.progress) (numbered old)
  pub stay : map seen list ≡ staying (events_further groups start.program start.progress) old
  pub as_many : length numbers ≡ length list
  pub room : AwaitGroups (map seen list)

pub comes_to_end : {B : Type 0} (seen : B → WatchState) (start : Execution) (groups : ℕ) (old : List WatchState) (now : Execution)
    (left : ℕ) (text numbers : List ℕ) (list : List B)
    → IsUnderWatch seen start groups old now left text numbers list → (left ≡ 0) ⊎ ((e : End) × (now.progress.end ≡ Some e))
    → HasBeenWatched seen start groups old now text numbers list
comes_to_end seen start groups old now left text numbers list u over =
    let none = no_events left start.program now.progress over in
    let came : now.progress ≡ groups_further groups start.program start.progress =
    sym (no_further left start.program now.progress over) ∙ u.rest in
    let last = at_last seen (events_further groups start.program start.progress) old text numbers list
    (subst (λ events. IsWatched seen (events_further groups start.program start.progress) old events text numbers list) none u.watched) in
    record {
      machine = λ i. record { program = u.program i; progress = came i };
      reported = last.0;
      stay = last.1;
      as_many = (u.watched).as_many;
      room = (u.watched).room;
    }

-- The machine at the start of a program: its events are those of the run.
pub events_of_start : EventsAreOfRun → (groups : ℕ) (p : Program) (m : Execution) → IsProgram p
    → m ≡ record { program = p; progress = begun (zero_state p) }
    → events_further groups m.program m.progress ≡ (run_of p groups).events
events_of_start law groups p m program is =
    ap (λ (x : Execution). events_further groups x.program x.progress) is ∙ law groups p (zero_state p) program (zero_is_place p program)

-- The watchers that stay are the same where the events have another name.
pub stay_over : (events other : List GroupEvent) (old now : List WatchState) → events ≡ other → now ≡ staying events old
    → now ≡ staying other old
stay_over events other old now same is = subst (λ es. now ≡ staying es old) same is

pub cut_over : (events other : List GroupEvent) (old now : List WatchState) → events ≡ other → IsCutShort events old now
    → IsCutShort other old now
cut_over events other old now same is = subst (λ es. IsCutShort es old now) same is

-- Given up after all groups.
pub cut_after_all : (events other : List GroupEvent) (old now : List WatchState) → events ≡ other → now ≡ staying events old
    → IsCutShort other old now
cut_after_all events other old now same is =
    subst (IsCutShort other old) (sym (stay_over events other old now same is)) (cut_at_end other old)
