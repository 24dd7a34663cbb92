-- The groups of a run under way as events.
use Rattle.std.proofs.Common.{◌≡◌, ℕ, zero, suc, ◌+◌, Option, Some, None, refl, ap, ◌∙◌, subst, arith, ◌-◌}
use Rattle.ia_program.specs.declared.limits.TheConstants.{RUN_LIMIT}
use Rattle.ia_program.specs.declared.place.Place.{Place}
use Rattle.ia_program.specs.declared.ending.How.{How}
use Rattle.ia_program.specs.declared.ending.GroupEvent.{GroupEvent}
use Rattle.ia_program.specs.Programs.{Program}
use Rattle.ia_meaning.specs.State.{State}
use Rattle.ia_meaning.specs.Steps.{Step, seq_step, Group, group_by, group_within, seq_group, how_of, event_of}
use Rattle.ia_meaning.specs.Progress.{Progress, opened, slots_after, stepped, advanced}
use Rattle.ia_meaning.specs.Runs.{event_by, event_to_end, event_further}
use Rattle.ia_meaning.proofs.GroupEnds.{opened_keeps}
use Rattle.ia_meaning.proofs.WholeRuns.{opened_between, opened_within, advanced_is, step_goes_on, after_step}

-- The event of a group under way that ends so.
abbrev pub event_ending : Progress → Place → ℕ → How → GroupEvent
event_ending m last slots how = record { number = m.groups; first = m.first; last = last; slots = slots; how = how }

with_slots : (m : Progress) (last : Place) (how : How) (n k : ℕ) → n ≡ k → event_ending m last n how ≡ event_ending m last k how
with_slots m last how n k e = ap (λ (slots : ℕ). event_ending m last slots how) e

-- The event of a group under way and the rest of it.
abbrev pub event_with : Progress → Group → GroupEvent
event_with m group = event_ending m group.last (m.slots + group.slots) (how_of group.how)

-- What a lemma says of a group under way and a bound on its slots.
abbrev pub ComesToEvent : ℕ → Program → Type 0
ComesToEvent most p =
    (m : Progress) → m.end ≡ None → (k : ℕ) → m.slots ≡ suc k → event_to_end most p m ≡ event_with m (group_within most p m.state)

-- After one slot that doesn't end the group.
event_after : (m : Progress) (step : Step) (rest : Group) → step.how ≡ None
    → event_with (stepped m step) rest ≡ event_ending m rest.last (m.slots + suc rest.slots) (how_of rest.how)
event_after m step rest e =
    let s = after_step m.slots step.how e in
    with_slots m rest.last (how_of rest.how) (slots_after m.slots step.how + rest.slots) (m.slots + suc rest.slots) (omega arith)

-- One slot more at the front.
step_event : (p : Program) (m : Progress) (step : Step) (rest : Group) (event : GroupEvent) (h : Option How) → step.how ≡ h
    → (step.how ≡ None → event ≡ event_with (stepped m step) rest) → event_by m h event ≡ event_with m (group_by p m.state step h rest)
step_event p m step rest event (Some how) e comes = refl
step_event p m step rest event None e comes = comes e ∙ event_after m step rest e

next_event : (most : ℕ) (p : Program) (m : Progress) → m.end ≡ None → ComesToEvent most p
    → event_to_end (suc most) p m ≡ event_with (opened m) (group_within (suc most) p m.state)
next_event most p m none comes =
    step_event p (opened m) (seq_step p m.state) (group_within most p (seq_step p m.state).state) (event_to_end most p (advanced p m))
    (seq_step p m.state).how refl
    (λ e. ap (event_to_end most p) (advanced_is p m none) ∙ comes (stepped (opened m) (seq_step p m.state)) (step_goes_on p m.state e)
    (opened m).slots (after_step (opened m).slots (seq_step p m.state).how e))
    ∙ ap (λ (s : State). event_with (opened m) (group_by p s (seq_step p m.state)
    (seq_step p m.state).how (group_within most p (seq_step p m.state).state))) (opened_keeps m).state

comes_to_event : (most : ℕ) (p : Program) → ComesToEvent most p
comes_to_event zero p = λ m none k e. with_slots m m.state.place (how_of None) m.slots (m.slots + 0) (omega arith)
comes_to_event (suc most) p = λ m none k e.
    subst (λ (o : Progress). event_to_end (suc most) p m ≡ event_with o (group_within (suc most) p m.state)) (opened_within m k e)
    (next_event most p m none (comes_to_event most p))

-- Between two groups it is that of the next group.
event_between : (m : Progress) (group : Group) → m.slots ≡ 0 → event_with (opened m) group ≡ event_of (m.groups + 1) m.state.place group
event_between m group e =
    ap (λ (o : Progress). event_with o group) (opened_between m e)
    ∙ with_slots (record m { groups = m.groups + 1; first = m.state.place }) group.last (how_of group.how)
    (m.slots + group.slots) group.slots (omega arith)

pub event_is_of_group : (p : Program) (m : Progress) → m.end ≡ None → m.slots ≡ 0
    → event_further p m ≡ event_of (m.groups + 1) m.state.place (seq_group p m.state)
unfolding event_further
event_is_of_group p m none slots =
    next_event (RUN_LIMIT - 1) p m none (comes_to_event (RUN_LIMIT - 1) p) ∙ event_between m (seq_group p m.state) slots
