-- The rest of a group after a step of it.
use Rattle.std.proofs.Common.{◌≡◌, ℕ, zero, suc, ◌+◌, ◌≤◌, List, ◌++◌, Option, Some, None, refl, sym, ap, ◌∙◌, subst, arith, ◌-◌}
use Rattle.std.specs.Prelude.{◌≢◌}
use Rattle.ia_program.specs.declared.limits.TheConstants.{RUN_LIMIT}
use Rattle.ia_program.specs.declared.ending.How.{How}
use Rattle.ia_program.specs.declared.ending.GroupEvent.{GroupEvent}
use Rattle.ia_program.specs.Programs.{Program, IsProgram}
use Rattle.ia_meaning.specs.Steps.{seq_step}
use Rattle.ia_meaning.specs.Progress.{Progress, opened, slots_after, advanced, rest_by, to_group_end, group_further}
use Rattle.ia_meaning.specs.Runs.{IsUnderWay, event_by, event_to_end, event_further, frames_by, frames_to_group_end, group_frames}
use Rattle.ia_meaning.proofs.GroupEnds.{opened_keeps, advances_under_way, has_few_slots, IsInGroup}
use Rattle.ia_meaning.proofs.WholeRuns.{advanced_is, step_goes_on, after_step}

-- A step that doesn't end its group leaves it under way.
step_in_group : (p : Program) (m : Progress) → m.end ≡ None → (seq_step p m.state).how ≡ None → IsInGroup m (advanced p m)
step_in_group p m none e =
    let o = opened_keeps m in
    let s = after_step (opened m).slots (seq_step p m.state).how e in
    subst (λ (a : Progress). IsInGroup m a) (sym (advanced_is p m none))
    (record { slots = omega (arith, o.slots, s); end = step_goes_on p m.state e })

-- A group that isn't over goes on.
goes_on : (slots : ℕ) (h : Option How) → slots_after slots h ≢ 0 → h ≡ None
goes_on slots (Some how) e = absurd (e refl)
goes_on slots None e = refl

how_within : (p : Program) (m : Progress) → m.end ≡ None → (advanced p m).slots ≢ 0 → (seq_step p m.state).how ≡ None
how_within p m none more =
    goes_on (opened m).slots (seq_step p m.state).how (λ e. more (ap (λ (a : Progress). a.slots) (advanced_is p m none) ∙ e))

-- A group that ends there has no rest.
ends_here : (p : Program) (m : Progress) (how : How) → m.end ≡ None → (seq_step p m.state).how ≡ Some how → (advanced p m).slots ≡ 0
ends_here p m how none e = ap (λ (a : Progress). a.slots) (advanced_is p m none) ∙ ap (slots_after (opened m).slots) e

-- What is the same with one step more, where the steps are enough for the group to be over.
pub record IsSameWithMore (most : ℕ) (p : Program) (m : Progress) : Type 0 where
  pub group : to_group_end (suc most) p m ≡ to_group_end most p m
  pub event : event_to_end (suc most) p m ≡ event_to_end most p m
  pub frames : frames_to_group_end (suc most) p m ≡ frames_to_group_end most p m

-- Where the group ends at the next slot, what more steps would give isn't used.
same_ended : (next rest other : Progress) → next.slots ≡ 0 → rest_by next.slots next rest ≡ rest_by next.slots next other
same_ended next rest other e = rw e refl

same_here : (most : ℕ) (p : Program) (m : Progress) (how : How) → m.end ≡ None → (seq_step p m.state).how ≡ Some how
    → IsSameWithMore (suc most) p m
same_here most p m how none e = record {
  group =
      same_ended (advanced p m) (to_group_end (suc most) p (advanced p m)) (to_group_end most p (advanced p m)) (ends_here p m how none e);
  event = rw e refl;
  frames = rw e refl;
}

-- Where it goes on, the rest is the same.
same_after : (most : ℕ) (p : Program) (m : Progress) → IsSameWithMore most p (advanced p m) → IsSameWithMore (suc most) p m
same_after most p m same =
    let next = advanced p m in
    let step = seq_step p m.state in
    record {
      group = ap (λ (rest : Progress). rest_by next.slots next rest) same.group;
      event = ap (λ (rest : GroupEvent). event_by (opened m) step.how rest) same.event;
      frames = ap (λ (rest : List (ℕ × ℕ)). frames_by step.how step.frames rest) same.frames;
    }

-- The group is over here, or goes on.
same_by : (most : ℕ) (p : Program) (m : Progress) → m.end ≡ None → ((seq_step p m.state).how ≡ None → IsSameWithMore most p (advanced p m))
    → (h : Option How) → (seq_step p m.state).how ≡ h → IsSameWithMore (suc most) p m
same_by most p m none on (Some how) e = same_here most p m how none e
same_by most p m none on None e = same_after most p m (on e)

same_with_more : (most : ℕ) (p : Program) (m : Progress) → IsProgram p → IsUnderWay p m → m.end ≡ None → RUN_LIMIT ≤ m.slots + most
    → IsSameWithMore most p m
same_with_more zero p m program u none enough = let few = has_few_slots p m program u in absurd (omega arith)
same_with_more (suc most) p m program u none enough =
    same_by most p m none
    (λ e.
    let g = step_in_group p m none e in
    same_with_more most p (advanced p m) program (advances_under_way p m program u) g.end (omega (arith, g.slots)))
    (seq_step p m.state).how refl

rest_further : (next rest : Progress) → next.slots ≢ 0 → rest_by next.slots next rest ≡ rest
rest_further next rest more = of next.slots refl
  where
    of : (k : ℕ) → next.slots ≡ k → rest_by k next rest ≡ rest
    of zero e = absurd (more e)
    of (suc k) e = refl

-- The rest of a group, in at most `most` steps.
pub record IsRest (most : ℕ) (p : Program) (m : Progress) : Type 0 where
  pub group : to_group_end (suc most) p m ≡ to_group_end most p (advanced p m)
  pub event : event_to_end (suc most) p m ≡ event_to_end most p (advanced p m)
  pub frames : frames_to_group_end (suc most) p m ≡ (seq_step p m.state).frames ++ frames_to_group_end most p (advanced p m)

rest_after_step : (most : ℕ) (p : Program) (m : Progress) → m.end ≡ None → (advanced p m).slots ≢ 0 → IsRest most p m
rest_after_step most p m none more =
    let e = how_within p m none more in
    record {
      group = rest_further (advanced p m) (to_group_end most p (advanced p m)) more;
      event = rw e refl;
      frames = rw e refl;
    }

-- After a step that doesn't end its group the rest of the group comes to the same.
pub rest_of_group : (p : Program) (m : Progress) → IsProgram p → IsUnderWay p m → m.end ≡ None → (advanced p m).slots ≢ 0
    → (group_further p (advanced p m) ≡ group_further p m) × (event_further p (advanced p m) ≡ event_further p m)
    × ((seq_step p m.state).frames ++ group_frames p (advanced p m) ≡ group_frames p m)
unfolding group_further event_further group_frames
rest_of_group p m program u none more =
    let g = step_in_group p m none (how_within p m none more) in
    let r = rest_after_step (RUN_LIMIT - 1) p m none more in
    let s = same_with_more (RUN_LIMIT - 1) p (advanced p m) program (advances_under_way p m program u) g.end (omega (arith, g.slots)) in (
      s.group ∙ sym r.group,
      s.event ∙ sym r.event,
      ap (λ (rest : List (ℕ × ℕ)). (seq_step p m.state).frames ++ rest) s.frames
          ∙ sym r.frames,
    )
